-- After a move the entries tell what the configuration is made of.
use Rattle.std.proofs.Common.{◌≡◌, ◌⊎◌, inl, inr, ℕ, suc, ◌<◌, Bool, true, false, ◌||◌, List, ◌++◌, append-nil, Option, Some, None, is_some, refl, sym, ap, subst, ◌∙◌, arith}
use Rattle.std.specs.FinMap.{get, insert}
use Rattle.core_language.specs.Names.{Name, NameMap, child, same_name}
use Rattle.core_language.specs.Values.{Value}
use Rattle.core_language.specs.Configurations.{Config, Place, Ended, Task}
use Rattle.core_language.specs.Acts.{Act}
use Rattle.core_language.specs.Acts as act
use Rattle.core_language.specs.Steps.{Event, Fork, Send, Recv}
use Rattle.core_language.specs.Rounds.{Entry, event_entries}
use Rattle.machine_rounds.proofs.Rounded.{same-self, same-is}
use Rattle.task_rounds.specs.Members.{In}
use Rattle.task_rounds.specs.Telling.{is_fork_of, is_send_on, is_receive_on, was_made, was_sent, was_received, IsTold, forks_made, printed_by, named_prints, Tells}
use Rattle.task_rounds.proofs.Members.{in_either, member_any}
use Rattle.task_rounds.proofs.Names.{by_name, by_removed, child-is}
use Rattle.task_rounds.specs.Tasks.{placed}
use Rattle.task_rounds.proofs.Moving.{Moved, ByItself, Prints, Forks, Sends, Receives, Ends}
use Rattle.task_rounds.proofs.Telling.{or_false, or_true, told_after, new_entry, once_after, prints-append, prints_new, sends_on_empty, receives_full}

pub less_itself : (k : ℕ) → k < k → ⊥
less_itself k h = omega arith

module _ (C : Config) (p : Name) (t : Task) (there : get C.tasks p ≡ Some t) (es : List Entry) (tells : Tells es C) where
  k : ℕ
  k = t.forks

  own : forks_made (get C.tasks p) ≡ t.forks
  own = ap forks_made there

  -- the name of the next fork isn't in use
  free_task : is_some (get C.tasks (child p t.forks)) ≡ true → ⊥
  free_task h = less_itself t.forks (subst (λ n. t.forks < n) own (tells.tasks p t.forks h))

  free_channel : is_some (get C.channels (child p t.forks)) ≡ true → ⊥
  free_channel h = less_itself t.forks (subst (λ n. t.forks < n) own (tells.channels p t.forks h))

  not_made : was_made (child p t.forks) es ≡ true → ⊥
  not_made h = less_itself t.forks (subst (λ n. t.forks < n) own (tells.made p t.forks h))

  -- ---- a task at another place

  put_stays : (place : Place) (q : Name) → is_some (get C.tasks q) ≡ true → is_some (get (insert C.tasks p (placed place t.forks)) q) ≡ true
  put_stays place q h = by_name C.tasks p (placed place t.forks) (λ o. is_some o ≡ true) q (λ e. refl) (λ e. h)

  put_grows : (place : Place) (q : Name) (j : ℕ) → j < forks_made (get C.tasks q) → j < forks_made (get (insert C.tasks p (placed place t.forks)) q)
  put_grows place q j h = by_name C.tasks p (placed place t.forks) (λ o. j < forks_made o) q (λ e. subst (λ n. j < n) (ap (λ r. forks_made (get C.tasks r)) e ∙ own) h) (λ e. h)

  put_made : (place : Place) (q : Name) (j : ℕ) → is_some (get (insert C.tasks p (placed place t.forks)) (child q j)) ≡ true → j < forks_made (get (insert C.tasks p (placed place t.forks)) q)
  put_made place q j = by_name C.tasks p (placed place t.forks) (λ o. is_some o ≡ true → j < forks_made (get (insert C.tasks p (placed place t.forks)) q)) (child q j)
      (λ e h. put_grows place q j (tells.tasks q j (ap (λ r. is_some (get C.tasks r)) e ∙ ap is_some there)))
      (λ e h. put_grows place q j (tells.tasks q j h))

  -- ---- a fork

  module _ (c : Name) (parent its : Place) (named : c ≡ child p t.forks) where
    two : NameMap Task
    two = insert (insert C.tasks p (placed parent (suc t.forks))) c (placed its 0)

    not_itself : p ≡ c → ⊥
    not_itself e = free_task (ap (λ r. is_some (get C.tasks r)) (sym (e ∙ named)) ∙ ap is_some there)

    fork_stays : (q : Name) → is_some (get C.tasks q) ≡ true → is_some (get (insert (insert C.tasks p (placed parent (suc t.forks))) c (placed its 0)) q) ≡ true
    fork_stays q h = by_name (insert C.tasks p (placed parent (suc t.forks))) c (placed its 0) (λ o. is_some o ≡ true) q (λ e. refl)
        (λ e. by_name C.tasks p (placed parent (suc t.forks)) (λ o. is_some o ≡ true) q (λ e. refl) (λ e. h))

    none_here : (q : Name) (j : ℕ) → q ≡ c → j < forks_made (get C.tasks q) → ⊥
    none_here q j e h = by (get C.tasks q) refl h
      where
        by : (o : Option Task) → get C.tasks q ≡ o → j < forks_made o → ⊥
        by None g l = omega arith
        by (Some u) g l = free_task (ap (λ r. is_some (get C.tasks r)) (sym (e ∙ named)) ∙ ap is_some g)

    fork_grows : (q : Name) (j : ℕ) → j < forks_made (get C.tasks q) → j < forks_made (get (insert (insert C.tasks p (placed parent (suc t.forks))) c (placed its 0)) q)
    fork_grows q j h = by_name (insert C.tasks p (placed parent (suc t.forks))) c (placed its 0) (λ o. j < forks_made o) q
        (λ e. absurd (none_here q j e h))
        (λ e. by_name C.tasks p (placed parent (suc t.forks)) (λ o. j < forks_made o) q (λ e. let less : j < t.forks = subst (λ n. j < n) (ap (λ r. forks_made (get C.tasks r)) e ∙ own) h in omega arith) (λ e. h))

    -- the parent has made one more
    counts : t.forks < forks_made (get (insert (insert C.tasks p (placed parent (suc t.forks))) c (placed its 0)) p)
    counts = by_name (insert C.tasks p (placed parent (suc t.forks))) c (placed its 0) (λ o. t.forks < forks_made o) p
        (λ e. absurd (not_itself e))
        (λ e. by_name C.tasks p (placed parent (suc t.forks)) (λ o. t.forks < forks_made o) p (λ e. omega arith) (λ e. let bad = sym (same-self p) ∙ e in cc))

    new_name : (q : Name) (j : ℕ) → child q j ≡ c → j < forks_made (get (insert (insert C.tasks p (placed parent (suc t.forks))) c (placed its 0)) q)
    new_name q j e =
        let (names, numbers) = child-is q p j t.forks (e ∙ named) in
        subst (λ r. j < forks_made (get (insert (insert C.tasks p (placed parent (suc t.forks))) c (placed its 0)) r)) (sym names)
        (subst (λ n. n < forks_made (get (insert (insert C.tasks p (placed parent (suc t.forks))) c (placed its 0)) p)) (sym numbers) counts)

    fork_made : (q : Name) (j : ℕ) → is_some (get (insert (insert C.tasks p (placed parent (suc t.forks))) c (placed its 0)) (child q j)) ≡ true → j < forks_made (get (insert (insert C.tasks p (placed parent (suc t.forks))) c (placed its 0)) q)
    fork_made q j = by_name (insert C.tasks p (placed parent (suc t.forks))) c (placed its 0) (λ o. is_some o ≡ true → j < forks_made (get (insert (insert C.tasks p (placed parent (suc t.forks))) c (placed its 0)) q)) (child q j)
        (λ e h. new_name q j e)
        (λ e. by_name C.tasks p (placed parent (suc t.forks)) (λ o. is_some o ≡ true → j < forks_made (get (insert (insert C.tasks p (placed parent (suc t.forks))) c (placed its 0)) q)) (child q j)
        (λ e h. fork_grows q j (tells.tasks q j (ap (λ r. is_some (get C.tasks r)) e ∙ ap is_some there)))
        (λ e h. fork_grows q j (tells.tasks q j h)))

  -- ---- each move

  -- a fork that the act makes has the name of the next one
  abbrev pub IsNamed : Act → Type 0
  IsNamed a = (c : Name) (parent its : Place) → a ≡ act.Fork c parent its → c ≡ child p t.forks

  pub stays : (a : Act) (D : Config) (e : Event) → Moved C p t.forks a D e → (q : Name) → is_some (get C.tasks q) ≡ true → is_some (get D.tasks q) ≡ true
  stays a D e (ByItself place) q h = put_stays place q h
  stays a D e (Prints z place) q h = put_stays place q h
  stays a D e (Forks c parent its) q h =
      by_name (insert C.tasks p (placed parent (suc t.forks))) c (placed its 0) (λ o. is_some o ≡ true) q (λ e. refl)
      (λ e. by_name C.tasks p (placed parent (suc t.forks)) (λ o. is_some o ≡ true) q (λ e. refl) (λ e. h))
  stays a D e (Sends c v place empty) q h = put_stays place q h
  stays a D e (Receives c v place full) q h = put_stays (place v) q h
  stays a D e Ends q h = put_stays Ended q h

  grows : (a : Act) (D : Config) (e : Event) → Moved C p t.forks a D e → IsNamed a → (q : Name) (j : ℕ) → j < forks_made (get C.tasks q) → j < forks_made (get D.tasks q)
  grows a D e (ByItself place) named q j h = put_grows place q j h
  grows a D e (Prints z place) named q j h = put_grows place q j h
  grows a D e (Forks c parent its) named q j h = fork_grows c parent its (named c parent its refl) q j h
  grows a D e (Sends c v place empty) named q j h = put_grows place q j h
  grows a D e (Receives c v place full) named q j h = put_grows (place v) q j h
  grows a D e Ends named q j h = put_grows Ended q j h

  tasks_made : (a : Act) (D : Config) (e : Event) → Moved C p t.forks a D e → IsNamed a → (q : Name) (j : ℕ) → is_some (get D.tasks (child q j)) ≡ true → j < forks_made (get D.tasks q)
  tasks_made a D e (ByItself place) named q j h = put_made place q j h
  tasks_made a D e (Prints z place) named q j h = put_made place q j h
  tasks_made a D e (Forks c parent its) named q j h = fork_made c parent its (named c parent its refl) q j h
  tasks_made a D e (Sends c v place empty) named q j h = put_made place q j h
  tasks_made a D e (Receives c v place full) named q j h = put_made (place v) q j h
  tasks_made a D e Ends named q j h = put_made Ended q j h

  channels_made : (a : Act) (D : Config) (e : Event) → Moved C p t.forks a D e → IsNamed a → (q : Name) (j : ℕ) → is_some (get D.channels (child q j)) ≡ true → j < forks_made (get D.tasks q)
  channels_made a D e (ByItself place) named q j h = put_grows place q j (tells.channels q j h)
  channels_made a D e (Prints z place) named q j h = put_grows place q j (tells.channels q j h)
  channels_made a D e (Forks c parent its) named q j h =
      by_name C.channels c None (λ o. is_some o ≡ true → j < forks_made (get (insert (insert C.tasks p (placed parent (suc t.forks))) c (placed its 0)) q)) (child q j)
      (λ e h. new_name c parent its (named c parent its refl) q j e) (λ e h. fork_grows c parent its (named c parent its refl) q j (tells.channels q j h)) h
  channels_made a D e (Sends c v place empty) named q j h =
      by_name C.channels c (Some v) (λ o. is_some o ≡ true → j < forks_made (get (insert C.tasks p (placed place t.forks)) q)) (child q j)
      (λ e h. put_grows place q j (tells.channels q j (ap (λ r. is_some (get C.channels r)) e ∙ ap is_some empty))) (λ e h. put_grows place q j (tells.channels q j h)) h
  channels_made a D e (Receives c v place full) named q j h =
      by_removed C.channels c (λ o. is_some o ≡ true → j < forks_made (get (insert C.tasks p (placed (place v) t.forks)) q)) (child q j)
      (λ e h. let bad : ⊥ = cc in absurd bad) (λ e h. put_grows (place v) q j (tells.channels q j h)) h
  channels_made a D e Ends named q j h = put_grows Ended q j (tells.channels q j h)

  -- ---- the entries

  forks_new : (a : Act) (D : Config) (e : Event) → Moved C p t.forks a D e → IsNamed a → (q : Name) (j : ℕ) → is_fork_of (child q j) e ≡ true → j < forks_made (get D.tasks q)
  forks_new a D e (ByItself place) named q j h = let bad : ⊥ = cc in absurd bad
  forks_new a D e (Prints z place) named q j h = let bad : ⊥ = cc in absurd bad
  forks_new a D e (Forks c parent its) named q j h = new_name c parent its (named c parent its refl) q j (same-is (child q j) c h)
  forks_new a D e (Sends c v place empty) named q j h = let bad : ⊥ = cc in absurd bad
  forks_new a D e (Receives c v place full) named q j h = let bad : ⊥ = cc in absurd bad
  forks_new a D e Ends named q j h = let bad : ⊥ = cc in absurd bad

  entries_made : (time : ℕ) (a : Act) (D : Config) (e : Event) → Moved C p t.forks a D e → IsNamed a → (q : Name) (j : ℕ) → was_made (child q j) (es ++ event_entries time p e) ≡ true → j < forks_made (get D.tasks q)
  entries_made time a D e m named q j h = by (was_made (child q j) es) refl (sym (told_after (is_fork_of (child q j)) refl time p e es) ∙ h)
    where
      by : (b : Bool) → was_made (child q j) es ≡ b → (b || is_fork_of (child q j) e) ≡ true → j < forks_made (get D.tasks q)
      by true old h = grows a D e m named q j (tells.made q j old)
      by false old h = forks_new a D e m named q j h

  abbrev Stage : Name → Event → Option (Option Value) → Type 0
  Stage d e o = IsTold (was_made d es || is_fork_of d e) (was_sent d es || is_send_on d e) (was_received d es || is_receive_on d e) o

  -- where the event doesn't speak of the channel
  untold : (m s r : Bool) (o : Option (Option Value)) → IsTold m s r o → IsTold (m || false) (s || false) (r || false) o
  untold m s r o h = subst (λ b. IsTold b (s || false) (r || false) o) (sym (or_false m)) (subst (λ b. IsTold m b (r || false) o) (sym (or_false s)) (subst (λ b. IsTold m s b o) (sym (or_false r)) h))

  unmade : (m s r : Bool) → m ≡ false → IsTold m s r None → IsTold (m || true) (s || false) (r || false) (Some None)
  unmade m s r e (inl (made, sent, received)) = (or_true m, or_false s ∙ sent, or_false r ∙ received)
  unmade m s r e (inr (made, sent, received)) = let both = sym e ∙ made in let bad : ⊥ = cc in absurd bad

  stages_after : (a : Act) (D : Config) (e : Event) → Moved C p t.forks a D e → IsNamed a → (d : Name) → Stage d e (get D.channels d)
  stages_after a D e (ByItself place) named d = untold _ _ _ _ (tells.stages d)
  stages_after a D e (Prints z place) named d = untold _ _ _ _ (tells.stages d)
  stages_after a D e Ends named d = untold _ _ _ _ (tells.stages d)
  stages_after a D e (Forks c parent its) named d = by_name C.channels c None (Stage d (Fork c)) d here there_too
    where
      gone : (o : Option (Option Value)) → get C.channels d ≡ o → d ≡ c → get C.channels d ≡ None
      gone None g e = g
      gone (Some o) g e = absurd (free_channel (ap (λ r. is_some (get C.channels r)) (sym (e ∙ named c parent its refl)) ∙ ap is_some g))

      fresh : (b : Bool) → was_made d es ≡ b → d ≡ c → was_made d es ≡ false
      fresh false g e = g
      fresh true g e = absurd (not_made (ap (λ r. was_made r es) (sym (e ∙ named c parent its refl)) ∙ g))

      here : d ≡ c → Stage d (Fork c) (Some None)
      here e = subst (λ b. IsTold (was_made d es || b) (was_sent d es || false) (was_received d es || false) (Some None)) (sym (ap (λ r. same_name r c) e ∙ same-self c))
          (unmade _ _ _ (fresh _ refl e) (subst (IsTold _ _ _) (gone _ refl e) (tells.stages d)))

      there_too : same_name d c ≡ false → Stage d (Fork c) (get C.channels d)
      there_too e = subst (λ b. IsTold (was_made d es || b) (was_sent d es || false) (was_received d es || false) (get C.channels d)) (sym e) (untold _ _ _ _ (tells.stages d))
  stages_after a D e (Sends c v place empty) named d = by_name C.channels c (Some v) (Stage d (Send c)) d here there_too
    where
      filled : (m s r : Bool) → IsTold m s r (Some None) → IsTold (m || false) (s || true) (r || false) (Some (Some v))
      filled m s r (made, sent, received) = (or_false m ∙ made, or_true s, or_false r ∙ received)

      here : d ≡ c → Stage d (Send c) (Some (Some v))
      here e = subst (λ b. IsTold (was_made d es || false) (was_sent d es || b) (was_received d es || false) (Some (Some v))) (sym (ap (λ r. same_name r c) e ∙ same-self c))
          (filled _ _ _ (subst (IsTold _ _ _) (ap (get C.channels) e ∙ empty) (tells.stages d)))

      there_too : same_name d c ≡ false → Stage d (Send c) (get C.channels d)
      there_too e = subst (λ b. IsTold (was_made d es || false) (was_sent d es || b) (was_received d es || false) (get C.channels d)) (sym e) (untold _ _ _ _ (tells.stages d))
  stages_after a D e (Receives c v place full) named d = by_removed C.channels c (Stage d (Recv c)) d here there_too
    where
      emptied : (m s r : Bool) → IsTold m s r (Some (Some v)) → IsTold (m || false) (s || false) (r || true) None
      emptied m s r (made, sent, received) = inr (or_false m ∙ made, or_false s ∙ sent, or_true r)

      here : d ≡ c → Stage d (Recv c) None
      here e = subst (λ b. IsTold (was_made d es || false) (was_sent d es || false) (was_received d es || b) None) (sym (ap (λ r. same_name r c) e ∙ same-self c))
          (emptied _ _ _ (subst (IsTold _ _ _) (ap (get C.channels) e ∙ full) (tells.stages d)))

      there_too : same_name d c ≡ false → Stage d (Recv c) (get C.channels d)
      there_too e = subst (λ b. IsTold (was_made d es || false) (was_sent d es || false) (was_received d es || b) (get C.channels d)) (sym e) (untold _ _ _ _ (tells.stages d))

  owners_after : (time : ℕ) (a : Act) (D : Config) (e : Event) → Moved C p t.forks a D e → (x : Entry) → In x (es ++ event_entries time p e) → is_some (get D.tasks x.name) ≡ true
  owners_after time a D e m x h = by (in_either x es _ h)
    where
      by : In x es ⊎ In x (event_entries time p e) → is_some (get D.tasks x.name) ≡ true
      by (inl old) = stays a D e m x.name (tells.owners x old)
      by (inr new) = stays a D e m x.name (ap (λ r. is_some (get C.tasks r)) (new_entry time p e x new).1 ∙ ap is_some there)

  -- a channel that is Empty was not sent on, and one that is Full was not received
  empty_unsent : (c : Name) → get C.channels c ≡ Some None → (x : Entry) → In x es → x.event ≡ Send c → ⊥
  empty_unsent c empty x h is =
      let sent : was_sent c es ≡ true = member_any (λ y. is_send_on c y.event) x es h (ap (is_send_on c) is ∙ same-self c) in
      let (made, unsent, unreceived) = stage in
      let both = sym sent ∙ unsent in
      cc
    where
      stage : IsTold (was_made c es) (was_sent c es) (was_received c es) (Some None)
      stage = subst (IsTold (was_made c es) (was_sent c es) (was_received c es)) empty (tells.stages c)

  full_unreceived : (c : Name) (v : Value) → get C.channels c ≡ Some (Some v) → (x : Entry) → In x es → x.event ≡ Recv c → ⊥
  full_unreceived c v full x h is =
      let got : was_received c es ≡ true = member_any (λ y. is_receive_on c y.event) x es h (ap (is_receive_on c) is ∙ same-self c) in
      let (made, sent, unreceived) = stage in
      let both = sym got ∙ unreceived in
      cc
    where
      stage : IsTold (was_made c es) (was_sent c es) (was_received c es) (Some (Some v))
      stage = subst (IsTold (was_made c es) (was_sent c es) (was_received c es)) full (tells.stages c)

  prints_after : (time : ℕ) (a : Act) (D : Config) (e : Event) → Moved C p t.forks a D e → D.prints ≡ named_prints (es ++ event_entries time p e)
  prints_after time a D e m = by a D e m ∙ ap (λ l. l ++ printed_by p e) tells.prints ∙ ap (λ l. named_prints es ++ l) (sym (prints_new time p e)) ∙ sym (prints-append es (event_entries time p e))
    where
      by : (a : Act) (D : Config) (e : Event) → Moved C p t.forks a D e → D.prints ≡ C.prints ++ printed_by p e
      by a D e (ByItself place) = sym (append-nil C.prints)
      by a D e (Prints z place) = refl
      by a D e (Forks c parent its) = sym (append-nil C.prints)
      by a D e (Sends c v place empty) = sym (append-nil C.prints)
      by a D e (Receives c v place full) = sym (append-nil C.prints)
      by a D e Ends = sym (append-nil C.prints)

  pub told_moved : (time : ℕ) (a : Act) (D : Config) (e : Event) → Moved C p t.forks a D e → IsNamed a → Tells (es ++ event_entries time p e) D
  told_moved time a D e m named = record {
    tasks = tasks_made a D e m named;
    channels = channels_made a D e m named;
    made = entries_made time a D e m named;
    stages = λ d.
        subst (λ b. IsTold b (was_sent d (es ++ event_entries time p e)) (was_received d (es ++ event_entries time p e)) (get D.channels d)) (sym (told_after (is_fork_of d) refl time p e es))
        (subst (λ b. IsTold (was_made d es || is_fork_of d e) b (was_received d (es ++ event_entries time p e)) (get D.channels d)) (sym (told_after (is_send_on d) refl time p e es))
        (subst (λ b. IsTold (was_made d es || is_fork_of d e) (was_sent d es || is_send_on d e) b (get D.channels d)) (sym (told_after (is_receive_on d) refl time p e es))
        (stages_after a D e m named d)));
    owners = owners_after time a D e m;
    sends = λ c. once_after (Send c) time p e es (tells.sends c) (λ x h is sends_it. empty_unsent c (sends_on_empty a D e m c sends_it) x h is);
    receives = λ c. once_after (Recv c) time p e es (tells.receives c) (λ x h is gets_it. let (v, full) = receives_full a D e m c gets_it in full_unreceived c v full x h is);
    prints = prints_after time a D e m;
  }
