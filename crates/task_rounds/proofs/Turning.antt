-- What a round does to one task, to one channel and to the entries of one task.
use Rattle.std.proofs.Common.{◌≡◌, ℕ, suc, Bool, true, false, cond, ◌||◌, List, [], ◌∷◌, ◌++◌, append-nil, Some, is_some, refl, sym, ap, subst, ◌∙◌}
use Rattle.std.specs.Ordering.{nat_cmp}
use Rattle.std.specs.Cmp.Lexicographic.{slice_cmp, nat_list_cmp_total}
use Rattle.std.specs.List.Sorted.{IsStrictlySortedBy}
use Rattle.std.specs.FinMap.{get, insert, keys, entries, entries_sorted, contains_key-keys, get-insert}
use Rattle.std.proofs.lemmas.List.Kept.{IsStrictlySortedBy-filter}
use Rattle.std.proofs.lemmas.Bool.{false_from_ne_true, or_right}
use Rattle.core_language.specs.Names.{Name, NameMap, same_name}
use Rattle.core_language.specs.Programs.{Program}
use Rattle.core_language.specs.Computing.{machine}
use Rattle.core_language.specs.Configurations.{Config, Place, Ended, Task}
use Rattle.core_language.specs.Acts.{Act, act_of}
use Rattle.core_language.specs.Acts as act
use Rattle.core_language.specs.Steps.{Event, Silent, Fork, Send, Recv, Print, End, Step, Moves, Waits, IsEnded, IsAbsent, IsHalted, IsStuck, step_at, machine_step, after_step}
use Rattle.core_language.specs.Rounds.{Run, is_move, moves, movers, event_entries, step_entries, turn, turns, round}
use Rattle.machine_rounds.specs.Local.{act_at, act_in, alters, uses}
use Rattle.machine_rounds.proofs.Local.{task_kept, channel_kept}
use Rattle.machine_rounds.proofs.Rounded.{same-self, same-is, keys_ascend, first_is_least, rest_ascends}
use Rattle.task_rounds.specs.Members.{In}
use Rattle.task_rounds.specs.Reaching.{NeverSticks}
use Rattle.task_rounds.proofs.Own.{own-append}
use Rattle.task_rounds.proofs.Members.{any_member, member_any, in_filter, from_filter}
use Rattle.task_rounds.specs.Tasks.{placed, own}
use Rattle.task_rounds.proofs.Moving.{Moved, ByItself, Prints, Forks, Sends, Receives, Ends, makes, mover}
use Rattle.task_rounds.proofs.Runs.{IsRun}
use Rattle.task_rounds.proofs.Names.{put_here, drop_here}
use Rattle.task_rounds.proofs.Apart.{IsMover, tasks_apart, channels_apart}
use Rattle.task_rounds.proofs.Turns as generic

module _ (program : Program) (time : ℕ) (first : Run) (good : IsRun program first) (never : NeverSticks program) where
  abbrev act_then : Name → Act
  act_then q = act_in program first.config q

  -- the turn of q is still as it was at the start of the round
  record Ready (run : Run) (q : Name) : Type 0 where
    task : get run.config.tasks q ≡ get first.config.tasks q
    channels : (d : Name) → uses (act_in program first.config q) d ≡ true → get run.config.channels d ≡ get first.config.channels d

  same_act : (run : Run) (q : Name) → Ready run q → act_in program run.config q ≡ act_in program first.config q
  same_act run q ready = ap (act_at program q) ready.task

  -- a turn makes the step of the start, as far as it can be seen
  record Repeats (run : Run) (q : Name) (m : IsMover program first.config q) : Type 0 where
    next : Config
    is : machine_step program run.config q ≡ Moves next m.event
    tasks : (x : Name) → alters q (act_in program first.config q) x ≡ true → get next.tasks x ≡ get m.next.tasks x
    channels : (d : Name) → uses (act_in program first.config q) d ≡ true → get next.channels d ≡ get m.next.channels d

  module _ (run : Run) (q : Name) (ready : Ready run q) (t : Task) (there : get first.config.tasks q ≡ Some t) where
    in_run : get run.config.tasks q ≡ Some t
    in_run = ready.task ∙ there

    act_first : act_in program first.config q ≡ act_of machine program q t.forks t.place
    act_first = ap (act_at program q) there

    -- what a move makes from the configuration of the run
    Again : Act → Config → Event → Type 0
    Again a D e = (E : Config) × Moved run.config q t.forks a E e × ((x : Name) → alters q a x ≡ true → get E.tasks x ≡ get D.tasks x) × ((d : Name) → uses a d ≡ true → get E.channels d ≡ get D.channels d)

    put_again : (place : Place) (x : Name) → same_name x q ≡ true → get (insert run.config.tasks q (placed place t.forks)) x ≡ get (insert first.config.tasks q (placed place t.forks)) x
    put_again place x h = put_here run.config.tasks q _ x h ∙ sym (put_here first.config.tasks q _ x h)

    again : (a : Act) (D : Config) (e : Event) → act_in program first.config q ≡ a → Moved first.config q t.forks a D e → Again a D e
    unfolding Again
    again a D e is (ByItself place) = (_, ByItself place, λ x h. put_again place x h, λ d h. let bad : ⊥ = cc in absurd bad)
    again a D e is (Prints z place) = (_, Prints z place, λ x h. put_again place x h, λ d h. let bad : ⊥ = cc in absurd bad)
    again a D e is (Forks c parent its) = (_, Forks c parent its, λ x h. by x (same_name x c) refl h, λ d h. put_here run.config.channels c _ d h ∙ sym (put_here first.config.channels c _ d h))
      where
        two : NameMap Task → NameMap Task
        two m = insert (insert m q (placed parent (suc t.forks))) c (placed its 0)

        by : (x : Name) (b : Bool) → same_name x c ≡ b → (b || same_name x q) ≡ true → get (insert (insert run.config.tasks q (placed parent (suc t.forks))) c (placed its 0)) x ≡ get (insert (insert first.config.tasks q (placed parent (suc t.forks))) c (placed its 0)) x
        by x true e h = put_here _ c _ x e ∙ sym (put_here _ c _ x e)
        by x false e h = elsewhere (insert run.config.tasks q (placed parent (suc t.forks))) ∙ put_here run.config.tasks q _ x h ∙ sym (put_here first.config.tasks q _ x h) ∙ sym (elsewhere (insert first.config.tasks q (placed parent (suc t.forks))))
          where
            elsewhere : (m : NameMap Task) → get (insert m c (placed its 0)) x ≡ get m x
            elsewhere m = get-insert nat_list_cmp_total m c (placed its 0) x ∙ ap (λ b. cond b (Some (placed its 0)) (get m x)) e
    again a D e is (Sends c v place empty) =
        (_, Sends c v place (ready.channels c (ap (λ b. uses b c) is ∙ same-self c) ∙ empty), λ x h. put_again place x h, λ d h. put_here run.config.channels c _ d h ∙ sym (put_here first.config.channels c _ d h))
    again a D e is (Receives c v place full) =
        (_, Receives c v place (ready.channels c (ap (λ b. uses b c) is ∙ same-self c) ∙ full), λ x h. put_again (place v) x h, λ d h. drop_here run.config.channels c d h ∙ sym (drop_here first.config.channels c d h))
    again a D e is Ends = (_, Ends, λ x h. put_again Ended x h, λ d h. let bad : ⊥ = cc in absurd bad)

    repeats_from : (m : IsMover program first.config q) → Moved first.config q t.forks (act_of machine program q t.forks t.place) m.next m.event → Repeats run q m
    unfolding Again
    repeats_from m move =
        let (E, moves_to, tasks, channels) = again _ m.next m.event act_first move in
        record {
          next = E;
          is = ap (step_at machine program run.config q) in_run ∙ makes run.config q t.forks _ E m.event moves_to;
          tasks = λ x h. tasks x (subst (λ a. alters q a x ≡ true) act_first h);
          channels = λ d h. channels d (subst (λ a. uses a d ≡ true) act_first h);
        }

  repeats : (run : Run) (q : Name) (m : IsMover program first.config q) → Ready run q → Repeats run q m
  repeats run q m ready =
      let (t, there, move) = mover program first.config q m.next m.event m.is in
      repeats_from run q ready t there m move

  -- ---- turns

  alters_itself : (q : Name) (a : Act) → alters q a q ≡ true
  alters_itself q (act.Fork c parent its) = or_right (same_name q c) (same_name q q) (same-self q)
  alters_itself q (act.Silent place) = same-self q
  alters_itself q (act.Print z place) = same-self q
  alters_itself q (act.Send c v place) = same-self q
  alters_itself q (act.Recv c place) = same-self q
  alters_itself q act.End = same-self q
  alters_itself q act.IsEnded = same-self q
  alters_itself q (act.IsHalted why) = same-self q
  alters_itself q (act.IsStuck why) = same-self q

  spared_task : (p q : Name) → IsMover program first.config p → IsMover program first.config q → (p ≡ q → ⊥) → alters p (act_in program first.config p) q ≡ false
  spared_task p q mp mq apart = false_from_ne_true _ (λ h. tasks_apart program first good never p q mp mq q h (alters_itself q (act_in program first.config q)) apart)

  spared_channel : (p q : Name) → IsMover program first.config p → IsMover program first.config q → (p ≡ q → ⊥) → (d : Name) → uses (act_in program first.config q) d ≡ true → uses (act_in program first.config p) d ≡ false
  spared_channel p q mp mq apart d h = false_from_ne_true _ (λ g. channels_apart program first good never p q mp mq d g h apart)

  stays_ready : (run : Run) (p q : Name) → IsMover program first.config p → IsMover program first.config q → (p ≡ q → ⊥) → Ready run p → Ready run q → Ready (turn program time run p) q
  stays_ready run p q mp mq apart rp rq = record {
    task = task_kept program run.config p q (ap (λ a. alters p a q) (same_act run p rp) ∙ spared_task p q mp mq apart) ∙ rq.task;
    channels = λ d h. channel_kept program run.config p d (ap (λ a. uses a d) (same_act run p rp) ∙ spared_channel p q mp mq apart d h) ∙ rq.channels d h;
  }

  is_apart : (ps : List Name) → IsStrictlySortedBy (slice_cmp nat_cmp) ps → generic.AreApart (turn program time) Ready (IsMover program first.config) (λ r. r) (λ q. true) (λ q r. r) ps
  is_apart [] h = tt
  is_apart (p ∷ ps) h = (λ q g e. let both = sym (member_any (same_name p) q ps g (ap (same_name p) (sym e) ∙ same-self p)) ∙ first_is_least p ps h in cc, is_apart ps (rest_ascends p ps h))

  pub are_movers : (q : Name) → In q (movers program first.config) → IsMover program first.config q
  are_movers q h = by (machine_step program first.config q) refl (from_filter (moves program first.config) q (keys first.config.tasks) h).1
    where
      by : (s : Step) → machine_step program first.config q ≡ s → is_move s ≡ true → IsMover program first.config q
      by (Moves D e) is t = record { next = D; event = e; is = is }
      by (Waits c) is t = let bad : ⊥ = cc in absurd bad
      by IsEnded is t = let bad : ⊥ = cc in absurd bad
      by IsAbsent is t = let bad : ⊥ = cc in absurd bad
      by (IsHalted why) is t = let bad : ⊥ = cc in absurd bad
      by (IsStuck why) is t = let bad : ⊥ = cc in absurd bad

  pub is_listed : (q : Name) → IsMover program first.config q → In q (movers program first.config)
  is_listed q m = in_filter (moves program first.config) q (keys first.config.tasks) in_keys (ap is_move m.is)
    where
      in_keys : In q (keys first.config.tasks)
      in_keys =
          let (t, there, move) = mover program first.config q m.next m.event m.is in
          let (r, h, same_name) = any_member (same_name q) (keys first.config.tasks) (sym (contains_key-keys first.config.tasks q) ∙ ap is_some there) in
          subst (λ s. In s (keys first.config.tasks)) (sym (same-is q r same_name)) h

  -- ---- what a round does

  ascends : IsStrictlySortedBy (slice_cmp nat_cmp) (movers program first.config)
  ascends = IsStrictlySortedBy-filter (slice_cmp nat_cmp) (moves program first.config) (keys first.config.tasks) (keys_ascend (entries first.config.tasks) (entries_sorted first.config.tasks))

  at_first : (q : Name) → Ready first q
  at_first q = record { task = refl; channels = λ d h. refl }

  same_turns : (ps : List Name) (run : Run) → generic.turns (turn program time) Ready (IsMover program first.config) (λ r. r) (λ q. true) (λ q r. r) run ps ≡ turns program time run ps
  same_turns [] run = refl
  same_turns (p ∷ ps) run = same_turns ps (turn program time run p)

  -- what one looks at after the round: only the turn that concerns it changes it
  module _ {X : Type 0} (seen : Run → X) (concerns : Name → Bool) (change : Name → X → X)
      (keeps : (run : Run) (p : Name) → IsMover program first.config p → Ready run p → concerns p ≡ false → seen (turn program time run p) ≡ seen run)
      (sets : (run : Run) (p : Name) → IsMover program first.config p → Ready run p → concerns p ≡ true → seen (turn program time run p) ≡ change p (seen run))
      (alone : (p q : Name) → IsMover program first.config p → IsMover program first.config q → concerns p ≡ true → concerns q ≡ true → (p ≡ q → ⊥) → ⊥) where
    same_apart : (ps : List Name) → generic.AreApart (turn program time) Ready (IsMover program first.config) (λ r. r) (λ q. true) (λ q r. r) ps → generic.AreApart (turn program time) Ready (IsMover program first.config) seen concerns change ps
    same_apart [] h = tt
    same_apart (p ∷ ps) h = (h.0, same_apart ps h.1)

    seen_turns : (ps : List Name) (run : Run) → generic.turns (turn program time) Ready (IsMover program first.config) seen concerns change run ps ≡ turns program time run ps
    seen_turns [] run = refl
    seen_turns (p ∷ ps) run = seen_turns ps (turn program time run p)

    seen_same : ((q : Name) → IsMover program first.config q → concerns q ≡ false) → seen (round program time first) ≡ seen first
    seen_same none =
        ap seen (sym (seen_turns (movers program first.config) first))
        ∙ generic.untouched (turn program time) Ready (IsMover program first.config) seen concerns change stays_ready keeps sets alone (movers program first.config) first
        (same_apart (movers program first.config) (is_apart (movers program first.config) ascends)) are_movers (λ q h. at_first q) (λ q h. none q (are_movers q h))

    seen_changed : (q : Name) → IsMover program first.config q → concerns q ≡ true → seen (round program time first) ≡ change q (seen first)
    seen_changed q m c =
        ap seen (sym (seen_turns (movers program first.config) first))
        ∙ generic.touched (turn program time) Ready (IsMover program first.config) seen concerns change stays_ready keeps sets alone (movers program first.config) first
        (same_apart (movers program first.config) (is_apart (movers program first.config) ascends)) are_movers (λ r h. at_first r) q (is_listed q m) c

  -- the configuration after the step of q alone
  abbrev pub alone_after : Name → Config
  alone_after q = after_step first.config (machine_step program first.config q)

  turn_is : (run : Run) (q : Name) (m : IsMover program first.config q) (ready : Ready run q) → (turn program time run q).config ≡ (repeats run q m ready).next
  turn_is run q m ready = ap (after_step run.config) (repeats run q m ready).is

  module _ (x : Name) where
    task_keeps : (run : Run) (p : Name) → IsMover program first.config p → Ready run p → alters p (act_in program first.config p) x ≡ false → get (turn program time run p).config.tasks x ≡ get run.config.tasks x
    task_keeps run p m ready h = task_kept program run.config p x (ap (λ a. alters p a x) (same_act run p ready) ∙ h)

    task_sets : (run : Run) (p : Name) → IsMover program first.config p → Ready run p → alters p (act_in program first.config p) x ≡ true → get (turn program time run p).config.tasks x ≡ get (alone_after p).tasks x
    task_sets run p m ready h = ap (λ (D : Config). get D.tasks x) (turn_is run p m ready) ∙ (repeats run p m ready).tasks x h ∙ ap (λ s. get (after_step first.config s).tasks x) (sym m.is)

    -- a task that no mover alters stays as it is
    pub round_spares_task : ((q : Name) → IsMover program first.config q → alters q (act_in program first.config q) x ≡ false) → get (round program time first).config.tasks x ≡ get first.config.tasks x
    round_spares_task = seen_same (λ run. get run.config.tasks x) (λ q. alters q (act_in program first.config q) x) (λ q o. get (alone_after q).tasks x) task_keeps task_sets (λ p q mp mq. tasks_apart program first good never p q mp mq x)

    -- a task that a mover alters is as after the step of that mover alone
    pub round_alters_task : (q : Name) → IsMover program first.config q → alters q (act_in program first.config q) x ≡ true → get (round program time first).config.tasks x ≡ get (alone_after q).tasks x
    round_alters_task = seen_changed (λ run. get run.config.tasks x) (λ q. alters q (act_in program first.config q) x) (λ q o. get (alone_after q).tasks x) task_keeps task_sets (λ p q mp mq. tasks_apart program first good never p q mp mq x)

    channel_keeps : (run : Run) (p : Name) → IsMover program first.config p → Ready run p → uses (act_in program first.config p) x ≡ false → get (turn program time run p).config.channels x ≡ get run.config.channels x
    channel_keeps run p m ready h = channel_kept program run.config p x (ap (λ a. uses a x) (same_act run p ready) ∙ h)

    channel_sets : (run : Run) (p : Name) → IsMover program first.config p → Ready run p → uses (act_in program first.config p) x ≡ true → get (turn program time run p).config.channels x ≡ get (alone_after p).channels x
    channel_sets run p m ready h = ap (λ (D : Config). get D.channels x) (turn_is run p m ready) ∙ (repeats run p m ready).channels x h ∙ ap (λ s. get (after_step first.config s).channels x) (sym m.is)

    pub round_spares_channel : ((q : Name) → IsMover program first.config q → uses (act_in program first.config q) x ≡ false) → get (round program time first).config.channels x ≡ get first.config.channels x
    round_spares_channel = seen_same (λ run. get run.config.channels x) (λ q. uses (act_in program first.config q) x) (λ q o. get (alone_after q).channels x) channel_keeps channel_sets (λ p q mp mq. channels_apart program first good never p q mp mq x)

    pub round_uses_channel : (q : Name) → IsMover program first.config q → uses (act_in program first.config q) x ≡ true → get (round program time first).config.channels x ≡ get (alone_after q).channels x
    round_uses_channel = seen_changed (λ run. get run.config.channels x) (λ q. uses (act_in program first.config q) x) (λ q o. get (alone_after q).channels x) channel_keeps channel_sets (λ p q mp mq. channels_apart program first good never p q mp mq x)

    -- ---- entries

    own_new : (q : Name) (b : Bool) → same_name q x ≡ b → (e : Event) → own x (event_entries time q e) ≡ cond b (event_entries time q e) []
    own_new q true h Silent = refl
    own_new q false h Silent = refl
    own_new q b h (Fork c) = ap (λ b. cond b (record { time = time; name = q; event = Fork c } ∷ []) []) h
    own_new q b h (Send c) = ap (λ b. cond b (record { time = time; name = q; event = Send c } ∷ []) []) h
    own_new q b h (Recv c) = ap (λ b. cond b (record { time = time; name = q; event = Recv c } ∷ []) []) h
    own_new q b h (Print z) = ap (λ b. cond b (record { time = time; name = q; event = Print z } ∷ []) []) h
    own_new q b h End = ap (λ b. cond b (record { time = time; name = q; event = End } ∷ []) []) h

    turn_entries : (run : Run) (p : Name) (m : IsMover program first.config p) → Ready run p → (turn program time run p).entries ≡ run.entries ++ event_entries time p m.event
    turn_entries run p m ready = ap (λ s. run.entries ++ step_entries time p s) (repeats run p m ready).is

    own_turn : (run : Run) (p : Name) (m : IsMover program first.config p) → Ready run p → (b : Bool) → same_name p x ≡ b → own x (turn program time run p).entries ≡ own x run.entries ++ cond b (event_entries time p m.event) []
    own_turn run p m ready b h = ap (own x) (turn_entries run p m ready) ∙ own-append x run.entries (event_entries time p m.event) ∙ ap (λ l. own x run.entries ++ l) (own_new p b h m.event)

    own_keeps : (run : Run) (p : Name) → IsMover program first.config p → Ready run p → same_name p x ≡ false → own x (turn program time run p).entries ≡ own x run.entries
    own_keeps run p m ready h = own_turn run p m ready false h ∙ append-nil (own x run.entries)

    own_sets : (run : Run) (p : Name) → IsMover program first.config p → Ready run p → same_name p x ≡ true → own x (turn program time run p).entries ≡ own x run.entries ++ step_entries time p (machine_step program first.config p)
    own_sets run p m ready h = own_turn run p m ready true h ∙ ap (λ s. own x run.entries ++ step_entries time p s) (sym m.is)

    own_alone : (p q : Name) → IsMover program first.config p → IsMover program first.config q → same_name p x ≡ true → same_name q x ≡ true → (p ≡ q → ⊥) → ⊥
    own_alone p q mp mq h g apart = apart (same-is p x h ∙ sym (same-is q x g))

    pub round_spares_entries : ((q : Name) → IsMover program first.config q → same_name q x ≡ false) → own x (round program time first).entries ≡ own x first.entries
    round_spares_entries = seen_same (λ run. own x run.entries) (λ q. same_name q x) (λ q es. es ++ step_entries time q (machine_step program first.config q)) own_keeps own_sets own_alone

    pub round_adds_entries : (q : Name) → IsMover program first.config q → same_name q x ≡ true → own x (round program time first).entries ≡ own x first.entries ++ step_entries time q (machine_step program first.config q)
    round_adds_entries = seen_changed (λ run. own x run.entries) (λ q. same_name q x) (λ q es. es ++ step_entries time q (machine_step program first.config q)) own_keeps own_sets own_alone
