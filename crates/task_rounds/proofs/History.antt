-- The entries of earlier rounds stay, and what was put on a channel stays there until it is received.
use Rattle.std.proofs.Common.{◌≡◌, ◌⊎◌, inl, inr, ℕ, zero, suc, ◌+◌, ◌-◌, ◌≤◌, ◌<◌, Bool, true, List, [], ◌∷◌, ◌++◌, append-nil, append_assoc, Option, Some, None, refl, sym, ap, subst, ◌∙◌, arith}
use Rattle.std.specs.List.{list_any}
use Rattle.core_language.specs.Names.{Name}
use Rattle.core_language.specs.Values.{Value}
use Rattle.core_language.specs.Programs.{Program}
use Rattle.core_language.specs.Steps.{Event, Silent, Fork, Send, Recv, Print, End, Step, Moves, Waits, IsEnded, IsAbsent, IsHalted, IsStuck, machine_step}
use Rattle.core_language.specs.Rounds.{Entry, Run, movers, step_entries, turn, turns, run_of}
use Rattle.machine_rounds.proofs.Rounded.{same-is}
use Rattle.task_rounds.specs.Members.{In}
use Rattle.task_rounds.specs.Reaching.{NeverSticks}
use Rattle.task_rounds.specs.Telling.{is_fork_of, is_send_on, is_receive_on, was_made, was_sent, was_received, IsTold}
use Rattle.task_rounds.specs.Tasks.{channel_after, entries_after, IsPut}
use Rattle.task_rounds.proofs.Members.{any_member, member_any, in_left, in_either}
use Rattle.task_rounds.proofs.Own.{in_own, from_own}
use Rattle.task_rounds.proofs.Telling.{new_entry}
use Rattle.task_rounds.proofs.Runs.{is_run}
use Rattle.task_rounds.proofs.Stepping.{full_stays}

-- ---- what events tell

pub sends_there : (c : Name) (e : Event) → is_send_on c e ≡ true → e ≡ Send c
sends_there c (Send d) h = ap Send (sym (same-is c d h))
sends_there c Silent h = let bad : ⊥ = cc in absurd bad
sends_there c (Fork d) h = let bad : ⊥ = cc in absurd bad
sends_there c (Recv d) h = let bad : ⊥ = cc in absurd bad
sends_there c (Print z) h = let bad : ⊥ = cc in absurd bad
sends_there c End h = let bad : ⊥ = cc in absurd bad

pub receives_there : (c : Name) (e : Event) → is_receive_on c e ≡ true → e ≡ Recv c
receives_there c (Recv d) h = ap Recv (sym (same-is c d h))
receives_there c Silent h = let bad : ⊥ = cc in absurd bad
receives_there c (Fork d) h = let bad : ⊥ = cc in absurd bad
receives_there c (Send d) h = let bad : ⊥ = cc in absurd bad
receives_there c (Print z) h = let bad : ⊥ = cc in absurd bad
receives_there c End h = let bad : ⊥ = cc in absurd bad

pub forks_there : (c : Name) (e : Event) → is_fork_of c e ≡ true → e ≡ Fork c
forks_there c (Fork d) h = ap Fork (sym (same-is c d h))
forks_there c Silent h = let bad : ⊥ = cc in absurd bad
forks_there c (Send d) h = let bad : ⊥ = cc in absurd bad
forks_there c (Recv d) h = let bad : ⊥ = cc in absurd bad
forks_there c (Print z) h = let bad : ⊥ = cc in absurd bad
forks_there c End h = let bad : ⊥ = cc in absurd bad

module _ (program : Program) where
  -- ---- entries

  -- the entries of these turns come after the others, and have their time
  record Adds (time : ℕ) (old all : List Entry) : Type 0 where
    new : List Entry
    is : all ≡ old ++ new
    timely : (e : Entry) → In e new → e.time ≡ time

  step_timely : (time : ℕ) (p : Name) (s : Step) (e : Entry) → In e (step_entries time p s) → e.time ≡ time
  step_timely time p (Moves D event) e h = (new_entry time p event e h).2
  step_timely time p (Waits c) e h = absurd h
  step_timely time p IsEnded e h = absurd h
  step_timely time p IsAbsent e h = absurd h
  step_timely time p (IsHalted why) e h = absurd h
  step_timely time p (IsStuck why) e h = absurd h

  turns_add : (time : ℕ) (ps : List Name) (run : Run) → Adds time run.entries (turns program time run ps).entries
  turns_add time [] run = record { new = []; is = sym (append-nil run.entries); timely = λ e h. absurd h }
  turns_add time (p ∷ ps) run =
      let rest = turns_add time ps (turn program time run p) in
      let first = step_entries time p (machine_step program run.config p) in
      record {
        new = step_entries time p (machine_step program run.config p) ++ rest.new;
        is = rest.is ∙ append_assoc run.entries (step_entries time p (machine_step program run.config p)) rest.new;
        timely = λ e h. by e (step_timely time p (machine_step program run.config p) e) (rest.timely e) (in_either e (step_entries time p (machine_step program run.config p)) rest.new h);
      }
    where
      by : (e : Entry) {A B : Type 0} → (A → e.time ≡ time) → (B → e.time ≡ time) → A ⊎ B → e.time ≡ time
      by e f g (inl a) = f a
      by e f g (inr b) = g b

  round_adds : (t : ℕ) → Adds (suc t) (run_of program t).entries (run_of program (suc t)).entries
  unfolding run_of
  round_adds t = turns_add (suc t) (movers program (run_of program t).config) (run_of program t)

  pub entry_stays : (t : ℕ) (e : Entry) → In e (run_of program t).entries → In e (run_of program (suc t)).entries
  entry_stays t e h = let adds = round_adds t in subst (In e) (sym adds.is) (in_left e (run_of program t).entries adds.new h)

  pub entry_later : (d t u : ℕ) → u ≡ d + t → (e : Entry) → In e (run_of program t).entries → In e (run_of program u).entries
  entry_later zero t u is e h = let same_time : t ≡ u = omega arith in subst (λ n. In e (run_of program n).entries) same_time h
  entry_later (suc d) t zero is e h = let bad : ⊥ = omega arith in absurd bad
  entry_later (suc d) t (suc u) is e h = let earlier : u ≡ d + t = omega arith in entry_stays u e (entry_later d t u earlier e h)

  pub entry_kept : (t u : ℕ) → t ≤ u → (e : Entry) → In e (run_of program t).entries → In e (run_of program u).entries
  entry_kept t u less e h = let (d, is) = difference t u less in entry_later d t u is e h
    where
      difference : (t u : ℕ) → t ≤ u → (d : ℕ) × (u ≡ d + t)
      difference t u less = (u - t, omega arith)

  none_at_start : (e : Entry) → In e (run_of program 0).entries → ⊥
  unfolding run_of
  none_at_start e h = h

  -- an entry isn't noted before its time
  pub entry_timely : (t : ℕ) (e : Entry) → In e (run_of program t).entries → e.time ≤ t
  entry_timely zero e h = absurd (none_at_start e h)
  entry_timely (suc t) e h = by (in_either e (run_of program t).entries (round_adds t).new (subst (In e) (round_adds t).is h)) (entry_timely t e)
    where
      by : In e (run_of program t).entries ⊎ In e (round_adds t).new → (In e (run_of program t).entries → e.time ≤ t) → e.time ≤ suc t
      by (inl old) before = let less = before old in omega arith
      by (inr new) before = let is = (round_adds t).timely e new in omega arith

  pub own_kept : (t u : ℕ) → t ≤ u → (p : Name) (e : Entry) → In e (entries_after program t p) → In e (entries_after program u p)
  own_kept t u less p e h = let (there, is) = from_own p e (run_of program t).entries h in in_own p e (run_of program u).entries (entry_kept t u less e there) is

  pub any_kept : (test : Event → Bool) (t u : ℕ) → t ≤ u → list_any (λ e. test e.event) (run_of program t).entries ≡ true → list_any (λ e. test e.event) (run_of program u).entries ≡ true
  any_kept test t u less h = let (e, there, passes) = any_member (λ e. test e.event) (run_of program t).entries h in member_any (λ e. test e.event) e (run_of program u).entries (entry_kept t u less e there) passes

  -- ---- channels

  pub stage : (t : ℕ) (c : Name) (o : Option (Option Value)) → channel_after program t c ≡ o → IsTold (was_made c (run_of program t).entries) (was_sent c (run_of program t).entries) (was_received c (run_of program t).entries) o
  stage t c o is = subst (IsTold _ _ _) is ((is_run program t).tells.stages c)

  -- a channel on which one received isn't there
  pub received_gone : (t : ℕ) (c : Name) → was_received c (run_of program t).entries ≡ true → channel_after program t c ≡ None
  received_gone t c h = by (channel_after program t c) refl
    where
      by : (o : Option (Option Value)) → channel_after program t c ≡ o → channel_after program t c ≡ None
      by None e = e
      by (Some None) e = let (made, sent, received) = stage t c (Some None) e in let both = sym h ∙ received in let bad : ⊥ = cc in absurd bad
      by (Some (Some v)) e = let (made, sent, received) = stage t c (Some (Some v)) e in let both = sym h ∙ received in let bad : ⊥ = cc in absurd bad

  -- nothing was sent on the channel before the value was put there
  pub not_sent_before : (r u : ℕ) (c : Name) (v : Value) → IsPut program r c v → u < r → was_sent c (run_of program u).entries ≡ true → ⊥
  not_sent_before r u c v put less sent =
      let (e, there, passes) = any_member (λ x. is_send_on c x.event) (run_of program u).entries sent in
      let early = entry_timely u e there in
      let later : u ≤ r = omega arith in
      let one : e ≡ put.entry = (is_run program r).tells.sends c e put.entry (entry_kept u r later e there) put.noted (sends_there c e.event passes) put.sends in
      let late : e.time ≡ r = ap (λ (x : Entry). x.time) one ∙ put.on_time in
      omega arith

  module _ (never : NeverSticks program) where
    -- what was put on a channel stays there until it is received
    pub put_stays : (d r u : ℕ) (c : Name) (v : Value) → u ≡ d + r → IsPut program r c v → (channel_after program u c ≡ Some (Some v)) ⊎ (was_received c (run_of program u).entries ≡ true)
    put_stays zero r u c v is put = let same_time : r ≡ u = omega arith in inl (ap (λ n. channel_after program n c) (sym same_time) ∙ put.there)
    put_stays (suc d) r zero c v is put = let bad : ⊥ = omega arith in absurd bad
    put_stays (suc d) r (suc u) c v is put = let earlier : u ≡ d + r = omega arith in by (put_stays d r u c v earlier put)
      where
        by : (channel_after program u c ≡ Some (Some v)) ⊎ (was_received c (run_of program u).entries ≡ true) → (channel_after program (suc u) c ≡ Some (Some v)) ⊎ (was_received c (run_of program (suc u)).entries ≡ true)
        by (inl full) = full_stays program never u c v full
        by (inr received) = inr (any_kept (is_receive_on c) u (suc u) (omega arith) received)
