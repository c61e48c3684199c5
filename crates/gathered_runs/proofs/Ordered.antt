-- The entries of a run ascend.
use Rattle.std.proofs.Common.{◌≡◌, ◌⊎◌, inl, inr, ℕ, zero, suc, List, [], ◌∷◌, ◌++◌, Less, append-nil, append_assoc, sym, ap, subst, ◌∙◌, arith}
use Rattle.std.specs.Ordering.{nat_cmp}
use Rattle.std.specs.Cmp.Lexicographic.{slice_cmp}
use Rattle.std.specs.List.{AllByRecursion}
use Rattle.std.specs.List.Sorted.{IsStrictlySortedBy}
use Rattle.std.specs.FinMap.{keys, entries, entries_sorted}
use Rattle.std.proofs.lemmas.List.Kept.{IsStrictlySortedBy-filter}
use Rattle.core_language.specs.Names.{Name}
use Rattle.core_language.specs.Programs.{Program}
use Rattle.core_language.specs.Steps.{Event, Silent, Fork, Send, Recv, Print, End, Step, Moves, Waits, IsEnded, IsAbsent, IsHalted, IsStuck, machine_step}
use Rattle.core_language.specs.Rounds.{Entry, Run, moves, movers, event_entries, step_entries, turn, turns, run_of}
use Rattle.machine_rounds.proofs.Rounded.{keys_ascend}
use Rattle.task_rounds.specs.Members.{In}
use Rattle.task_rounds.proofs.Members.{in_either}
use Rattle.task_rounds.proofs.Telling.{new_entry}
use Rattle.task_rounds.proofs.History.{entry_timely}
use Rattle.gathered_runs.specs.Gathered.{IsBefore, Ascends}
use Rattle.gathered_runs.proofs.Merging.{ascends-append}

one_ascends : (t : ℕ) (p : Name) (e : Event) → Ascends (event_entries t p e)
one_ascends t p Silent = tt
one_ascends t p (Fork c) = (λ f h. absurd h, tt)
one_ascends t p (Send c) = (λ f h. absurd h, tt)
one_ascends t p (Recv c) = (λ f h. absurd h, tt)
one_ascends t p (Print z) = (λ f h. absurd h, tt)
one_ascends t p End = (λ f h. absurd h, tt)

step_ascends : (t : ℕ) (p : Name) (s : Step) → Ascends (step_entries t p s)
step_ascends t p (Moves D e) = one_ascends t p e
step_ascends t p (Waits c) = tt
step_ascends t p IsEnded = tt
step_ascends t p IsAbsent = tt
step_ascends t p (IsHalted why) = tt
step_ascends t p (IsStuck why) = tt

step_entry : (t : ℕ) (p : Name) (s : Step) (x : Entry) → In x (step_entries t p s) → (x.name ≡ p) × (x.time ≡ t)
step_entry t p (Moves D e) x h = let is = new_entry t p e x h in (is.1, is.2)
step_entry t p (Waits c) x h = absurd h
step_entry t p IsEnded x h = absurd h
step_entry t p IsAbsent x h = absurd h
step_entry t p (IsHalted why) x h = absurd h
step_entry t p (IsStuck why) x h = absurd h

below_member : (p : Name) (ps : List Name) → AllByRecursion (λ q. slice_cmp nat_cmp p q ≡ Less) ps → (q : Name) → In q ps → slice_cmp nat_cmp p q ≡ Less
below_member p [] all q h = absurd h
below_member p (r ∷ ps) all q (inl is) = ap (slice_cmp nat_cmp p) is ∙ all.0
below_member p (r ∷ ps) all q (inr h) = below_member p ps all.1 q h

-- the entries of turns in the order of names
record Adds (t : ℕ) (ps : List Name) (old all : List Entry) : Type 0 where
  new : List Entry
  is : all ≡ old ++ new
  ascends : Ascends new
  each : (e : Entry) → In e new → (e.time ≡ t) × In e.name ps

module _ (program : Program) where
  turns_add : (t : ℕ) (ps : List Name) (run : Run) → IsStrictlySortedBy (slice_cmp nat_cmp) ps → Adds t ps run.entries (turns program t run ps).entries
  unfolding IsStrictlySortedBy
  turns_add t [] run sorted = record { new = []; is = sym (append-nil run.entries); ascends = tt; each = λ e h. absurd h }
  turns_add t (p ∷ ps) run sorted = with_rest (turns_add t ps (turn program t run p) sorted.1)
    where
      first : List Entry
      first = step_entries t p (machine_step program run.config p)

      with_rest : Adds t ps (run.entries ++ step_entries t p (machine_step program run.config p)) (turns program t (turn program t run p) ps).entries → Adds t (p ∷ ps) run.entries (turns program t (turn program t run p) ps).entries
      with_rest rest = record {
        new = step_entries t p (machine_step program run.config p) ++ rest.new;
        is = rest.is ∙ append_assoc run.entries (step_entries t p (machine_step program run.config p)) rest.new;
        ascends = ascends-append (step_entries t p (machine_step program run.config p)) rest.new (step_ascends t p (machine_step program run.config p)) rest.ascends before;
        each = λ e h. by e (in_either e (step_entries t p (machine_step program run.config p)) rest.new h);
      }
        where
          by : (e : Entry) → In e (step_entries t p (machine_step program run.config p)) ⊎ In e rest.new → (e.time ≡ t) × In e.name (p ∷ ps)
          by e (inl h) = let (named, timely) = step_entry t p (machine_step program run.config p) e h in (timely, inl named)
          by e (inr h) = let (timely, named) = rest.each e h in (timely, inr named)

          before : (e f : Entry) → In e (step_entries t p (machine_step program run.config p)) → In f rest.new → IsBefore e f
          before e f h g =
              let (named, timely) = step_entry t p (machine_step program run.config p) e h in
              let (also, later) = rest.each f g in
              inr (timely ∙ sym also, ap (λ q. slice_cmp nat_cmp q f.name) named ∙ below_member p ps sorted.0 f.name later)

  round_adds : (t : ℕ) → Adds (suc t) (movers program (run_of program t).config) (run_of program t).entries (run_of program (suc t)).entries
  unfolding run_of
  round_adds t = turns_add (suc t) (movers program (run_of program t).config) (run_of program t)
      (IsStrictlySortedBy-filter (slice_cmp nat_cmp) (moves program (run_of program t).config) (keys (run_of program t).config.tasks) (keys_ascend (entries (run_of program t).config.tasks) (entries_sorted (run_of program t).config.tasks)))

  start_ascends : Ascends (run_of program 0).entries
  unfolding run_of
  start_ascends = tt

  pub run_ascends : (t : ℕ) → Ascends (run_of program t).entries
  run_ascends zero = start_ascends
  run_ascends (suc t) =
      let adds = round_adds t in
      subst Ascends (sym adds.is) (ascends-append (run_of program t).entries adds.new (run_ascends t) adds.ascends
      (λ e f h g. let early = entry_timely program t e h in let late = (adds.each f g).0 in inl (omega arith)))
