-- Which ending is the first that holds.
use Rattle.std.proofs.Common.{◌≡◌, true, false, ◌&&◌, not, filter, cond, List, [], ◌∷◌, refl, ap, sym, ◌∙◌}
use Rattle.std.specs.FinMap.{keys}
use Rattle.core_language.specs.Names.{Name}
use Rattle.core_language.specs.Programs.{Program}
use Rattle.core_language.specs.Configurations.{Config}
use Rattle.core_language.specs.Steps.{machine_step}
use Rattle.core_language.specs.Endings.{Ending, Finished, Rounds, OutOfRange, TooDeep, blocked, ending_of, is_depth, is_nil, is_range, moving, out_of_range, stuck, stuck_or, stuck_why, too_deep, unended}
use Rattle.core_language.specs.Rounds.{moves, movers}
use Rattle.chan_machine.specs.declared.endings.Fault.TheVariants as fault
use Rattle.chan_machine.specs.Faulting.{first_fault, faulted_or}

module _ (program : Program) (C : Config) where
  stuck_is : (names : List Name) (other : Ending) → first_fault fault.Stuck program C names other ≡ stuck program C names other
  stuck_is [] other = refl
  stuck_is (p ∷ ps) other = ap (stuck_or p (stuck_why (machine_step program C p))) (stuck_is ps other)

  range_is : (names : List Name) (other : Ending) → first_fault fault.Range program C names other ≡ out_of_range program C names other
  range_is [] other = refl
  range_is (p ∷ ps) other = ap (cond (is_range (machine_step program C p)) (OutOfRange p)) (range_is ps other)

  depth_is : (names : List Name) (other : Ending) → first_fault fault.Depth program C names other ≡ too_deep program C names other
  depth_is [] other = refl
  depth_is (p ∷ ps) other = ap (cond (is_depth (machine_step program C p)) (TooDeep p)) (depth_is ps other)

  pub faulted_is : (names : List Name) (other : Ending)
      → first_fault fault.Stuck program C names (first_fault fault.Range program C names (first_fault fault.Depth program C names other)) ≡ faulted_or program C names other
  faulted_is names other =
      stuck_is names _ ∙ ap (stuck program C names) (range_is names _ ∙ ap (out_of_range program C names) (depth_is names other))

  -- all tasks have ended, and no channel is left
  pub finished : (tasks channels : List Name) → tasks ≡ unended C → channels ≡ keys C.channels → is_nil tasks && is_nil channels ≡ true → ending_of program C ≡ Finished
  finished tasks channels ts cs none =
      ap (λ b. cond b Finished (faulted_or program C (keys C.tasks) (moving C (movers program C)))) (sym (ap (λ xs. is_nil xs && is_nil channels) ts ∙ ap (λ xs. is_nil (unended C) && is_nil xs) cs) ∙ none)

  pub unfinished : (tasks channels names : List Name) → tasks ≡ unended C → channels ≡ keys C.channels → names ≡ keys C.tasks → is_nil tasks && is_nil channels ≡ false
      → faulted_or program C names (moving C (movers program C)) ≡ ending_of program C
  unfinished tasks channels names ts cs ns some =
      ap (λ xs. faulted_or program C xs (moving C (movers program C))) ns
      ∙ sym (ap (λ b. cond b Finished (faulted_or program C (keys C.tasks) (moving C (movers program C)))) (sym (ap (λ xs. is_nil xs && is_nil channels) ts ∙ ap (λ xs. is_nil (unended C) && is_nil xs) cs) ∙ some))

  by_movers : (ps : List Name) → moving C ps ≡ cond (not (is_nil ps)) Rounds (blocked (unended C) (keys C.channels))
  by_movers [] = refl
  by_movers (p ∷ ps) = refl

  pub some_moves : (names : List Name) → names ≡ keys C.tasks → not (is_nil (filter (moves program C) names)) ≡ true → moving C (movers program C) ≡ Rounds
  some_moves names ns some =
      by_movers (movers program C) ∙ ap (λ b. cond b Rounds (blocked (unended C) (keys C.channels))) (sym (ap (λ xs. not (is_nil (filter (moves program C) xs))) ns) ∙ some)

  pub none_moves : (tasks channels names : List Name) → tasks ≡ unended C → channels ≡ keys C.channels → names ≡ keys C.tasks → not (is_nil (filter (moves program C) names)) ≡ false
      → moving C (movers program C) ≡ blocked tasks channels
  none_moves tasks channels names ts cs ns none =
      by_movers (movers program C) ∙ ap (λ b. cond b Rounds (blocked (unended C) (keys C.channels))) (sym (ap (λ xs. not (is_nil (filter (moves program C) xs))) ns) ∙ none)
      ∙ sym (ap (λ xs. blocked xs channels) ts ∙ ap (blocked (unended C)) cs)
