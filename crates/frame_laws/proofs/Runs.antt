-- What holds of the start and after each step holds in runs.
use Rattle.std.proofs.Common.{ℕ, zero, suc, List, [], ◌∷◌}
use Rattle.core_language.specs.Names.{Name}
use Rattle.core_language.specs.Computing.{unbounded, machine}
use Rattle.core_language.specs.Configurations.{Config, start}
use Rattle.core_language.specs.Steps.{step, after_step}
use Rattle.core_language.specs.Schedules.{steps_from}
use Rattle.core_language.specs.Rounds.{Run, turn, turns, movers, run_of}
use Rattle.core_programs.specs.declared.nodes.Parts.{Parts}
use Rattle.core_programs.specs.Bodies.{program_of}
use Rattle.core_programs.specs.Form.{IsFormed}
use Rattle.frame_laws.specs.Fits.{FitsAll}
use Rattle.frame_laws.specs.Laws.{FitsInRuns}
use Rattle.frame_laws.proofs.Steps.{fits_after_steps}
use Rattle.frame_laws.proofs.Starts.{fits_its_start}

module _ (parts : Parts) (formed : IsFormed parts) where
  after_schedule : (C : Config) (schedule : List Name) → FitsAll parts C → FitsAll parts (steps_from (program_of parts) C schedule)
  after_schedule C [] all = all
  after_schedule C (p ∷ ps) all = after_schedule (after_step C (step (program_of parts) C p)) ps (fits_after_steps parts formed unbounded C p all)

  after_turns : (time : ℕ) (run : Run) (ps : List Name) → FitsAll parts run.config → FitsAll parts (turns (program_of parts) time run ps).config
  after_turns time run [] all = all
  after_turns time run (p ∷ ps) all = after_turns time (turn (program_of parts) time run p) ps (fits_after_steps parts formed machine run.config p all)

  after_rounds : (t : ℕ) → FitsAll parts (run_of (program_of parts) t).config
  unfolding run_of
  after_rounds zero = fits_its_start parts formed
  after_rounds (suc t) =
      let run = run_of (program_of parts) t in
      after_turns (suc t) run (movers (program_of parts) run.config) (after_rounds t)

pub fits_in_runs : FitsInRuns
fits_in_runs parts formed = (λ schedule. after_schedule parts formed (start (program_of parts)) schedule (fits_its_start parts formed), after_rounds parts formed)
