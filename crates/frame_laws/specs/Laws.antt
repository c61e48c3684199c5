-- What holds of the frames in the runs of a program that is well formed.
use Rattle.std.specs.Prelude.{ℕ, List}
use Rattle.core_language.specs.Names.{Name}
use Rattle.core_language.specs.Programs.{Body}
use Rattle.core_language.specs.Computing.{Limits}
use Rattle.core_language.specs.Configurations.{Config, start}
use Rattle.core_language.specs.Steps.{step_within, after_step}
use Rattle.core_language.specs.Schedules.{after}
use Rattle.core_language.specs.Rounds.{run_of}
use Rattle.core_programs.specs.declared.nodes.Parts.{Parts}
use Rattle.core_programs.specs.Bodies.{program_of}
use Rattle.core_programs.specs.Form.{IsFormed}
use Rattle.frame_laws.specs.Fits.{StandsAtNode, FitsAll}
use Rattle.frame_laws.specs.Calls.{FindsFunction}

-- a program fits the tasks of its start
abbrev pub FitsItsStart : Type 0
FitsItsStart = (parts : Parts) → IsFormed parts → FitsAll parts (start (program_of parts))

-- each step keeps this, whatever the limits
abbrev pub FitsAfterSteps : Type 0
FitsAfterSteps =
    (parts : Parts) → IsFormed parts → (limits : Limits) (C : Config) (p : Name) → FitsAll parts C
    → FitsAll parts (after_step C (step_within limits (program_of parts) C p))

-- so it fits what each schedule and each number of rounds comes to
abbrev pub FitsInRuns : Type 0
FitsInRuns =
    (parts : Parts) → IsFormed parts
    → ((schedule : List Name) → FitsAll parts (after (program_of parts) schedule)) × ((t : ℕ) → FitsAll parts (run_of (program_of parts) t).config)

-- a body that stands at a node finds the function that its form names
abbrev pub CallsFindFunctions : Type 0
CallsFindFunctions = (parts : Parts) → IsFormed parts → (body : Body) → StandsAtNode parts body → FindsFunction (program_of parts) body
