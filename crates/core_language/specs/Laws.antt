-- What holds of names and steps, whatever the program.
use Rattle.std.specs.Prelude.{◌≡◌, ◌⊎◌}
use Rattle.core_language.specs.Names.{Name}
use Rattle.core_language.specs.Programs.{Program}
use Rattle.core_language.specs.Computing.{Halt}
use Rattle.core_language.specs.Configurations.{Config}
use Rattle.core_language.specs.Steps.{IsHalted, step, machine_step}

-- the machine makes the step that has no limits, or halts
abbrev pub HaltsOrSteps : Type 0
HaltsOrSteps = (program : Program) (C : Config) (p : Name) → ((why : Halt) × (machine_step program C p ≡ IsHalted why)) ⊎ (machine_step program C p ≡ step program C p)
