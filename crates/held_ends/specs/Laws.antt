-- What holds of waiting tasks, whatever the program.
use Rattle.std.specs.Prelude.{◌≡◌}
use Rattle.core_language.specs.Names.{Name}
use Rattle.core_language.specs.Programs.{Program}
use Rattle.core_language.specs.Computing.{Limits}
use Rattle.core_language.specs.Configurations.{Config}
use Rattle.core_language.specs.Steps.{step_within}
use Rattle.held_ends.specs.Waiting.{pair_of}

-- no limit changes who waits at which channel
abbrev pub WaitsWithinAny : Type 0
WaitsWithinAny = (limits others : Limits) (program : Program) (C : Config) (p : Name)
    → pair_of p (step_within limits program C p) ≡ pair_of p (step_within others program C p)
