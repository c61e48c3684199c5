-- Which tasks wait, and at which channels.
use Rattle.std.specs.Prelude.{List, [], ◌∷◌}
use Rattle.std.specs.List.{flat_map}
use Rattle.std.specs.FinMap.{keys}
use Rattle.core_language.specs.Names.{Name}
use Rattle.core_language.specs.Programs.{Program}
use Rattle.core_language.specs.Configurations.{Config}
use Rattle.core_language.specs.Steps.{Step, Moves, Waits, IsEnded, IsAbsent, IsHalted, IsStuck, step}

-- the task and the channel, where its step waits
abbrev pub pair_of : Name → Step → List (Name × Name)
pair_of p (Waits c) = (p, c) ∷ []
pair_of p (Moves D event) = []
pair_of p IsEnded = []
pair_of p IsAbsent = []
pair_of p (IsHalted why) = []
pair_of p (IsStuck why) = []

abbrev pub wait_of : Program → Config → Name → List (Name × Name)
wait_of program C p = pair_of p (step program C p)

-- the tasks that wait, in the order of their names, each with its channel
abbrev pub waits_of : Program → Config → List (Name × Name)
waits_of program C = flat_map (wait_of program C) (keys C.tasks)
