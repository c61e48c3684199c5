-- Schedules, and what may be said of each configuration that one reaches.
use Rattle.std.specs.Prelude.{◌≡◌, List, [], ◌∷◌, None, ◌⊎◌}
use Rattle.std.specs.FinMap.{get}
use Rattle.core_language.specs.Names.{Name}
use Rattle.core_language.specs.Programs.{Program}
use Rattle.core_language.specs.Configurations.{Config, start}
use Rattle.core_language.specs.Steps.{Step, Moves, Waits, IsEnded, IsAbsent, IsHalted, IsStuck, step, after_step}

-- one step for each name, in order; a name that doesn't move changes nothing
abbrev pub steps_from : Program → Config → List Name → Config
steps_from program C [] = C
steps_from program C (p ∷ ps) = steps_from program (after_step C (step program C p)) ps

-- the configuration after a schedule
abbrev pub after : Program → List Name → Config
after program schedule = steps_from program (start program) schedule

abbrev pub IsStuckStep : Step → Type 0
IsStuckStep (IsStuck why) = Unit {0}
IsStuckStep (Moves D event) = ⊥
IsStuckStep (Waits c) = ⊥
IsStuckStep IsEnded = ⊥
IsStuckStep IsAbsent = ⊥
IsStuckStep (IsHalted why) = ⊥

abbrev pub IsMove : Step → Type 0
IsMove (Moves D event) = Unit {0}
IsMove (Waits c) = ⊥
IsMove IsEnded = ⊥
IsMove IsAbsent = ⊥
IsMove (IsHalted why) = ⊥
IsMove (IsStuck why) = ⊥

-- no task is stuck
abbrev pub IsSafe : Program → Config → Type 0
IsSafe program C = (p : Name) → ¬ (IsStuckStep (step program C p))

-- some task moves, or all have ended and no channel is left
abbrev pub IsLive : Program → Config → Type 0
IsLive program C =
    ((p : Name) × IsMove (step program C p))
    ⊎ (((p : Name) → (step program C p ≡ IsEnded) ⊎ (step program C p ≡ IsAbsent)) × ((c : Name) → get C.channels c ≡ None))
