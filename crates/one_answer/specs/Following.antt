-- Schedules that are followed, and what a task prints.
use Rattle.std.specs.Prelude.{◌≡◌, ◌⊎◌, ℕ, ◌+◌, ℤ, if◌then◌else◌, List, [], ◌∷◌, filter, map}
use Rattle.core_language.specs.Names.{Name, same_name}
use Rattle.core_language.specs.Programs.{Program}
use Rattle.core_language.specs.Configurations.{Config}
use Rattle.core_language.specs.Steps.{Step, Moves, Waits, IsEnded, IsAbsent, IsHalted, IsStuck, step, machine_step, after_step}
use Rattle.core_language.specs.Rounds.{is_move, Entry, prints_of}
use Rattle.core_language.specs.Endings.{Ending, Finished, Stuck, OutOfRange, TooDeep, Rounds, Deadlocked, Leaked}

abbrev pub Halts : Step → Type 0
Halts (IsHalted why) = Unit {0}
Halts (Moves D event) = ⊥
Halts (Waits c) = ⊥
Halts IsEnded = ⊥
Halts IsAbsent = ⊥
Halts (IsStuck why) = ⊥

-- no name of the schedule halts at its turn
abbrev pub NoneHalts : Program → Config → List Name → Type 0
NoneHalts P C [] = Unit {0}
NoneHalts P C (p ∷ ps) = (¬ (Halts (machine_step P C p))) × NoneHalts P (after_step C (step P C p)) ps

-- how many names of the schedule move
abbrev pub moves_along : Program → Config → List Name → ℕ
moves_along P C [] = 0
moves_along P C (p ∷ ps) = (if is_move (step P C p) then 1 else 0) + moves_along P (after_step C (step P C p)) ps

-- every task has ended
abbrev pub AllEnded : Program → Config → Type 0
AllEnded P C = (p : Name) → (step P C p ≡ IsEnded) ⊎ (step P C p ≡ IsAbsent)

-- what a task has printed, in its own order
abbrev pub prints_by : Name → List (Name × ℤ) → List ℤ
prints_by p prints = map (λ e. e.1) (filter (λ e. same_name p e.0) prints)

abbrev pub prints_in : Name → List Entry → List ℤ
prints_in p entries = prints_of (filter (λ e. same_name p e.name) entries)

-- the run is finished, at the rounds limit, or a task halts
abbrev pub EndsWell : Ending → Type 0
EndsWell Finished = Unit {0}
EndsWell (OutOfRange p) = Unit {0}
EndsWell (TooDeep p) = Unit {0}
EndsWell Rounds = Unit {0}
EndsWell (Stuck p why) = ⊥
EndsWell (Deadlocked ps) = ⊥
EndsWell (Leaked cs) = ⊥
