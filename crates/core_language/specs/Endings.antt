-- How a run ends.
use Rattle.std.specs.Prelude.{Bool, true, false, not, ◌&&◌, if◌then◌else◌, List, [], ◌∷◌, filter, map, Option, Some, None}
use Rattle.std.specs.FinMap.{entries, keys}
use Rattle.core_language.specs.Names.{Name}
use Rattle.core_language.specs.Programs.{Program}
use Rattle.core_language.specs.Computing.{StuckWhy, Range, Depth}
use Rattle.core_language.specs.Configurations.{Config, Place, Task}
use Rattle.core_language.specs.Configurations as place
use Rattle.core_language.specs.Steps.{Step, Moves, Waits, IsEnded, IsAbsent, IsHalted, IsStuck, machine_step}
use Rattle.core_language.specs.Rounds.{movers}

pub data Ending : Type 0 where
  Finished : Ending
  Stuck : Name → StuckWhy → Ending
  OutOfRange : Name → Ending
  TooDeep : Name → Ending
  Rounds : Ending
  Deadlocked : List Name → Ending
  Leaked : List Name → Ending

abbrev pub is_ended : Place → Bool
is_ended place.Ended = true
is_ended (place.Running rest env callers) = false

-- the tasks that have not ended, in the order of their names
abbrev pub unended : Config → List Name
unended C = map (λ e. e.0) (filter (λ e. not (is_ended e.1.place)) (entries C.tasks))

abbrev pub stuck_why : Step → Option StuckWhy
stuck_why (IsStuck why) = Some why
stuck_why (Moves D event) = None
stuck_why (Waits c) = None
stuck_why IsEnded = None
stuck_why IsAbsent = None
stuck_why (IsHalted why) = None

abbrev pub is_range : Step → Bool
is_range (IsHalted Range) = true
is_range (IsHalted Depth) = false
is_range (Moves D event) = false
is_range (Waits c) = false
is_range IsEnded = false
is_range IsAbsent = false
is_range (IsStuck why) = false

abbrev pub is_depth : Step → Bool
is_depth (IsHalted Depth) = true
is_depth (IsHalted Range) = false
is_depth (Moves D event) = false
is_depth (Waits c) = false
is_depth IsEnded = false
is_depth IsAbsent = false
is_depth (IsStuck why) = false

-- ---- the cases from the last to the first

-- nobody moves: some task waits for ever, or only channels are left
abbrev pub blocked : List Name → List Name → Ending
blocked [] channels = Leaked channels
blocked (p ∷ ps) channels = Deadlocked (p ∷ ps)

abbrev pub moving : Config → List Name → Ending
moving C [] = blocked (unended C) (keys C.channels)
moving C (p ∷ ps) = Rounds

-- the least of the names whose step is too deep a fork, else another ending
abbrev pub too_deep : Program → Config → List Name → Ending → Ending
too_deep program C [] other = other
too_deep program C (p ∷ ps) other = if is_depth (machine_step program C p) then TooDeep p else too_deep program C ps other

abbrev pub out_of_range : Program → Config → List Name → Ending → Ending
out_of_range program C [] other = other
out_of_range program C (p ∷ ps) other = if is_range (machine_step program C p) then OutOfRange p else out_of_range program C ps other

abbrev pub stuck_or : Name → Option StuckWhy → Ending → Ending
stuck_or p (Some why) other = Stuck p why
stuck_or p None other = other

abbrev pub stuck : Program → Config → List Name → Ending → Ending
stuck program C [] other = other
stuck program C (p ∷ ps) other = stuck_or p (stuck_why (machine_step program C p)) (stuck program C ps other)

abbrev pub is_nil : {A : Type 0} → List A → Bool
is_nil [] = true
is_nil (x ∷ xs) = false

-- the first case that holds: finished, stuck, halted, moving, waiting or leaked
abbrev pub ending_of : Program → Config → Ending
ending_of program C =
    if is_nil (unended C) && is_nil (keys C.channels) then Finished
    else stuck program C (keys C.tasks) (out_of_range program C (keys C.tasks) (too_deep program C (keys C.tasks) (moving C (movers program C))))
