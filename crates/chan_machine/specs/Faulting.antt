-- The endings that the next step of a single task brings.
use Rattle.std.specs.Prelude.{if◌then◌else◌, List, [], ◌∷◌, Option, Some, None}
use Rattle.core_language.specs.Names.{Name}
use Rattle.core_language.specs.Programs.{Program}
use Rattle.core_language.specs.Configurations.{Config}
use Rattle.core_language.specs.Steps.{Step, machine_step}
use Rattle.core_language.specs.Endings.{Ending, OutOfRange, TooDeep, stuck, out_of_range, too_deep, stuck_or, stuck_why, is_range, is_depth}
use Rattle.chan_machine.specs.declared.endings.Fault.{Fault}
use Rattle.chan_machine.specs.declared.endings.Fault.TheVariants as fault
use Rattle.chan_machine.specs.declared.events.Ending.{Ending as Told}
use Rattle.chan_machine.specs.Reading.{ending_as}

-- the ending that the step of p brings, else the other one
abbrev pub fault_or : Fault → Name → Step → Ending → Ending
fault_or fault.Stuck p s other = stuck_or p (stuck_why s) other
fault_or fault.Range p s other = if is_range s then OutOfRange p else other
fault_or fault.Depth p s other = if is_depth s then TooDeep p else other

-- that of the first of the tasks whose step brings one
abbrev pub first_fault : Fault → Program → Config → List Name → Ending → Ending
first_fault f program C [] other = other
first_fault f program C (p ∷ ps) other = fault_or f p (machine_step program C p) (first_fault f program C ps other)

-- that of the first task that is stuck; else of the first out of range; else of the first that forks too deep
abbrev pub faulted_or : Program → Config → List Name → Ending → Ending
faulted_or program C names other = stuck program C names (out_of_range program C names (too_deep program C names other))

abbrev pub or_else : Option Told → Ending → Ending
or_else (Some ending) other = ending_as ending
or_else None other = other
