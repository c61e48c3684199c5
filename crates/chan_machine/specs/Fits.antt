-- When a program fits a configuration of the machine.
use Rattle.std.specs.Prelude.{Bool, true, false, List}
use Rattle.std.specs.List.{All}
use Rattle.core_programs.specs.declared.nodes.Parts.{Parts}
use Rattle.machine_tasks.specs.declared.tasks.Task.{Task}
use Rattle.machine_tasks.specs.Fits.{FramesFit}
pub use Rattle.task_tables.specs.Fits.{ActsAt, ForksAt, RoomAt, TasksFit}
use Rattle.chan_machine.specs.declared.events.Stepped.{Stepped}
use Rattle.chan_machine.specs.declared.events.Stepped.TheVariants as stepped
use Rattle.chan_machine.specs.declared.configurations.Config.{Config}

-- each task of the configuration has the name under which it is kept, and fits
abbrev pub Fits : Parts → Config → Type 0
Fits program config = TasksFit program config.tasks

-- the frames of each task fit
abbrev pub AllFit : Parts → List Task → Type 0
AllFit program tasks = All (λ t. FramesFit program.nodes t.frames.items) tasks

abbrev pub is_moved : Stepped → Bool
is_moved (stepped.Moved event) = true
is_moved other = false

abbrev pub IsHalt : Stepped → Type 0
IsHalt (stepped.Halts why) = Unit {0}
IsHalt other = ⊥
