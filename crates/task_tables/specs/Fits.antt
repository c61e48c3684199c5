-- When a program fits the tasks of a table.
use Rattle.std.specs.Prelude.{◌≡◌, ◌<◌, Some}
use Rattle.std.specs.FinMap.{get}
use Rattle.core_language.specs.Names.{Name, NameMap}
use Rattle.core_language.specs.Acts.{Act}
use Rattle.core_programs.specs.declared.nodes.Parts.{Parts}
use Rattle.machine_tasks.specs.declared.tasks.Task.{Task}
use Rattle.machine_tasks.specs.Fits.{FramesFit}
use Rattle.machine_tasks.specs.Moving.{HasRoom}
use Rattle.machine_tasks.specs.Reading.{act_in}

-- each task has the name under which it is kept, and fits
abbrev pub TasksFit : Parts → NameMap Task → Type 0
TasksFit program tasks = (p : Name) (t : Task) → get tasks p ≡ Some t → (t.name ≡ p) × FramesFit program.nodes t.frames.items

-- the task has made fewer forks than there are numbers for them
abbrev pub ForksAt : NameMap Task → Name → Type 0
ForksAt tasks p = (t : Task) → get tasks p ≡ Some t → t.forks < 4294967295

-- the next act of the task is such a one
abbrev pub ActsAt : (Act → Type 0) → Parts → NameMap Task → Name → Type 0
ActsAt P program tasks p = (t : Task) → get tasks p ≡ Some t → P (act_in program t)

-- the task's top frame has room for one more variable
abbrev pub RoomAt : NameMap Task → Name → Type 0
RoomAt tasks p = (t : Task) → get tasks p ≡ Some t → HasRoom t.frames.items 1
