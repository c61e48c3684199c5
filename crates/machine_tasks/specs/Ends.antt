-- Which ends a task has.
use Rattle.std.specs.Prelude.{List}
use Rattle.std.specs.List.{All}
use Rattle.machine_values.specs.Cells.{EndTest}
use Rattle.machine_values.specs.Ends.{BindsPass}
use Rattle.machine_tasks.specs.declared.tasks.Frame.{Frame}
use Rattle.machine_tasks.specs.declared.tasks.Task.{Task}

-- each end of the frame's variables passes the test
abbrev pub FramePasses : EndTest → Frame → Type 0
FramePasses test frame = BindsPass test frame.binds.items

abbrev pub FramesPass : EndTest → List Frame → Type 0
FramesPass test frames = All (FramePasses test) frames

-- each end of the task does
abbrev pub TaskPasses : EndTest → Task → Type 0
TaskPasses test task = FramesPass test task.frames.items

-- no end of the task is new, in its name or its cell
abbrev pub NoNewEnds : Task → Task → Type 0
NoNewEnds old new = (test : EndTest) → TaskPasses test old → TaskPasses test new
