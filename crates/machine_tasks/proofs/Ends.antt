-- The ends of frames that are written.
use Rattle.std.proofs.Common.{ℕ, ◌-◌, List, set, Some, sym, subst}
use Rattle.std.proofs.lemmas.List.Elements.{All-pop, All-push}
use Rattle.machine_values.specs.Cells.{EndTest}
use Rattle.machine_values.specs.Ends.{BindsPass}
use Rattle.machine_tasks.specs.declared.tasks.Frame.{Frame}
use Rattle.machine_tasks.specs.declared.tasks.Task.{Task}
use Rattle.machine_tasks.specs.Ends.{FramePasses, FramesPass, TaskPasses}
use Rattle.machine_tasks.specs.Fits.{EndsIn}
use Rattle.machine_tasks.proofs.Places.{Written}

pub passes_written : (test : EndTest) (frames : List Frame) (n : ℕ) (old new : Frame) → Written frames n old new
    → (FramePasses test old → FramePasses test new) → FramesPass test frames → FramesPass test (set frames (n - 1) new)
passes_written test frames n old new w keeps passes =
    let (front, top) = All-pop (FramePasses test) frames w.front (Some old) w.before passes in
    subst (FramesPass test) (sym w.after) (All-push (FramePasses test) w.front new front (keeps top))

pub top_passes : (test : EndTest) (task : Task) (f : Frame) → EndsIn task.frames.items f → TaskPasses test task → BindsPass test f.binds.items
top_passes test task f top passes = (All-pop (FramePasses test) task.frames.items top.0 (Some f) top.1 passes).1
