use Rattle.std.proofs.Common.{◌≡◌, ◌++◌, List, length}
use Rattle.machine_tasks.specs.declared.tasks.Task.{Task}
use Rattle.chan_machine.specs.Reading.{put_by_name}
use Rattle.chan_machine.proofs.configurations.gather_tasks.Given as goal

abbrev pub invariant-tasks : goal.invariant-tasks
invariant-tasks l = (done : List Task) × (l.fn.tasks ≡ l.left ++ done) × (l.gathered ≡ put_by_name done)

abbrev pub decreases-tasks : goal.decreases-tasks
decreases-tasks l = length l.left
