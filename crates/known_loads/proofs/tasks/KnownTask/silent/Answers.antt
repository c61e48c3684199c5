use Rattle.std.proofs.Common.{ap, ◌∙◌}
use Rattle.known_tasks.specs.Nexts.{next}
use Rattle.known_loads.specs.Reading.{known_of}
use Rattle.known_loads.proofs.Held.{silent_holds}
use Rattle.known_loads.proofs.Made.{unchanged_holds}
use Rattle.known_loads.proofs.tasks.KnownTask.silent.Goals as goal

pub invariant_of-result : goal.invariant_of-result
invariant_of-result c = silent_holds c.self.inside.program.now c.self.inside.state c.make_silent.new.self c.self.invariant (ap (λ x. next (known_of x)) c.self.view_is ∙ c.requires) c.in-Ok.ensures.ok

pub invariant_of-result-in-Err : goal.invariant_of-result-in-Err
invariant_of-result-in-Err c = unchanged_holds c.self.inside.program.now c.self.inside.state c.make_silent.new.self c.self.invariant c.in-Err.ensures.err
