use Rattle.std.proofs.Common.{ap, ◌∙◌}
use Rattle.known_tasks.specs.Nexts.{has_ended}
use Rattle.known_tasks.proofs.Calls.{goes_on}
use Rattle.known_loads.specs.Reading.{known_of}
use Rattle.known_loads.proofs.tasks.KnownTask.next.Goals as goal

pub next-requires-clause-some : goal.next-requires-clause-some
next-requires-clause-some c =
    let holds = c.self.invariant in
    goes_on (known_of (c.self.inside.program.now, c.self.inside.state)) holds.never holds.known (ap (λ x. has_ended (known_of x)) c.self.view_is ∙ c.requires)
