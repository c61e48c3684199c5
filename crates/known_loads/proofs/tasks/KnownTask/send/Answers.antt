use Rattle.std.proofs.Common.{ap, ◌∙◌}
use Rattle.known_tasks.specs.Nexts.{next}
use Rattle.known_loads.specs.Reading.{known_of}
use Rattle.known_loads.proofs.Held.{letter_holds, sender_holds}
use Rattle.known_loads.proofs.Made.{unchanged_holds}
use Rattle.known_loads.proofs.Views.{sends_as}
use Rattle.known_loads.proofs.tasks.KnownTask.send.Goals as goal

pub invariant_of-result : goal.invariant_of-result
invariant_of-result c =
    sender_holds c.self.inside.program.now c.self.inside.state c.make_send.new.self c.self.invariant c.requires.0 c.in-Ok.letter (ap (λ x. next (known_of x)) c.self.view_is ∙ c.requires.1) c.in-Ok.ensures.ok

pub invariant_of-result-in-Ok : goal.invariant_of-result-in-Ok
invariant_of-result-in-Ok c =
    letter_holds c.self.inside.program.now c.self.inside.state c.make_send.new.self c.self.invariant c.requires.0 c.in-Ok.letter (ap (λ x. next (known_of x)) c.self.view_is ∙ c.requires.1) c.in-Ok.ensures.ok

pub invariant_of-result-in-Err : goal.invariant_of-result-in-Err
invariant_of-result-in-Err c = unchanged_holds c.self.inside.program.now c.self.inside.state c.make_send.new.self c.self.invariant c.in-Err.ensures.err

pub returns-in-Ok-clause-ok : goal.returns-in-Ok-clause-ok
returns-in-Ok-clause-ok c = sends_as c.self.inside.program.now c.self.inside.state c.make_send.new.self c.args.self c.self.view_is c.in-Ok.letter c.in-Ok.ensures.ok
