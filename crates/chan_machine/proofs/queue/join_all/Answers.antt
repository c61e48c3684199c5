use Rattle.std.proofs.Common.{rules, ◌∙◌}
use Rattle.chan_machine.proofs.Parked.{joined-step}
use Rattle.chan_machine.proofs.queue.join_all.Goals as goal

pub joining-preserved : goal.joining-preserved
joining-preserved c = λ q. joined-step c.joining.joined c.insert.new.self c.in-Some.seat c.next.new.self.rest.items c.joining.seat-iterator.rest.items c.in_ok-insert.ensures.updates (search rules) q ∙ c.joining.invariant q
