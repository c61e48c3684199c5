use Rattle.std.proofs.Common.{ap, ◌∙◌}
use Rattle.std.specs.Ordering.{nat_cmp}
use Rattle.std.specs.Cmp.Lexicographic.{slice_cmp}
use Rattle.std.proofs.lemmas.Result.{IfOk-weaker}
use Rattle.machine_rounds.specs.Sets.{has}
use Rattle.chan_machine.specs.Parking.{is_joined, seats}
use Rattle.chan_machine.proofs.Parked.{joined-keys, other_way}
use Rattle.chan_machine.proofs.queue.gather.Goals as goal

pub returns-clause-all : goal.returns-clause-all
returns-clause-all c = IfOk-weaker c.in_order.result _ _ (λ ready is q.
    ap (λ ns. has (slice_cmp nat_cmp) ns q) is ∙ joined-keys c.join_all.new.joined q ∙ c.in_ok-join_all.ensures q
    ∙ other_way (is_joined c.args.joined q) (seats c.args.movers.items q)) c.in_order.ensures
