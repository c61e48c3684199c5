use Rattle.std.proofs.Common.{ap, ◌∙◌, arith}
use Rattle.protocol_guard.specs.declared.ranks.Visit.TheVariants as visit
use Rattle.protocol_guard.specs.Ranks.{weights}
use Rattle.protocol_guard.proofs.Falling.{weights_more}
use Rattle.protocol_guard.proofs.ranks.take.Goals as goal

pub returns-then-is_new : goal.returns-then-is_new
returns-then-is_new c =
    let more = ap weights c.in_ok-push.ensures.items ∙ weights_more c.args.walk.now.visits.items (visit.Enter c.args.place) in
    omega (arith, more)
