use Rattle.std.proofs.Common.{ap, ◌∙◌, arith}
use Rattle.protocol_guard.specs.Ranks.{weights}
use Rattle.protocol_guard.proofs.Falling.{weights_more}
use Rattle.protocol_guard.proofs.ranks.walk_ranks.Goals as goal

pub visits-smaller : goal.visits-smaller
visits-smaller c =
    let more = ap weights c.in-Some.ensures.items ∙ weights_more c.pop.new.self.items c.in-Some.visit in
    let made = c.in_ok-make.ensures in
    omega (arith, more, made)
