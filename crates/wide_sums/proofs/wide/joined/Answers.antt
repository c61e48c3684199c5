use Rattle.std.proofs.Common.{arith}
use Rattle.std.proofs.lemmas.Int.{ints}
use Rattle.wide_sums.proofs.wide.joined.Goals as goal

pub returns : goal.returns
returns c = omega (arith, ints, c.requires.middle.0, c.requires.middle.1, c.requires.low.0, c.requires.low.1)
