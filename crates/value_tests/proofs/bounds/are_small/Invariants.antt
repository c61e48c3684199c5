use Rattle.std.proofs.Common.{All, drop}
use Rattle.chan_syntax.specs.Bounds.{IsSmall}
use Rattle.value_tests.proofs.bounds.are_small.Given as goal

abbrev pub invariant-loop-mention : goal.invariant-loop-mention
invariant-loop-mention l = All IsSmall (drop l.mention-index l.mentions) → All IsSmall l.mentions
