use Rattle.chan_syntax.specs.Bounds.{IsSmall}
use Rattle.value_tests.proofs.Tested.{one_passes}
use Rattle.value_tests.proofs.bounds.are_small.Goals as goal

pub loop-mention-preserved : goal.loop-mention-preserved
loop-mention-preserved c =
    one_passes IsSmall c.args.mentions.now c.loop-mention.mention-index _ c.loop-mention-test.true (c.is_small.ensures c.if-not-is_small.false) c.loop-mention.invariant
