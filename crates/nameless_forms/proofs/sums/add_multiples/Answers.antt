use Rattle.std.proofs.Common.{◌+◌, ◌-◌, ◌*◌, ◌^◌, length, arith}
use Rattle.nameless_forms.proofs.Loops.{multiples_more}
use Rattle.nameless_forms.proofs.Sizes.{looser}
use Rattle.nameless_forms.proofs.sums.add_multiples.Goals as goal

pub add_multiple-requires-clause-within : goal.add_multiple-requires-clause-within
add_multiple-requires-clause-within c =
    let done = length c.args.multiples.now - c.loop-left.left in
    looser (2 ^ 246 + done * 2 ^ 126) (2 ^ 247) c.loop-left.counts.entries (omega arith) (c.loop-left.invariant.within (2 ^ 246) done (omega (arith, c.loop-left.invariant.index)) c.requires.within)

pub loop-left-preserved : goal.loop-left-preserved
loop-left-preserved c = record {
  index = omega (arith, c.loop-left.invariant.index);
  sum = multiples_more _ c.args.multiples.now c.args.counts.now.entries c.loop-left.counts.entries c.add_multiple.new.counts.entries c.loop-left.left c.index-multiples-left.result c.loop-left-test.true (omega (arith, c.loop-left.invariant.index, c.loop-left-test.true)) c.index-multiples-left.is c.loop-left.invariant.sum c.in_ok-add_multiple.ensures.sum;
  canonical = c.in_ok-add_multiple.ensures.canonical;
  within = λ size done is within.
      looser ((size + (done - 1) * 2 ^ 126) + 2 ^ 126) (size + done * 2 ^ 126) c.add_multiple.new.counts.entries (omega (arith, is, c.loop-left-test.true, c.loop-left.invariant.index))
      (c.in_ok-add_multiple.ensures.within (size + (done - 1) * 2 ^ 126) (c.loop-left.invariant.within size (done - 1) (omega (arith, is, c.loop-left-test.true, c.loop-left.invariant.index)) within));
}

pub returns-clause-within : goal.returns-clause-within
returns-clause-within c = λ size within.
    let done = length c.args.multiples.now in
    looser (size + done * 2 ^ 126) (size + 2 ^ 185) c.loop-left.counts.entries (omega arith) (c.loop-left.invariant.within size done (omega (arith, c.loop-left-test.false)) within)
