use Rattle.std.proofs.Common.{◌+◌, ◌-◌, ◌*◌, ◌^◌, length, arith}
use Rattle.nameless_forms.proofs.Loops.{parts_more}
use Rattle.nameless_forms.proofs.Sizes.{looser_form}
use Rattle.nameless_forms.proofs.terms.sum_of_parts.Goals as goal

pub add_part-requires : goal.add_part-requires
add_part-requires g c =
    let done = length c.args.parts.now - c.loop-left.left in
    looser_form (2 ^ 63 + done * 2 ^ 185) (2 ^ 246) c.loop-left.sum (omega arith) (c.loop-left.invariant.within done (omega (arith, c.loop-left.invariant.index)))

pub loop-left-preserved : goal.loop-left-preserved
loop-left-preserved g c = record {
  index = omega (arith, c.loop-left.invariant.index);
  sum = parts_more (g.N.Names.stands_for c.args.names.now) c.args.parts.now c.loop-left.sum c.add_part.new.sum c.loop-left.left _ c.loop-left-test.true (omega (arith, c.loop-left.invariant.index, c.loop-left-test.true)) c.index-parts-left.is c.loop-left.invariant.sum c.in_ok-add_part.ensures.sum;
  within = λ done is.
      looser_form ((2 ^ 63 + (done - 1) * 2 ^ 185) + 2 ^ 185) (2 ^ 63 + done * 2 ^ 185) c.add_part.new.sum (omega (arith, is, c.loop-left-test.true, c.loop-left.invariant.index))
      (c.in_ok-add_part.ensures.within (2 ^ 63 + (done - 1) * 2 ^ 185) (c.loop-left.invariant.within (done - 1) (omega (arith, is, c.loop-left-test.true, c.loop-left.invariant.index))));
}
