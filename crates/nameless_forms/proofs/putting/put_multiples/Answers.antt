use Rattle.std.proofs.Common.{◌≡◌, ◌+◌, ◌-◌, ◌*◌, ◌^◌, to_z, of_z, length, drop, subst, arith}
use Rattle.std.specs.Int.{w128}
use Rattle.wide_sums.proofs.Sizes.{kept}
use Rattle.outline_language.specs.LinearForms.{constant_form, add_times, put_multiples}
use Rattle.outline_language.specs.Nameless.{instance_for}
use Rattle.nameless_forms.proofs.Loops.{put_more}
use Rattle.nameless_forms.proofs.Sizes.{looser_form}
use Rattle.nameless_forms.proofs.putting.put_multiples.Goals as goal

pub put_multiple-requires-clause-within : goal.put_multiple-requires-clause-within
put_multiple-requires-clause-within c =
    let done = length c.args.multiples.now - c.loop-left.left in
    looser_form ((2 ^ 245 + 2 ^ 244) + done * 2 ^ 185) (2 ^ 246) c.loop-left.sum (omega arith) (c.loop-left.invariant.within (2 ^ 245 + 2 ^ 244) done (omega (arith, c.loop-left.invariant.index)) c.requires.within)

pub loop-left-preserved : goal.loop-left-preserved
loop-left-preserved c = record {
  index = omega (arith, c.loop-left.invariant.index);
  sum = λ constant start canonical is.
      put_more (instance_for c.args.instances.now c.args.depth) _ constant c.args.multiples.now start c.loop-left.sum c.put_multiple.new.sum c.loop-left.left c.index-multiples-left.result canonical c.loop-left-test.true (omega (arith, c.loop-left.invariant.index, c.loop-left-test.true)) c.index-multiples-left.is (c.loop-left.invariant.sum constant start canonical is) c.in_ok-put_multiple.ensures.sum;
  within = λ size done is within.
      looser_form ((size + (done - 1) * 2 ^ 185) + 2 ^ 185) (size + done * 2 ^ 185) c.put_multiple.new.sum (omega (arith, is, c.loop-left-test.true, c.loop-left.invariant.index))
      (c.in_ok-put_multiple.ensures.within (size + (done - 1) * 2 ^ 185) (c.loop-left.invariant.within size (done - 1) (omega (arith, is, c.loop-left-test.true, c.loop-left.invariant.index)) within));
}

pub returns-clause-within : goal.returns-clause-within
returns-clause-within c = λ size within.
    let done = length c.args.multiples.now in
    looser_form (size + done * 2 ^ 185) (size + 2 ^ 244) c.loop-left.sum (omega arith) (c.loop-left.invariant.within size done (omega (arith, c.loop-left-test.false)) within)

pub returns-clause-sum : goal.returns-clause-sum
returns-clause-sum c = λ constant start canonical is.
    let weight : to_z w128 (of_z w128 c.args.weight) ≡ c.args.weight = kept c.args.weight (omega arith) in
    let none : c.loop-left.left ≡ 0 = omega (arith, c.loop-left-test.false) in
    subst (λ k. c.loop-left.sum ≡ add_times c.args.weight (put_multiples (instance_for c.args.instances.now c.args.depth) constant (drop k c.args.multiples.now)) start) none
    (subst (λ w. c.args.sum.now ≡ add_times w (constant_form constant) start → c.loop-left.sum ≡ add_times w (put_multiples (instance_for c.args.instances.now c.args.depth) constant (drop c.loop-left.left c.args.multiples.now)) start) weight (c.loop-left.invariant.sum constant start canonical) is)
