use Rattle.std.proofs.Common.{◌≡◌, ◌*◌, ◌+◌, ◌^◌, map, arith, subst}
use Rattle.std.proofs.lemmas.Int.{ints}
use Rattle.linear_forms.specs.NormalTerms.{count_of, bare_of}
use Rattle.chan_syntax.specs.Reading.{part_of}
use Rattle.narrow_terms.specs.Sums.{IsWithin}
use Rattle.narrow_terms.proofs.Adding.{count_more, constant_more, opened_at}
use Rattle.narrow_terms.proofs.narrowness.sums_of.Goals as goal

pub loop-part-init : goal.loop-part-init
loop-part-init c = (
  λ x. omega (arith, ints, c.no_sums-sums.ensures.counts x),
  omega (arith, ints, c.no_sums-sums.ensures.constant),
  record { counts = λ x. omega (arith, ints, c.no_sums-sums.ensures.counts x); constant = omega (arith, ints, c.no_sums-sums.ensures.constant) },
)

pub loop-part-preserved : goal.loop-part-preserved
loop-part-preserved c =
    let opened = opened_at c.args.parts.now c.loop-part.part-index c.part-item.result c.loop-part-test.true c.part-item.is in
    let more : c.loop-part.part-index * 2 ^ 63 + 2 ^ 63 ≡ (c.loop-part.part-index + 1) * 2 ^ 63 = omega arith in (
      λ x. count_more c.args.parts.now c.loop-part.part-index c.part-item.result c.loop-part.sums c.add.new.sums x (count_of x (map part_of c.args.parts.now)) opened c.in_ok-add.ensures.adds (c.loop-part.invariant.0 x),
      constant_more c.args.parts.now c.loop-part.part-index c.part-item.result c.loop-part.sums c.add.new.sums (bare_of (map part_of c.args.parts.now)) opened c.in_ok-add.ensures.adds c.loop-part.invariant.1,
      subst (λ n. IsWithin n c.add.new.sums) more (c.in_ok-add.ensures.within (c.loop-part.part-index * 2 ^ 63) c.loop-part.invariant.2),
    )
