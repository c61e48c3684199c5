use Rattle.std.proofs.Common.{◌≡◌, ◌≤◌, ◌<◌, ◌^◌, ◌+◌, ◌+ℤ◌, ◌*ℤ◌, ◌∙◌, sym, unsigned_abs, arith}
use Rattle.std.specs.Int.{w128}
use Rattle.std.proofs.lemmas.Int.{to_z-of_z, fits_signed_from_abs}
use Rattle.farkas_check.proofs.Sums.{size-add}
use Rattle.wide_sums.specs.Parts.{IsSplit, value_of_parts}
use Rattle.wide_sums.proofs.Splits.{added}
use Rattle.wide_sums.proofs.Sizes.{part-size, split-size, high-size, kept, split_of}
use Rattle.wide_sums.proofs.wide.Wide.add_product.Goals as goal

pub overflow_add-self-inside : goal.overflow_add-self-inside
overflow_add-self-inside c =
    let low : IsSplit c.with_product.result c.split-low.result.high c.split-low.result.low = split_of c.with_product.result _ _ (omega arith) c.split-low.ensures in
    let low_high : unsigned_abs c.split-low.result.high ≤ 2 ^ 64 + 1 = split-size c.with_product.result c.split-low.result.high c.split-low.result.low (2 ^ 64) low (omega arith) in
    let middle : unsigned_abs c.self.inside.middle < 2 ^ 62 = part-size c.self.inside.middle c.self.invariant.0 in
    rw (kept c.self.inside.middle (omega arith), kept c.split-low.result.high (omega arith)) (fits_signed_from_abs w128 _ (omega (arith, size-add c.self.inside.middle c.split-low.result.high)))

pub with_product-requires-2-clause-sum : goal.with_product-requires-2-clause-sum
with_product-requires-2-clause-sum c =
    let low : IsSplit c.with_product.result c.split-low.result.high c.split-low.result.low = split_of c.with_product.result _ _ (omega arith) c.split-low.ensures in
    let low_high : unsigned_abs c.split-low.result.high ≤ 2 ^ 64 + 1 = split-size c.with_product.result c.split-low.result.high c.split-low.result.low (2 ^ 64) low (omega arith) in
    let middle : unsigned_abs c.self.inside.middle < 2 ^ 62 = part-size c.self.inside.middle c.self.invariant.0 in
    rw (kept c.self.inside.middle (omega arith), kept c.split-low.result.high (omega arith), kept (c.self.inside.middle +ℤ c.split-low.result.high) (omega (arith, size-add c.self.inside.middle c.split-low.result.high))) (omega (arith, size-add c.self.inside.middle c.split-low.result.high))

pub with_product-requires-2-clause-number : goal.with_product-requires-2-clause-number
with_product-requires-2-clause-number c =
    let parts : IsSplit c.args.number c.split-parts.result.high c.split-parts.result.low = split_of c.args.number _ _ (omega arith) c.split-parts.ensures in
    let parts_high : unsigned_abs c.split-parts.result.high ≤ 2 ^ 60 + 1 = split-size c.args.number c.split-parts.result.high c.split-parts.result.low (2 ^ 60) parts (omega arith) in
    rw (kept c.split-parts.result.high (omega arith)) (omega arith)

pub overflow_add-self : goal.overflow_add-self
overflow_add-self c =
    let mid : IsSplit c.with_product-2.result c.split-middle.result.high c.split-middle.result.low = split_of c.with_product-2.result _ _ (omega arith) c.split-middle.ensures in
    let mid_high : unsigned_abs c.split-middle.result.high ≤ 2 ^ 64 + 1 = split-size c.with_product-2.result c.split-middle.result.high c.split-middle.result.low (2 ^ 64) mid (omega arith) in
    let small : unsigned_abs (value_of_parts c.self.inside.high c.self.inside.middle c.self.inside.low) ≤ 2 ^ 248 = rw c.self.view_is c.requires.sum in
    let high : unsigned_abs c.self.inside.high ≤ 2 ^ 124 + 1 = high-size c.self.inside.high c.self.inside.middle c.self.inside.low c.self.invariant.0 c.self.invariant.1 small in
    rw (kept c.self.inside.high (omega arith), kept c.split-middle.result.high (omega arith)) (fits_signed_from_abs w128 _ (omega (arith, size-add c.self.inside.high c.split-middle.result.high)))

pub returns : goal.returns
returns c =
    let parts : IsSplit c.args.number c.split-parts.result.high c.split-parts.result.low = split_of c.args.number _ _ (omega arith) c.split-parts.ensures in
    let parts_high : unsigned_abs c.split-parts.result.high ≤ 2 ^ 60 + 1 = split-size c.args.number c.split-parts.result.high c.split-parts.result.low (2 ^ 60) parts (omega arith) in
    let parts_low : unsigned_abs c.split-parts.result.low < 2 ^ 62 = part-size c.split-parts.result.low parts.part in
    let low : IsSplit c.with_product.result c.split-low.result.high c.split-low.result.low = split_of c.with_product.result _ _ (omega arith) c.split-low.ensures in
    let low_high : unsigned_abs c.split-low.result.high ≤ 2 ^ 64 + 1 = split-size c.with_product.result c.split-low.result.high c.split-low.result.low (2 ^ 64) low (omega arith) in
    let low_low : unsigned_abs c.split-low.result.low < 2 ^ 62 = part-size c.split-low.result.low low.part in
    let middle : unsigned_abs c.self.inside.middle < 2 ^ 62 = part-size c.self.inside.middle c.self.invariant.0 in
    let self_low : unsigned_abs c.self.inside.low < 2 ^ 62 = part-size c.self.inside.low c.self.invariant.1 in
    let mid : IsSplit c.with_product-2.result c.split-middle.result.high c.split-middle.result.low = split_of c.with_product-2.result _ _ (omega arith) c.split-middle.ensures in
    let mid_high : unsigned_abs c.split-middle.result.high ≤ 2 ^ 64 + 1 = split-size c.with_product-2.result c.split-middle.result.high c.split-middle.result.low (2 ^ 64) mid (omega arith) in
    let mid_low : unsigned_abs c.split-middle.result.low < 2 ^ 62 = part-size c.split-middle.result.low mid.part in
    let small : unsigned_abs (value_of_parts c.self.inside.high c.self.inside.middle c.self.inside.low) ≤ 2 ^ 248 = rw c.self.view_is c.requires.sum in
    let high : unsigned_abs c.self.inside.high ≤ 2 ^ 124 + 1 = high-size c.self.inside.high c.self.inside.middle c.self.inside.low c.self.invariant.0 c.self.invariant.1 small in
    let first : c.with_product.result ≡ c.self.inside.low +ℤ (c.args.factor *ℤ c.split-parts.result.low) = rw (kept c.self.inside.low (omega arith), to_z-of_z w128 c.args.factor c.ranges.factor, kept c.split-parts.result.low (omega arith)) at c.with_product.ensures.value in
    let second : c.with_product-2.result ≡ (c.self.inside.middle +ℤ c.split-low.result.high) +ℤ (c.args.factor *ℤ c.split-parts.result.high) = rw (kept c.self.inside.middle (omega arith), kept c.split-low.result.high (omega arith), kept (c.self.inside.middle +ℤ c.split-low.result.high) (omega (arith, size-add c.self.inside.middle c.split-low.result.high)), to_z-of_z w128 c.args.factor c.ranges.factor, kept c.split-parts.result.high (omega arith)) at c.with_product-2.ensures.value in
    rw (kept c.self.inside.high (omega arith), kept c.split-middle.result.high (omega arith), kept (c.self.inside.high +ℤ c.split-middle.result.high) (omega (arith, size-add c.self.inside.high c.split-middle.result.high)), kept c.split-middle.result.low (omega arith), kept c.split-low.result.low (omega arith), ← c.self.view_is) (added c.self.inside.high c.self.inside.middle c.self.inside.low c.args.factor c.args.number _ _ _ _ _ _ parts.sum (sym first ∙ low.sum) (sym second ∙ mid.sum))
