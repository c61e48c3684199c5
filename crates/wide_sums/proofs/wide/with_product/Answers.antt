use Rattle.std.proofs.Common.{◌≤◌, ◌^◌, ◌*◌, ◌+ℤ◌, ◌*ℤ◌, unsigned_abs, FitsSigned, arith}
use Rattle.std.specs.Int.{w128}
use Rattle.std.proofs.lemmas.Int.{to_z-of_z, fits_signed_from_abs}
use Rattle.farkas_check.proofs.Sums.{size-add}
use Rattle.wide_sums.proofs.Sizes.{size-mul}
use Rattle.wide_sums.proofs.wide.with_product.Goals as goal

pub returns-clause-value : goal.returns-clause-value
returns-clause-value c =
    let small : unsigned_abs (c.args.factor *ℤ c.args.number) ≤ 2 ^ 63 * 2 ^ 62 = size-mul c.args.factor c.args.number (2 ^ 63) (2 ^ 62) c.requires.factor c.requires.number in
    let product_fits : FitsSigned w128 (c.args.factor *ℤ c.args.number) = fits_signed_from_abs w128 _ (omega arith) in
    let sum_fits : FitsSigned w128 (c.args.sum +ℤ (c.args.factor *ℤ c.args.number)) = fits_signed_from_abs w128 _ (omega (arith, size-add c.args.sum (c.args.factor *ℤ c.args.number))) in
    rw (to_z-of_z w128 c.args.factor c.ranges.factor, to_z-of_z w128 c.args.number c.ranges.number, to_z-of_z w128 c.args.sum c.ranges.sum, to_z-of_z w128 _ product_fits) (to_z-of_z w128 _ sum_fits)

pub returns-clause-bound : goal.returns-clause-bound
returns-clause-bound c =
    let small : unsigned_abs (c.args.factor *ℤ c.args.number) ≤ 2 ^ 63 * 2 ^ 62 = size-mul c.args.factor c.args.number (2 ^ 63) (2 ^ 62) c.requires.factor c.requires.number in
    let product_fits : FitsSigned w128 (c.args.factor *ℤ c.args.number) = fits_signed_from_abs w128 _ (omega arith) in
    let sum_fits : FitsSigned w128 (c.args.sum +ℤ (c.args.factor *ℤ c.args.number)) = fits_signed_from_abs w128 _ (omega (arith, size-add c.args.sum (c.args.factor *ℤ c.args.number))) in
    rw (to_z-of_z w128 c.args.factor c.ranges.factor, to_z-of_z w128 c.args.number c.ranges.number, to_z-of_z w128 c.args.sum c.ranges.sum, to_z-of_z w128 _ product_fits, to_z-of_z w128 _ sum_fits) (omega (arith, size-add c.args.sum (c.args.factor *ℤ c.args.number)))
