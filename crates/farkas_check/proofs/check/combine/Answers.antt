use Rattle.std.proofs.Common.{◌≡◌, ◌<◌, ◌≤◌, ◌^◌, ◌*◌, ◌+ℤ◌, pos, take, to_z, of_z, unsigned_abs, FitsSigned, arith, length, add-one}
use Rattle.std.specs.Int.{w128}
use Rattle.std.proofs.lemmas.Int.{to_z-of_z, fits_signed_from_abs}
use Rattle.farkas_check.specs.Places.{number_at}
use Rattle.farkas_check.specs.Certificates.{combined}
use Rattle.farkas_check.proofs.Sums.{combined-more, size-add}
use Rattle.farkas_check.proofs.check.combine.Goals as goal

few_so_far : (c : goal.After-weigh-sum) → c.loop-mention.mention-index < 256
few_so_far c =
    let few : length c.as_slice-mention-items.result.now ≤ 256 = rw c.as_slice-mention-items.ensures c.args.cert.now.few in
    omega arith

small_so_far : (c : goal.After-weigh-sum) → unsigned_abs c.loop-mention.sum ≤ c.loop-mention.mention-index * 2 ^ 94
small_so_far c = rw c.loop-mention.sum-is at c.loop-mention.invariant.bound

-- the new sum does not wrap
total : (c : goal.After-weigh-sum) → to_z w128 (of_z w128 (to_z w128 c.loop-mention.sum-bits +ℤ to_z w128 (of_z w128 c.weigh-sum.result))) ≡ c.loop-mention.sum +ℤ c.weigh-sum.result
total c =
    let fits : FitsSigned w128 (c.loop-mention.sum +ℤ c.weigh-sum.result) =
    fits_signed_from_abs w128 _ (omega (arith, few_so_far c, small_so_far c, size-add c.loop-mention.sum c.weigh-sum.result)) in
    let fits_term : FitsSigned w128 c.weigh-sum.result = fits_signed_from_abs w128 _ (omega arith) in
    rw (c.loop-mention.sum-is, to_z-of_z w128 c.weigh-sum.result fits_term) (to_z-of_z w128 _ fits)

pub loop-mention-preserved : goal.loop-mention-preserved
loop-mention-preserved c =
    let so_far : c.loop-mention.sum ≡ combined (number_at c.args.place) c.args.hyps.now (take c.loop-mention.mention-index c.as_slice-mention-items.result.now) = rw c.loop-mention.sum-is at c.loop-mention.invariant.value in
    record {
      value = rw (total c, add-one, combined-more (number_at c.args.place) c.args.hyps.now c.as_slice-mention-items.result.now c.loop-mention.mention-index record { factor = pos 0; index = 0 } c.loop-mention-test.true, so_far, c.weigh-sum.ensures.value);
      bound = rw (total c) (omega (arith, small_so_far c, size-add c.loop-mention.sum c.weigh-sum.result));
    }
