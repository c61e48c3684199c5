use Rattle.std.proofs.Common.{◌≡◌, ◌≢◌, ◌<◌, ap, sym, ◌∙◌, to_z, of_z, arith, add-one}
use Rattle.std.specs.Int.{w128}
use Rattle.std.proofs.lemmas.Int.{to_z-of_z, fits_signed_from_abs}
use Rattle.farkas_check.specs.Rows.{width}
use Rattle.farkas_check.specs.Certificates.{faults_at_variable, claimed_at, combined_at}
use Rattle.farkas_check.proofs.FaultLists.{first_below, none_more_below}
use Rattle.farkas_check.proofs.Validity.{equal_variable, unequal_variable}
use Rattle.farkas_check.proofs.check.check_coefficients.Goals as goal
use Rattle.farkas_check.proofs.check.check_coefficients.Goals.{After-combine-right}

-- the two sides as the code has them
left_kept : (c : After-combine-right) → to_z w128 (of_z w128 c.claimed-left.result) ≡ c.claimed-left.result
left_kept c = to_z-of_z w128 c.claimed-left.result (fits_signed_from_abs w128 _ (omega arith))

right_kept : (c : After-combine-right) → to_z w128 (of_z w128 c.combine-right.result) ≡ c.combine-right.result
right_kept c = to_z-of_z w128 c.combine-right.result (fits_signed_from_abs w128 _ (omega arith))

pub returns-then-left-right : goal.returns-then-left-right
returns-then-left-right c =
    let within : c.loop-variable.variable < width c.args.hyps.now c.args.claim.now = omega arith in
    let unequal : c.claimed-left.result ≢ c.combine-right.result = λ same. c.if-left-right.true (ap (of_z w128) same) in
    let here = unequal_variable c.args.cert.now.divisor c.args.cert.now.mentions c.args.hyps.now c.args.claim.now c.loop-variable.variable c.claimed-left.result c.combine-right.result c.claimed-left.ensures.value c.combine-right.ensures.value unequal in
    rw (left_kept c.before, right_kept c.before) (sym (first_below (faults_at_variable c.args.cert.now.divisor c.args.cert.now.mentions c.args.hyps.now c.args.claim.now) c.loop-variable.variable _ _ within c.loop-variable.invariant here))

pub loop-variable-preserved : goal.loop-variable-preserved
loop-variable-preserved c =
    let same : c.claimed-left.result ≡ c.combine-right.result = sym (left_kept c.before) ∙ ap (to_z w128) c.if-left-right.false ∙ right_kept c.before in
    let equal : claimed_at c.args.cert.now.divisor c.args.claim.now c.loop-variable.variable ≡ combined_at c.args.cert.now.mentions c.args.hyps.now c.loop-variable.variable = sym c.claimed-left.ensures.value ∙ same ∙ c.combine-right.ensures.value in
    rw add-one (none_more_below (faults_at_variable c.args.cert.now.divisor c.args.cert.now.mentions c.args.hyps.now c.args.claim.now) c.loop-variable.variable c.loop-variable.invariant (equal_variable c.args.cert.now.divisor c.args.cert.now.mentions c.args.hyps.now c.args.claim.now c.loop-variable.variable equal))
