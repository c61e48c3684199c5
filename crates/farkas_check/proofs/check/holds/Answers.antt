use Rattle.std.proofs.Common.{◌≡◌, ◌≤◌, length, arith}
use Rattle.farkas_check.specs.Rows.{width}
use Rattle.farkas_check.specs.Certificates.{faults, verdict}
use Rattle.farkas_check.proofs.Widths.{widest_from-most}
use Rattle.farkas_check.proofs.Validity.{valid-ok}
use Rattle.farkas_check.proofs.Within.{first_within}
use Rattle.farkas_check.proofs.Forms.{entailed}
use Rattle.farkas_check.proofs.check.holds.Goals as goal

pub first_fault-requires : goal.first_fault-requires
first_fault-requires c =
    let narrow : width c.args.hyps.now c.args.claim.now ≤ 256 = widest_from-most (length c.args.claim.now.coefficients) 256 c.args.hyps.now c.requires.claim c.requires.hypotheses in
    rw c.as_slice.ensures (omega arith)

pub returns-clause-valid : goal.returns-clause-valid
returns-clause-valid c =
    let same : c.first_fault.result ≡ verdict (faults c.args.cert.now.divisor c.args.cert.now.mentions c.args.hyps.now c.args.claim.now) = rw c.as_slice.ensures at c.first_fault.ensures in
    rw same (valid-ok c.args.cert.now.divisor c.args.cert.now.mentions c.args.hyps.now c.args.claim.now)

pub returns-clause-within : goal.returns-clause-within
returns-clause-within c =
    let same : c.first_fault.result ≡ verdict (faults c.args.cert.now.divisor c.args.cert.now.mentions c.args.hyps.now c.args.claim.now) = rw c.as_slice.ensures at c.first_fault.ensures in
    rw same (first_within c.args.cert.now.divisor c.args.cert.now.mentions c.args.hyps.now c.args.claim.now)

pub returns-clause-entails : goal.returns-clause-entails
returns-clause-entails c = λ ok.
    let same : c.first_fault.result ≡ verdict (faults c.args.cert.now.divisor c.args.cert.now.mentions c.args.hyps.now c.args.claim.now) = rw c.as_slice.ensures at c.first_fault.ensures in
    entailed c.args.cert.now.divisor c.args.cert.now.mentions c.args.hyps.now c.args.claim.now c.args.cert.now.positive ((valid-ok c.args.cert.now.divisor c.args.cert.now.mentions c.args.hyps.now c.args.claim.now).0 (rw same at ok))
