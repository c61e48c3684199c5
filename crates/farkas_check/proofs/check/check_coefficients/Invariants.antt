use Rattle.std.proofs.Common.{◌≡◌, [], flat_map}
use Rattle.std.specs.List.{range_with_len}
use Rattle.farkas_check.specs.Certificates.{faults_at_variable}
use Rattle.farkas_check.proofs.check.check_coefficients.Given as goal

abbrev pub invariant-loop-variable : goal.invariant-loop-variable
invariant-loop-variable l = flat_map (faults_at_variable l.cert.divisor l.cert.mentions l.hyps l.claim) (range_with_len 0 l.variable) ≡ []
