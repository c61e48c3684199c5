use Rattle.std.proofs.Common.{◌≡◌, drop}
use Rattle.form_faults.specs.Faults.{least}
use Rattle.form_faults.specs.Operands.{certs_faults}
use Rattle.form_faults.proofs.operands.check_certs.Given as goal

abbrev pub invariant-loop-cert : goal.invariant-loop-cert
invariant-loop-cert l = least l.first (certs_faults (drop l.cert-index l.certs)) ≡ least l.initial.first (certs_faults l.certs)
