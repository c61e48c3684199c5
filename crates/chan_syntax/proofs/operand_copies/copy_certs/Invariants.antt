use Rattle.std.proofs.Common.{◌≡◌, take}
use Rattle.chan_syntax.proofs.operand_copies.copy_certs.Given as goal

abbrev pub invariant-loop-cert : goal.invariant-loop-cert
invariant-loop-cert l = l.copy ≡ take l.cert-index l.cert-items
