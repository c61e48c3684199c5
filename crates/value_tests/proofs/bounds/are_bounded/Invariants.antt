use Rattle.std.proofs.Common.{All, drop}
use Rattle.chan_syntax.specs.Bounds.{IsBounded}
use Rattle.value_tests.proofs.bounds.are_bounded.Given as goal

abbrev pub invariant-loop-cert : goal.invariant-loop-cert
invariant-loop-cert l = All IsBounded (drop l.cert-index l.certs) → All IsBounded l.certs
