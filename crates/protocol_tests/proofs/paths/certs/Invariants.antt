use Rattle.std.proofs.Common.{All}
use Rattle.chan_syntax.specs.Bounds.{IsBounded}
use Rattle.protocol_tests.proofs.paths.certs.Given as goal

abbrev pub invariant-loop-mentioned : goal.invariant-loop-mentioned
invariant-loop-mentioned l = All IsBounded l.certs
