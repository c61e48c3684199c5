use Rattle.std.proofs.Common.{◌≡◌, length, take}
use Rattle.substitution.proofs.substituting.lengthened.Given as goal

abbrev pub invariant-loop-byte : goal.invariant-loop-byte
invariant-loop-byte l = l.bytes.items ≡ take l.byte-index l.byte-items

abbrev pub invariant-loop : goal.invariant-loop
invariant-loop l = length l.bytes.items ≡ l.counter
