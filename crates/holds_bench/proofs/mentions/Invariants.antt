use Rattle.std.proofs.Common.{◌≡◌, ◌<◌, ◌^◌, All, length, unsigned_abs}
use Rattle.holds_bench.proofs.mentions.Given as goal

abbrev pub invariant-loop-index : goal.invariant-loop-index
invariant-loop-index l = record {
  count : length l.all ≡ l.index;
  bounded : All (λ m. unsigned_abs m.factor < 2 ^ 31) l.all;
}
