use Rattle.std.proofs.Common.{◌≡◌, ◌≤◌, ◌*◌, ◌^◌, take, unsigned_abs}
use Rattle.farkas_check.specs.Places.{number_at}
use Rattle.farkas_check.specs.Certificates.{combined}
use Rattle.farkas_check.proofs.check.combine.Given as goal

abbrev pub invariant-loop-mention : goal.invariant-loop-mention
invariant-loop-mention l = record {
  value : l.sum ≡ combined (number_at l.place) l.hyps (take l.mention-index l.mention-items);
  bound : unsigned_abs l.sum ≤ l.mention-index * 2 ^ 94;
}
