use Rattle.std.proofs.Common.{◌≡◌, ◌<◌, ◌^◌, take, map, length, All, unsigned_abs}
use Rattle.chan_syntax.specs.Reading.{mention_of}
use Rattle.chan_syntax.specs.Bounds.{mention_in}
use Rattle.chan_syntax.proofs.certificates.mentions.Given as goal

abbrev pub invariant-loop-mention : goal.invariant-loop-mention
invariant-loop-mention l =
    (map mention_in l.all ≡ map mention_of (take l.mention-index l.mention-items))
    × (length l.all ≡ l.mention-index)
    × All (λ m. unsigned_abs m.factor < 2 ^ 31) l.all
