use Rattle.std.proofs.Common.{sym, pos, ◌<ℤ◌, slice_index_or, arith}
use Rattle.std.proofs.lemmas.Int.{ints}
use Rattle.farkas_check.proofs.FaultLists.{first_here}
use Rattle.farkas_check.proofs.Validity.{bad_index, negative}
use Rattle.farkas_check.specs.Certificates.{faults_of_mention}
use Rattle.farkas_check.proofs.check.check_mentions.Goals as goal

pub returns-then-mention-hyps : goal.returns-then-mention-hyps
returns-then-mention-hyps c =
    let m = slice_index_or c.args.mentions.now c.loop-mention.mention-index record { factor = pos 0; index = 0 } in
    sym (first_here (faults_of_mention c.args.hyps.now) c.args.mentions.now c.loop-mention.mention-index _ _ (omega arith) c.loop-mention.invariant (bad_index c.args.hyps.now m c.if-mention-hyps.true))

pub returns-then-mention-lt0 : goal.returns-then-mention-lt0
returns-then-mention-lt0 c =
    let m = slice_index_or c.args.mentions.now c.loop-mention.mention-index record { factor = pos 0; index = 0 } in
    let below : m.factor <ℤ pos 0 = omega (arith, ints) in
    sym (first_here (faults_of_mention c.args.hyps.now) c.args.mentions.now c.loop-mention.mention-index _ _ (omega arith) c.loop-mention.invariant (negative c.args.hyps.now m c.if-mention-hyps.false below))
