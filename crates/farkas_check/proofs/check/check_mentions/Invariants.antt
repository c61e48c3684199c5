use Rattle.std.proofs.Common.{◌≡◌, [], take, flat_map}
use Rattle.farkas_check.specs.Certificates.{faults_of_mention}
use Rattle.farkas_check.proofs.check.check_mentions.Given as goal

abbrev pub invariant-loop-mention : goal.invariant-loop-mention
invariant-loop-mention l = flat_map (faults_of_mention l.hyps) (take l.mention-index l.mentions) ≡ []
