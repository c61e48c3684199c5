use Rattle.std.proofs.Common.{arith}
use Rattle.std.proofs.lemmas.Grind.{common_steps}
use Rattle.surface_spelling.specs.Blocks.{arm_head}
use Rattle.surface_spelling.proofs.Bytes.{bytes-nil, bytes-token, bytes-separator, bytes-append}
use Rattle.chan_printer.proofs.heads.put_arm_head.Goals as goal

pub returns : goal.returns
unfolding arm_head
returns c = grind (arith, common_steps, bytes-nil, bytes-token, bytes-separator, bytes-append)
