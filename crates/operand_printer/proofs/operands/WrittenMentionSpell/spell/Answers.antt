use Rattle.std.proofs.Common.{arith}
use Rattle.std.proofs.lemmas.Grind.{common_steps}
use Rattle.surface_spelling.specs.Operands.{mention}
use Rattle.surface_spelling.proofs.Bytes.{byte_rules}
use Rattle.operand_printer.proofs.operands.WrittenMentionSpell.spell.Goals as goal

pub returns : goal.returns
unfolding mention
returns c = grind (arith, common_steps, byte_rules)
