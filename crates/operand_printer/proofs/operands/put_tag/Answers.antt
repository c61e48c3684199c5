use Rattle.std.proofs.Common.{arith}
use Rattle.std.proofs.lemmas.Grind.{common_steps}
use Rattle.surface_spelling.specs.Operands.{tag}
use Rattle.surface_spelling.proofs.Bytes.{byte_rules}
use Rattle.operand_printer.proofs.operands.put_tag.Goals as goal

pub returns-then-number-eq0 : goal.returns-then-number-eq0
unfolding tag
returns-then-number-eq0 c = grind (arith, common_steps, byte_rules)
