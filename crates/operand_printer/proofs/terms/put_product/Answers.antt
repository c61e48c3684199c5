use Rattle.std.proofs.Common.{arith}
use Rattle.std.proofs.lemmas.Grind.{common_steps}
use Rattle.surface_spelling.specs.Operands.{product}
use Rattle.surface_spelling.proofs.Bytes.{byte_rules}
use Rattle.operand_printer.proofs.terms.put_product.Goals as goal

pub returns-in-Some : goal.returns-in-Some
unfolding product
returns-in-Some c = grind (arith, common_steps, byte_rules)
