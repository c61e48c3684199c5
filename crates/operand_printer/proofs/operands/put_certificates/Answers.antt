use Rattle.std.proofs.Common.{arith}
use Rattle.std.proofs.lemmas.Grind.{common_steps}
use Rattle.surface_spelling.specs.Operands.{certificates}
use Rattle.surface_spelling.proofs.Bytes.{byte_rules}
use Rattle.operand_printer.proofs.operands.put_certificates.Goals as goal

pub returns-in_ok-put-2 : goal.returns-in_ok-put-2
unfolding certificates
returns-in_ok-put-2 c = grind (arith, common_steps, byte_rules)
