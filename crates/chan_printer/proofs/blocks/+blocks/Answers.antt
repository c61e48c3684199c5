use Rattle.std.proofs.Common.{arith}
use Rattle.std.proofs.lemmas.Grind.{common_steps}
use Rattle.surface_spelling.proofs.Bytes.{byte_rules}
use Rattle.surface_spelling.proofs.SpelledBlocks.{stmt_forkdo}
use Rattle.chan_printer.proofs.blocks.+blocks.Goals as goal

pub put_stmt-returns-in_ok-put_task_head-in-ForkDo : goal.put_stmt-returns-in_ok-put_task_head-in-ForkDo
put_stmt-returns-in_ok-put_task_head-in-ForkDo c = grind (arith, common_steps, byte_rules, stmt_forkdo)
