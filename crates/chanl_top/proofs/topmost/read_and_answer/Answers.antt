use Rattle.chanl_top.proofs.Deciding.{decides_text, no_usage}
use Rattle.chanl_top.proofs.topmost.read_and_answer.Goals as goal

pub returns-in_ok-verdict-in-Ok-clause-answer : goal.returns-in_ok-verdict-in-Ok-clause-answer
returns-in_ok-verdict-in-Ok-clause-answer g c =
    let taken = c.in-Ok.ensures.taken in
    decides_text c.args.command _ _ _ _ c.in_ok-verdict-in-Ok.verdict c.as_slice.result.now c.in-Ok.bytes c.as_slice.ensures c.in_ok-verdict-in-Ok.ensures taken.0 taken.1 taken.2

pub returns-in_ok-verdict-in-Ok-clause-admitted : goal.returns-in_ok-verdict-in-Ok-clause-admitted
returns-in_ok-verdict-in-Ok-clause-admitted g c = no_usage c.args.command _ _ c.in_ok-verdict-in-Ok.ensures
