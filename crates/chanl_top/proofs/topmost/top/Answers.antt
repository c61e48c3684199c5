use Rattle.std.proofs.Common.{map, string_bytes}
use Rattle.chanl_top.specs.Verdict.{IsVerdict}
use Rattle.chanl_top.proofs.Deciding.{finished, tells_usage, wrote_no_usage}
use Rattle.chanl_top.proofs.topmost.top.Goals as goal

pub returns-in-Ok-clause-verdict : goal.returns-in-Ok-clause-verdict
returns-in-Ok-clause-verdict g c =
    finished (IsVerdict (map string_bytes c.args.words.now)) _ _ _ _ _ _ _ _ _ _ c.in-Ok.ensures.answer c.as_slice.ensures c.finish.ensures.ends

pub returns-in-Ok-clause-usage : goal.returns-in-Ok-clause-usage
returns-in-Ok-clause-usage g c = λ none. tells_usage _ _ _ _ _ _ _ (c.in-Ok.ensures.usage none) c.as_slice.ensures c.finish.ensures.ends

pub returns-in-Ok-clause-admitted : goal.returns-in-Ok-clause-admitted
returns-in-Ok-clause-admitted g c = λ command admits. wrote_no_usage _ _ _ _ _ _ _ (c.in-Ok.ensures.admitted command admits) c.finish.ensures.ends
