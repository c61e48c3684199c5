use Rattle.chanl_top.proofs.Deciding.{decides_words}
use Rattle.chanl_top.proofs.topmost.decide.Goals as goal

pub returns-in_ok-verdict-in-Some-clause-answer : goal.returns-in_ok-verdict-in-Some-clause-answer
returns-in_ok-verdict-in-Some-clause-answer g c =
    decides_words _ _ _ _ _ _ c.in-Some.ensures.some c.in_ok-verdict-in-Some.ensures.answer

pub returns-in_ok-output-in-None-clause-whole : goal.returns-in_ok-output-in-None-clause-whole
returns-in_ok-output-in-None-clause-whole g c = λ command admitted. absurd (c.in-None.ensures.none command admitted)

pub returns-in_ok-verdict-in-Some-clause-usage : goal.returns-in_ok-verdict-in-Some-clause-usage
returns-in_ok-verdict-in-Some-clause-usage g c = λ none. absurd (none _ c.in-Some.ensures.some)

pub returns-in_ok-output-in-None-clause-admitted : goal.returns-in_ok-output-in-None-clause-admitted
returns-in_ok-output-in-None-clause-admitted g c = λ command admitted. absurd (c.in-None.ensures.none command admitted)
