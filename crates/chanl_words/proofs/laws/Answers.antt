use Rattle.chanl_words.proofs.OneCommand.{one_command, few_rounds}
use Rattle.chanl_words.proofs.laws.Goals as goal

pub returns : goal.returns
returns c = record { one = one_command; few = few_rounds }
