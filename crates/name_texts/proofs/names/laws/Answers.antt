use Rattle.name_texts.proofs.Reading.{read_back}
use Rattle.name_texts.proofs.names.laws.Goals as goal

pub returns : goal.returns
returns c = read_back
