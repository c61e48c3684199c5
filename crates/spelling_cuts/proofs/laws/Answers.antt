use Rattle.spelling_cuts.proofs.Cut.{words_are_cut}
use Rattle.spelling_cuts.proofs.laws.Goals as goal

pub returns : goal.returns
returns c = record { cut = words_are_cut }
