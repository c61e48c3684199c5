use Rattle.lowered_places.proofs.Kept.{keeps_spans, stands_in_tree}
use Rattle.lowered_places.proofs.laws.Goals as goal

pub returns-clause-keeps : goal.returns-clause-keeps
returns-clause-keeps c = keeps_spans

pub returns-clause-stands : goal.returns-clause-stands
returns-clause-stands c = stands_in_tree
