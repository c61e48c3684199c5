use Rattle.grammar_laws.proofs.Knot.{outcome_is, one_tree, whole_is}
use Rattle.surface_grammar.specs.Declarations.{program}
use Rattle.surface_grammar.specs.Language.{surface, max_levels}
use Rattle.surface_grammar.proofs.Tests.{names_pass, program_passes, samples}
use Rattle.surface_grammar.proofs.laws.texts.Goals as goal

pub returns-clause-unique : goal.returns-clause-unique
returns-clause-unique c = λ x y ts d e. one_tree surface names_pass samples program program_passes x y ts d e

pub returns-clause-outcome : goal.returns-clause-outcome
returns-clause-outcome c = λ ts. outcome_is surface names_pass samples max_levels program program_passes ts

pub returns-clause-complete : goal.returns-clause-complete
returns-clause-complete c = λ x ts d. whole_is surface names_pass samples max_levels program program_passes x ts d
