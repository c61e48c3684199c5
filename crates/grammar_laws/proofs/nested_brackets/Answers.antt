use Rattle.grammar_laws.proofs.Example.{is_unique, is_exact, is_complete}
use Rattle.grammar_laws.proofs.nested_brackets.Goals as goal

pub returns-clause-unique : goal.returns-clause-unique
returns-clause-unique c = is_unique

pub returns-clause-exact : goal.returns-clause-exact
returns-clause-exact c = is_exact

pub returns-clause-complete : goal.returns-clause-complete
returns-clause-complete c = is_complete
