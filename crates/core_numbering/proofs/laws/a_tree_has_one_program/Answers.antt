use Rattle.core_numbering.proofs.Forms.{is_one_form}
use Rattle.core_numbering.proofs.Said.{says_the_tree, is_one_program}
use Rattle.core_numbering.proofs.laws.a_tree_has_one_program.Goals as goal

pub returns-clause-says : goal.returns-clause-says
returns-clause-says c = says_the_tree

pub returns-clause-one : goal.returns-clause-one
returns-clause-one c = is_one_program

pub returns-clause-form : goal.returns-clause-form
returns-clause-form c = is_one_form
