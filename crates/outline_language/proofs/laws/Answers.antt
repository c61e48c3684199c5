use Rattle.outline_language.specs.Outlined.{faults_of_program}
use Rattle.outline_language.proofs.Bodies.{none_of_functions, functions_of_none}
use Rattle.outline_language.proofs.FirstFaults.{least_is_none, none_of_nothing, least_is_first, first_is_least, first_is_one}
use Rattle.outline_language.proofs.Examples.{receiving, dropping, tree_stands, tree_needs_branch, tree_needs_cert}
use Rattle.outline_language.proofs.laws.Goals as goal

pub returns-clause-outlined : goal.returns-clause-outlined
returns-clause-outlined c = λ P. (λ is. none_of_nothing (faults_of_program P) (none_of_functions P P.funcs is), λ none. functions_of_none P P.funcs (least_is_none (faults_of_program P) none))

pub returns-clause-found : goal.returns-clause-found
returns-clause-found c = λ P f. (least_is_first (faults_of_program P) f, first_is_least (faults_of_program P) f)

pub returns-clause-one : goal.returns-clause-one
returns-clause-one c = λ P f g. first_is_one (faults_of_program P) f g

pub returns-clause-receives : goal.returns-clause-receives
returns-clause-receives c = receiving

pub returns-clause-drops : goal.returns-clause-drops
returns-clause-drops c = dropping

pub returns-clause-tree : goal.returns-clause-tree
returns-clause-tree c = tree_stands

pub returns-clause-branch : goal.returns-clause-branch
returns-clause-branch c = tree_needs_branch

pub returns-clause-cert : goal.returns-clause-cert
returns-clause-cert c = tree_needs_cert
