use Rattle.unfold_laws.proofs.Formed.{formed_protocols, known_arity}
use Rattle.unfold_laws.proofs.Known.{program_known, theirs_known}
use Rattle.unfold_laws.proofs.Headed.{ends_headed}
use Rattle.unfold_laws.proofs.Found.{found_known}
use Rattle.unfold_laws.proofs.Nodes.{nodes_known}
use Rattle.unfold_laws.proofs.Bounded.{nodes_bounded}
use Rattle.unfold_laws.proofs.OneResult.{one_subst}
use Rattle.unfold_laws.proofs.OneAnswer.{one_answer}
use Rattle.unfold_laws.proofs.laws.Goals as goal

pub returns-clause-protocols : goal.returns-clause-protocols
returns-clause-protocols c = formed_protocols

pub returns-clause-references : goal.returns-clause-references
returns-clause-references c = program_known

pub returns-clause-forks : goal.returns-clause-forks
returns-clause-forks c = nodes_known

pub returns-clause-arity : goal.returns-clause-arity
returns-clause-arity c = known_arity

pub returns-clause-certs : goal.returns-clause-certs
returns-clause-certs c = nodes_bounded

pub returns-clause-heads : goal.returns-clause-heads
returns-clause-heads c = ends_headed

pub returns-clause-theirs : goal.returns-clause-theirs
returns-clause-theirs c = theirs_known

pub returns-clause-found : goal.returns-clause-found
returns-clause-found c = found_known

pub returns-clause-result : goal.returns-clause-result
returns-clause-result c = one_subst

pub returns-clause-answer : goal.returns-clause-answer
returns-clause-answer c = one_answer
