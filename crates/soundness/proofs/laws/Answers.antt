use Rattle.std.proofs.Common.{refl}
use Rattle.core_language.specs.Names.{same_name}
use Rattle.core_language.specs.Schedules.{after}
use Rattle.graphs.specs.Graph.{edges, same_node}
use Rattle.graphs.proofs.Fewer.{IsForest-from}
use Rattle.moved_uses.proofs.Bags.{holder-is, holder-self}
use Rattle.good_steps.proofs.Kept.{step_fine}
use Rattle.good_progress.proofs.Progress.{good_live}
use Rattle.standing_contexts.specs.Places.{PlaceAt}
use Rattle.outline_steps.proofs.Sound.{acts_fit, start_good, reached_good, never_stuck}
use Rattle.one_answer.proofs.Answer.{one_answer}
use Rattle.one_answer.proofs.Endings.{ends_well}
use Rattle.soundness.proofs.Commutes.{steps_commute}
use Rattle.soundness.proofs.Example.{some_program}
use Rattle.soundness.proofs.laws.Goals as goal

pub returns-clause-starts : goal.returns-clause-starts
returns-clause-starts c = λ P outlined formed. start_good P outlined formed

pub returns-clause-keeps : goal.returns-clause-keeps
returns-clause-keeps c = λ P outlined formed C good p. step_fine P (PlaceAt P) (acts_fit P outlined formed) refl C good p

pub returns-clause-safe : goal.returns-clause-safe
returns-clause-safe c = λ P outlined formed schedule. never_stuck P outlined formed schedule

pub returns-clause-forest : goal.returns-clause-forest
returns-clause-forest c = λ P outlined formed schedule.
    let good = reached_good P outlined formed schedule in
    (good, IsForest-from (same_node same_name) holder-is holder-self (edges (good.uses)) (good.forest))

pub returns-clause-goes_on : goal.returns-clause-goes_on
returns-clause-goes_on c = λ P outlined formed C good. good_live P (PlaceAt P) (acts_fit P outlined formed) C good (λ p. (step_fine P (PlaceAt P) (acts_fit P outlined formed) refl C good p).1)

pub returns-clause-live : goal.returns-clause-live
returns-clause-live c = λ P outlined formed schedule. good_live P (PlaceAt P) (acts_fit P outlined formed) (after P schedule) (reached_good P outlined formed schedule) (never_stuck P outlined formed schedule)

pub returns-clause-commutes : goal.returns-clause-commutes
returns-clause-commutes c = steps_commute

pub returns-clause-answer : goal.returns-clause-answer
returns-clause-answer c = λ P outlined formed schedule halts none. one_answer P (PlaceAt P) (acts_fit P outlined formed) refl (start_good P outlined formed) schedule halts none

pub returns-clause-some : goal.returns-clause-some
returns-clause-some c = some_program

pub returns-clause-ends : goal.returns-clause-ends
returns-clause-ends c = λ P outlined formed t. ends_well P (PlaceAt P) (acts_fit P outlined formed) refl (start_good P outlined formed) t
