-- Runs of a program of form that is outlined are sound.
use Rattle.std.proofs.Common.{refl}
use Rattle.core_language.specs.Names.{same_name}
use Rattle.core_language.specs.Schedules.{after}
use Rattle.core_programs.specs.Bodies.{program_of}
use Rattle.graphs.specs.Graph.{edges, same_node}
use Rattle.graphs.proofs.Fewer.{IsForest-from}
use Rattle.moved_uses.proofs.Bags.{holder-is, holder-self}
use Rattle.good_progress.proofs.Progress.{good_live}
use Rattle.standing_contexts.specs.Places.{PlaceAt}
use Rattle.outline_steps.proofs.Sound.{acts_fit, start_good, reached_good, never_stuck}
use Rattle.one_answer.proofs.Answer.{one_answer}
use Rattle.form_soundness.specs.Runs.{FormIsSafe, FormIsLive, FormIsForest, FormHasOneAnswer}
use Rattle.form_soundness.proofs.Formed.{form_is_formed}

pub form_safe : FormIsSafe
form_safe parts form outlined schedule = never_stuck (program_of parts) outlined (form_is_formed parts form) schedule

pub form_live : FormIsLive
form_live parts form outlined schedule =
    let P = program_of parts in
    let formed = form_is_formed parts form in
    good_live P (PlaceAt P) (acts_fit P outlined formed) (after P schedule) (reached_good P outlined formed schedule) (never_stuck P outlined formed schedule)

pub form_forest : FormIsForest
form_forest parts form outlined schedule =
    let good = reached_good (program_of parts) outlined (form_is_formed parts form) schedule in
    (good, IsForest-from (same_node same_name) holder-is holder-self (edges (good.uses)) (good.forest))

pub form_answer : FormHasOneAnswer
form_answer parts form outlined schedule halts none =
    let P = program_of parts in
    let formed = form_is_formed parts form in
    one_answer P (PlaceAt P) (acts_fit P outlined formed) refl (start_good P outlined formed) schedule halts none
