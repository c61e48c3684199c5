use Rattle.std.proofs.Common.{◌≡◌, ◌++◌, ◌∷◌, [], append_assoc, List, rules, ap, ◌∙◌}
use Rattle.std.specs.FinMap.{insert}
use Rattle.machine_tasks.specs.declared.tasks.Task.{Task}
use Rattle.chan_machine.proofs.configurations.gather_tasks.Goals as goal

pub tasks-preserved : goal.tasks-preserved
tasks-preserved c =
    let task = c.in-Some.task in
    let done = c.tasks.invariant.0 in
    let last : c.tasks.left ≡ c.pop.new.self ++ task ∷ [] = search rules in (
      task ∷ done,
      c.tasks.invariant.1 ∙ ap (λ (ts : List Task). ts ++ done) last ∙ append_assoc c.pop.new.self (task ∷ []) done,
      c.in_ok-put.ensures.ok ∙ ap (λ m. insert m task.name task) c.tasks.invariant.2,
    )
