use Rattle.std.proofs.Common.{OnOk, refl, sym, subst}
use Rattle.core_language.specs.Configurations.{Place}
use Rattle.machine_tasks.specs.Steps.{GoesTo}
use Rattle.std.proofs.lemmas.Result.{on_ok_weaker}
use Rattle.machine_tasks.proofs.Places.{on_err}
use Rattle.machine_tasks.proofs.calls.call.Goals as goal

pub returns-in_err-callee-clause-err : goal.returns-in_err-callee-clause-err
returns-in_err-callee-clause-err c = on_err c.from_residual.result _ (record { name_is = refl; forks_are = refl; frames_are = refl })

pub returns-clause-ok : goal.returns-clause-ok
returns-clause-ok c = λ front f is call.
    subst (λ (p : Place). OnOk c.put_above.result (GoesTo c.args.program.now c.args.task.now c.put_above.new.task p)) (sym (c.in_ok-callee.ensures.entered _)) (c.put_above.ensures.ok front f is call)

pub returns-clause-ends : goal.returns-clause-ends
returns-clause-ends c = on_ok_weaker c.put_above.result (λ keeps test values. keeps test (c.in_ok-callee.ensures.ends test values)) c.put_above.ensures.ends
