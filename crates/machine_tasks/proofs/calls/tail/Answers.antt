use Rattle.std.proofs.Common.{refl, sym, ◌∙◌}
use Rattle.machine_tasks.proofs.Places.{on_err}
use Rattle.machine_tasks.proofs.calls.tail.Goals as goal

pub returns-in_err-callee-clause-err : goal.returns-in_err-callee-clause-err
returns-in_err-callee-clause-err c = on_err c.from_residual.result _ (record { name_is = refl; forks_are = refl; frames_are = refl })

pub returns-clause-ok : goal.returns-clause-ok
returns-clause-ok c = λ front f is. record {
  name_is = c.replace_top.ensures.name;
  forks_are = c.replace_top.ensures.forks;
  place_is = c.replace_top.ensures.place c.args.program.now.nodes front f is ∙ sym (c.in_ok-callee.ensures.entered _);
  fits = c.replace_top.ensures.fits c.args.program.now.nodes c.in_ok-callee.ensures.stands c.requires.fits;
}

pub returns-clause-ends : goal.returns-clause-ends
returns-clause-ends c = λ test values. c.replace_top.ensures.ends test (c.in_ok-callee.ensures.ends test values)
