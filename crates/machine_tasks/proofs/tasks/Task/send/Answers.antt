use Rattle.std.proofs.Common.{refl, sym, ap, ◌∙◌}
use Rattle.core_language.specs.Acts as act
use Rattle.machine_values.specs.Reading.{value_as}
use Rattle.machine_tasks.proofs.tasks.Task.send.Goals as goal

pub returns-in-Ok-clause-ok : goal.returns-in-Ok-clause-ok
returns-in-Ok-clause-ok c =
    let got = c.in-Ok.ensures in
    let goes = c.go_on.ensures.goes in
    record {
      channel = got.channel;
      act_is = got.act_is ∙ ap (act.Send got.channel (value_as c.in-Ok.parcel.value)) (sym goes.place_is);
      task_is = record { name_is = goes.name_is; forks_are = goes.forks_are; place_is = refl; fits = goes.fits };
      ends = λ test passes. (got.ends test passes, c.go_on.ensures.ends test passes);
    }
