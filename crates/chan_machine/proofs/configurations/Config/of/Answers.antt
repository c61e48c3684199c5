use Rattle.std.proofs.Common.{Option, sym, ap, subst, ◌∙◌}
use Rattle.std.specs.Option.{option_map}
use Rattle.core_language.specs.Names.{NameMap}
use Rattle.core_language.specs.Configurations as core
use Rattle.core_language.specs.Values.{Value}
use Rattle.machine_values.specs.Reading.{value_as}
use Rattle.task_tables.specs.Tables.{tasks_of}
use Rattle.chan_machine.specs.Fits.{TasksFit}
use Rattle.chan_machine.specs.Reading.{map_of, prints_of, tasks_named}
use Rattle.chan_machine.proofs.Keeping.{named_fit, named_read}
use Rattle.chan_machine.proofs.configurations.Config.of.Goals as goal

pub returns-clause-value : goal.returns-clause-value
returns-clause-value c = λ program.
    let made : NameMap core.Task → NameMap (Option Value) → core.Config = λ ts cs. record { tasks = ts; channels = cs; prints = prints_of c.args.prints } in
    ap (λ ts. made ts (map_of (option_map value_as) c.in_ok-gather_channels.field-0)) (ap (tasks_of program) c.in_ok-gather_tasks.ensures ∙ named_read program c.args.tasks)
    ∙ ap (made (tasks_named program c.args.tasks)) c.in_ok-gather_channels.ensures

pub returns-clause-fits : goal.returns-clause-fits
returns-clause-fits c = λ program fit. subst (TasksFit program) (sym c.in_ok-gather_tasks.ensures) (named_fit program c.args.tasks fit)
