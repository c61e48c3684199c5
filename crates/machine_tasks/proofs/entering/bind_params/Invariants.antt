use Rattle.std.proofs.Common.{◌≡◌, map}
use Rattle.core_language.specs.Acts.{params_env}
use Rattle.core_programs.specs.Bodies.{param_of}
use Rattle.machine_values.specs.Cells.{EndTest}
use Rattle.machine_values.specs.Ends.{BindsPass, ValuesPass}
use Rattle.machine_values.specs.Reading.{value_as}
use Rattle.machine_tasks.proofs.Params.{with_rest}
use Rattle.machine_tasks.proofs.entering.bind_params.Given as goal

abbrev pub invariant-values : goal.invariant-values
invariant-values l =
    (with_rest l.fn.params l.binds.items l.value-iterator.rest.items ≡ params_env (map param_of l.fn.params) (map value_as l.fn.values.items))
    × ((test : EndTest) → ValuesPass test l.fn.values.items → BindsPass test l.binds.items × ValuesPass test l.value-iterator.rest.items)
