use Rattle.std.proofs.Common.{◌≡◌, drop}
use Rattle.form_faults.specs.Faults.{least}
use Rattle.form_faults.specs.Resources.{params_faults, params_scope}
use Rattle.form_faults.proofs.headers.bind_params.Given as goal

abbrev pub invariant-loop-param : goal.invariant-loop-param
invariant-loop-param l =
    (least l.first (params_faults l.protos l.scope (drop l.param-index l.params)) ≡ least l.initial.first (params_faults l.protos l.initial.scope l.params))
    × (params_scope l.scope (drop l.param-index l.params) ≡ params_scope l.initial.scope l.params)
