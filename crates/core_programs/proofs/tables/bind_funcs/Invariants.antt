use Rattle.std.proofs.Common.{◌≡◌, drop}
use Rattle.form_faults.specs.Faults.{least}
use Rattle.form_faults.specs.Scopes.{twice_all}
use Rattle.core_programs.specs.Passes.{func_names}
use Rattle.core_programs.proofs.tables.bind_funcs.Given as goal

abbrev pub invariant-loop-func : goal.invariant-loop-func
invariant-loop-func l = least l.first (twice_all l.scope (func_names (drop l.func-index l.funcs))) ≡ least l.initial.first (twice_all l.initial.scope (func_names l.funcs))
