use Rattle.std.proofs.Common.{◌≡◌, drop}
use Rattle.form_faults.specs.Faults.{least}
use Rattle.core_programs.specs.Passes.{funcs_faults}
use Rattle.core_programs.proofs.bodies.check_funcs.Given as goal

abbrev pub invariant-loop-func : goal.invariant-loop-func
invariant-loop-func l = least l.first (funcs_faults l.protos l.funcs l.parts.nodes (drop l.func-index l.parts.funcs)) ≡ least l.initial.first (funcs_faults l.protos l.funcs l.parts.nodes l.parts.funcs)
