use Rattle.std.proofs.Common.{◌≡◌, ◌++◌, drop}
use Rattle.core_programs.specs.Passes.{func_signatures}
use Rattle.core_programs.proofs.tables.func_table.Given as goal

abbrev pub invariant-loop-func : goal.invariant-loop-func
invariant-loop-func l = l.table ++ func_signatures (drop l.func-index l.funcs) ≡ func_signatures l.funcs
