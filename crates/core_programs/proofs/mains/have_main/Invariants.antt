use Rattle.std.proofs.Common.{◌≡◌, drop}
use Rattle.std.specs.List.{list_any}
use Rattle.core_programs.specs.Passes.{is_main}
use Rattle.core_programs.proofs.mains.have_main.Given as goal

abbrev pub invariant-loop-func : goal.invariant-loop-func
invariant-loop-func l = list_any is_main (drop l.func-index l.funcs) ≡ list_any is_main l.funcs
