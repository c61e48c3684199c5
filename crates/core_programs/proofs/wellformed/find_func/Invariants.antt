use Rattle.std.proofs.Common.{◌≡◌, drop}
use Rattle.core_programs.specs.Bodies.{func_named}
use Rattle.core_programs.proofs.wellformed.find_func.Given as goal

abbrev pub invariant-funcs : goal.invariant-funcs
invariant-funcs l = func_named l.name (drop l.func-index l.fn.funcs) ≡ func_named l.name l.fn.funcs
