use Rattle.std.proofs.Common.{◌≡◌, flat_map, map, drop}
use Rattle.core_programs.specs.Bodies.{function_of}
use Rattle.outline_language.specs.Outlined.{least, faults_of_function, first_fault}
use Rattle.outline_walk.specs.Refusals.{found, IsPlaced}
use Rattle.call_rules.specs.Reading.{program_in}
use Rattle.outline_check.proofs.checking.walk_functions.Given as goal

abbrev pub invariant-loop-func : goal.invariant-loop-func
invariant-loop-func l = record {
  first :
      least (found l.first) (flat_map (faults_of_function (program_in l.tables)) (map (function_of l.tables.program.now.nodes) (drop l.func-index l.funcs)))
      ≡ first_fault (program_in l.tables);
  placed : IsPlaced l.tables.program.now.nodes l.first;
}
