use Rattle.std.proofs.Common.{sym, ap, ◌∙◌}
use Rattle.core_programs.specs.Bodies.{program_of}
use Rattle.outline_language.specs.Outlined.{faults_of_program}
use Rattle.outline_language.proofs.Bodies.{functions_of_none}
use Rattle.outline_language.proofs.FirstFaults.{least_is_none}
use Rattle.outline_walk.specs.Refusals.{found}
use Rattle.outline_check.proofs.checking.check.Goals as goal

pub of-requires : goal.of-requires
of-requires c =
    let P = program_of c.args.program in
    functions_of_none P P.funcs (least_is_none (faults_of_program P) (sym c.in_ok-first.ensures.first ∙ ap found c.in-None.is))
