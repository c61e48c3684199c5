use Rattle.std.proofs.lemmas.Result.{IfOk-weaker}
use Rattle.core_programs.specs.Bodies.{program_of}
use Rattle.chan_machine.specs.Reading.{config_of}
use Rattle.chan_machine.proofs.Limits.{unless_halted}
use Rattle.chan_machine.proofs.steps.step.Goals as goal

pub returns-clause-limits : goal.returns-clause-limits
returns-clause-limits c =
    let program = c.args.program.now in
    IfOk-weaker c.step_at.result _ _
    (λ s is. unless_halted (program_of program) (config_of program c.args.config.now) (config_of program c.step_at.new.config) c.args.name.now s is) c.step_at.ensures.value
