use Rattle.std.proofs.Common.{refl, ◌∙◌}
use Rattle.chan_machine.specs.Reading.{config_of}
use Rattle.chan_machine.proofs.Listed.{unended_is}
use Rattle.chan_machine.proofs.endings.unended.Goals as goal

pub returns : goal.returns
returns c = c.in_ok-names.ensures ∙ unended_is c.args.program.now c.args.config.now.tasks (config_of c.args.program.now c.args.config.now) refl
