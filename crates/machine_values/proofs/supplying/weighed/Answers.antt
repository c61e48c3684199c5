use Rattle.std.proofs.Common.{ap, ◌∙◌}
use Rattle.machine_values.specs.Troubles.{done_of}
use Rattle.machine_values.proofs.Weighing.{weighs_done}
use Rattle.machine_values.proofs.supplying.weighed.Goals as goal

pub returns : goal.returns
returns c = c.forget.ensures ∙ ap done_of c.weigh.ensures ∙ weighs_done _
