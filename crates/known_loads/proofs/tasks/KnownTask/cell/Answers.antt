use Rattle.std.proofs.Common.{inl, refl}
use Rattle.known_loads.proofs.tasks.KnownTask.cell.Goals as goal

pub returns-clause-small : goal.returns-clause-small
returns-clause-small c = c.self.invariant.small (c.self.inside.state.cell.0, c.self.inside.state.task.name) (inl refl)
