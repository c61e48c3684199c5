use Rattle.std.proofs.Common.{refl, inl, [], ◌∷◌}
use Rattle.cell_turns.proofs.turns.receive_own.Goals as goal

pub receive-requires-clause-number : goal.receive-requires-clause-number
receive-requires-clause-number c = let holds = c.requires.holds in (holds.1, holds.2.1.knows.mentions (c.args.job.number.0, []) (inl refl))
