use Rattle.std.proofs.Common.{refl, inl, [], ◌∷◌}
use Rattle.cell_turns.proofs.turns.send_own.Goals as goal

pub send_to-requires-clause-number : goal.send_to-requires-clause-number
send_to-requires-clause-number c = (c.requires.1, c.requires.2.1.knows.mentions (c.args.job.now.number.0, []) (inl refl))
