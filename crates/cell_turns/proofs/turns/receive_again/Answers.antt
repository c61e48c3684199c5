use Rattle.std.proofs.Common.{ℕ, ◌≡◌, ◌≤◌, ◌^◌, ap, subst, inl, [], ◌∷◌}
use Rattle.cell_turns.proofs.turns.receive_again.Goals as goal

pub recv-requires-clause-number : goal.recv-requires-clause-number
recv-requires-clause-number c =
    let own : c.args.job.number.0 ≡ c.args.number.0 = c.requires.own in
    (subst (λ z. z ≤ 2 ^ 60) own c.requires.right.1, ([], c.requires.right.2.1.knows.mentions (c.args.number.0, []) (inl (λ q. (Rattle.std.proofs.Common.sym own q, [])))))

pub recv-requires-clause-holds : goal.recv-requires-clause-holds
recv-requires-clause-holds c = (record c.requires.right.2.0 { rights = c.args.number.0 ∷ c.requires.right.2.0.rights }, c.requires.right.2.1)
