use Rattle.std.proofs.Common.{rules, ◌≡◌, sym, subst, ap, [], ◌∷◌}
use Rattle.cell_rules.specs.Lists.{In}
use Rattle.cells_bench.proofs.messages.message.Goals as goal

pub send_to-requires-clause-number : goal.send_to-requires-clause-number
send_to-requires-clause-number g c =
    (search rules, subst (λ z. In (z, []) c.reopen_next-child.new.hand.seat.me.0.names) (sym (ap (λ z. z.0) c.reopen_next-child.ensures.number)) c.reopen_next-child.ensures.names)
