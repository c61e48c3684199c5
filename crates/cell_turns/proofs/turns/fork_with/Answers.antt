use Rattle.std.proofs.Common.{rules, ℕ, ◌≡◌, ◌+◌, ◌*◌, ◌<◌, ◌≤◌, ◌^◌, sym, subst, refl, ap, ◌∙◌, List, [], ◌∷◌, arith, inl, inr, ⊎_elim, Some, None}
use Rattle.cell_rules.specs.Lists.{In}
use Rattle.hand_states.specs.Hands.{Store, Idle, Holds}
use Rattle.hand_states.proofs.Closing as closing
use Rattle.one_shot_word.specs.Seats.{told}
use Rattle.cell_turns.specs.Meanings.{meanings, numbers, named}
use Rattle.cell_turns.specs.Crew.{IsIdle, HasFree, HasSpare, HoldsJob, HoldsFree, HoldsRight}
use Rattle.cell_turns.proofs.Telling.{told_received, told_next}
use Rattle.cell_turns.proofs.turns.fork_with.Goals as goal

pub send_to-requires-clause-number : goal.send_to-requires-clause-number
send_to-requires-clause-number c =
    let child : c.reopen_next-child.result ≡ c.args.cell.next = c.reopen_next-child.ensures.number in
    (search rules, subst (λ z. In (z, []) c.reopen_next-child.new.hand.seat.me.0.names) (sym (ap (λ z. z.0) child)) c.reopen_next-child.ensures.names)
