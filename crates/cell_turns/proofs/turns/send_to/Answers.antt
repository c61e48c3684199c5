use Rattle.std.proofs.Common.{rules, ℕ, ◌≡◌, ◌+◌, ◌*◌, ◌<◌, ◌≤◌, ◌^◌, sym, subst, refl, ap, ◌∙◌, List, [], ◌∷◌, arith, inl, inr, ⊎_elim, Some, None}
use Rattle.cell_rules.specs.Lists.{In}
use Rattle.hand_states.specs.Hands.{Store, Idle, Holds}
use Rattle.hand_states.proofs.Closing as closing
use Rattle.one_shot_word.specs.Seats.{told}
use Rattle.cell_turns.specs.Meanings.{meanings, numbers, named}
use Rattle.cell_turns.specs.Crew.{IsIdle, HasFree, HasSpare, HoldsJob, HoldsFree, HoldsRight}
use Rattle.cell_turns.proofs.Telling.{told_received, told_next}
use Rattle.cell_turns.proofs.turns.send_to.Goals as goal

pub send-requires-clause-number : goal.send-requires-clause-number
send-requires-clause-number c = (c.requires.number.0, ([], c.requires.number.1))

pub send-requires-clause-parcel : goal.send-requires-clause-parcel
send-requires-clause-parcel c = (refl, record { mentions = λ e i. absurd i; program = c.requires.holds.2.1.has.program ∙ ap (λ z. z ∷ []) c.requires.holds.0.1 })

pub returns : goal.returns
returns c =
    let crew = c.requires.holds.0 in
    ((c.send.ensures.at, crew.1, crew.2, c.send.ensures.parts ∙ crew.3), c.requires.holds.1, (c.requires.holds.2.0, c.send.ensures.holds c.requires.holds.2.0 c.requires.holds.2.1))
