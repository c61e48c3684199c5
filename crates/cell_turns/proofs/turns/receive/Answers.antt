use Rattle.std.proofs.Common.{rules, ℕ, ◌≡◌, ◌+◌, ◌*◌, ◌<◌, ◌≤◌, ◌^◌, sym, subst, refl, ap, ◌∙◌, List, [], ◌∷◌, arith, inl, inr, ⊎_elim, Some, None}
use Rattle.cell_rules.specs.Lists.{In}
use Rattle.hand_states.specs.Hands.{Store, Idle, Holds}
use Rattle.hand_states.proofs.Closing as closing
use Rattle.one_shot_word.specs.Seats.{told}
use Rattle.cell_turns.specs.Meanings.{meanings, numbers, named}
use Rattle.cell_turns.specs.Crew.{IsIdle, HasFree, HasSpare, HoldsJob, HoldsFree, HoldsRight}
use Rattle.cell_turns.proofs.Telling.{told_received, told_next}
use Rattle.cell_turns.proofs.turns.receive.Goals as goal

pub returns-in-Value-clause-replies : goal.returns-in-Value-clause-replies
returns-in-Value-clause-replies c =
    let crew = c.requires.holds.0 in
    let s = c.requires.holds.2.0 in
    let got = c.in-Value.ensures.receives s c.requires.holds.2.1 in
    let is = got.1 in
    let back = got.0 in
    let next = c.told.result in
    let knows = is.owes.knows in
    let number = c.told.ensures.0 ∙ ap (λ z. z.number) back in (
      ap (λ z. z.0) number,
      (
        (c.in-Value.ensures.at, crew.1, crew.2, c.in-Value.ensures.parts ∙ crew.3),
        subst (λ z. z.0 ≤ 2 ^ 60) (sym (c.told.ensures.0 ∙ ap (λ z. z.number) back)) c.requires.holds.1,
        (s, told_next (told c.args.cells.now) (record s { rights = c.args.number.0 ∷ s.rights }) c.args.job next c.args.number c.recv.new.hand.seat.me.0 is.owes (c.told.ensures.0 ∙ ap (λ z. z.number) back) c.requires.new c.told.ensures.1 (c.in-Value.ensures.more (c.args.number.0, []) c.requires.number.1) crew.1),
      ),
    )

pub returns-in-Parked-clause-replies : goal.returns-in-Parked-clause-replies
returns-in-Parked-clause-replies c =
    let crew = c.requires.holds.0 in
    ((c.in-Parked.ensures.at, crew.1, crew.2, c.in-Parked.ensures.parts ∙ crew.3), (c.requires.holds.2.0, c.in-Parked.ensures.receives c.requires.holds.2.0 c.requires.holds.2.1))

pub returns-in-Misused-clause-replies : goal.returns-in-Misused-clause-replies
returns-in-Misused-clause-replies c =
    let crew = c.requires.holds.0 in
    let s = c.requires.holds.2.0 in
    let got = c.in-Misused.ensures.receives s c.requires.holds.2.1 in
    let back = got.0 in
    ((c.in-Misused.ensures.at, crew.1, crew.2, c.in-Misused.ensures.parts ∙ crew.3), subst (λ z. z.number.0 ≤ 2 ^ 60) (sym back) c.requires.holds.1, (s, subst (λ z. Holds meanings (told c.args.cells.now) s z c.recv.new.hand.seat.me.0) (sym back) got.1))
