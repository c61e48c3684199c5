use Rattle.std.proofs.Common.{rules, ℕ, ◌≡◌, ◌+◌, ◌*◌, ◌<◌, ◌≤◌, ◌^◌, sym, subst, refl, ap, ◌∙◌, List, [], ◌∷◌, arith, inl, inr, ⊎_elim, Some, None}
use Rattle.cell_rules.specs.Lists.{In}
use Rattle.hand_states.specs.Hands.{Store, Idle, Holds}
use Rattle.hand_states.proofs.Closing as closing
use Rattle.one_shot_word.specs.Seats.{told}
use Rattle.cell_turns.specs.Meanings.{meanings, numbers, named}
use Rattle.cell_turns.specs.Crew.{IsIdle, HasFree, HasSpare, HoldsJob, HoldsFree, HoldsRight}
use Rattle.cell_turns.proofs.Telling.{told_received, told_next}
use Rattle.cell_turns.proofs.crew.take_one.Goals as goal

pub take-requires-clause-forked : goal.take-requires-clause-forked
take-requires-clause-forked c = λ load m i. absurd i

pub take-requires-clause-received : goal.take-requires-clause-received
take-requires-clause-received c = λ load m i. told_received load.number.0 load.got m i

pub returns-in-Ok-clause-ok : goal.returns-in-Ok-clause-ok
returns-in-Ok-clause-ok c =
    let crew = c.requires.idle.0 in
    let ok = c.in-Ok.ensures.ok in
    ((c.in-Ok.ensures.at, crew.1, crew.2, c.in-Ok.ensures.parts ∙ crew.3), subst (λ z. z ≤ 2 ^ 60) (sym ok.0) c.requires.small, (c.requires.idle.1.0, ok.1 c.requires.idle.1.0 c.requires.idle.1.1))

pub returns-in-Err-clause-err : goal.returns-in-Err-clause-err
returns-in-Err-clause-err c =
    let crew = c.requires.idle.0 in
    ((c.in-Err.ensures.at, crew.1, crew.2, c.in-Err.ensures.parts ∙ crew.3), (c.requires.idle.1.0, c.in-Err.ensures.err c.requires.idle.1.0 c.requires.idle.1.1))
