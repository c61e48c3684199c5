use Rattle.std.proofs.Common.{rules, ℕ, ◌≡◌, ◌+◌, ◌*◌, ◌<◌, ◌≤◌, ◌^◌, sym, subst, refl, ap, ◌∙◌, List, [], ◌∷◌, arith, inl, inr, ⊎_elim, Some, None}
use Rattle.cell_rules.specs.Lists.{In}
use Rattle.hand_states.specs.Hands.{Store, Idle, Holds}
use Rattle.hand_states.proofs.Closing as closing
use Rattle.one_shot_word.specs.Seats.{told}
use Rattle.cell_turns.specs.Meanings.{meanings, numbers, named}
use Rattle.cell_turns.specs.Crew.{IsIdle, HasFree, HasSpare, HoldsJob, HoldsFree, HoldsRight}
use Rattle.cell_turns.proofs.Telling.{told_received, told_next}
use Rattle.cell_turns.proofs.turns.reopen_next.Goals as goal

pub reopen-requires-clause-load : goal.reopen-requires-clause-load
reopen-requires-clause-load c =
    let crew = c.requires.free.0 in (
      ap (λ z. z.0) (c.first-child.ensures.0 ∙ c.next.ensures),
      record {
        mentions = λ e i. ⊎_elim (λ q. inl q) (λ t. absurd (subst (λ z. In e (named z)) c.first-child.ensures.1 t)) i;
        forked = refl;
        sent = refl;
        received = ap numbers c.first-child.ensures.1;
        program = c.requires.free.3.1.has.program ∙ ap (λ z. z ∷ []) crew.1;
      },
    )

pub returns-clause-holds : goal.returns-clause-holds
returns-clause-holds c =
    let crew = c.requires.free.0 in
    ((c.reopen.ensures.at, crew.1, crew.2, c.reopen.ensures.parts ∙ crew.3), c.requires.free.1, (c.requires.free.3.0, c.reopen.ensures.reopens c.requires.free.3.0 c.requires.free.3.1))
