use Rattle.std.proofs.Common.{rules, ℕ, ◌≡◌, ◌+◌, ◌*◌, ◌<◌, ◌≤◌, ◌^◌, sym, subst, refl, ap, ◌∙◌, List, [], ◌∷◌, arith, inl, inr, ⊎_elim, Some, None}
use Rattle.cell_rules.specs.Lists.{In}
use Rattle.hand_states.specs.Hands.{Store, Idle, Holds}
use Rattle.hand_states.proofs.Closing as closing
use Rattle.one_shot_word.specs.Seats.{told}
use Rattle.cell_turns.specs.Meanings.{meanings, numbers, named}
use Rattle.cell_turns.specs.Crew.{IsIdle, HasFree, HasSpare, HoldsJob, HoldsFree, HoldsRight}
use Rattle.cell_turns.proofs.Telling.{told_received, told_next, like, retires_one, ends_one}
use Rattle.cell_turns.proofs.turns.retire_received.Goals as goal

pub returns : goal.returns
returns c =
    let crew = c.requires.right.0 in
    retires_one c.args.cells.now c.retire_received.new.hand c.args.job.now c.requires.right.2.0 c.args.number.0 c.retire_received.result
    (c.retire_received.ensures.at, crew.1, crew.2, c.retire_received.ensures.parts ∙ crew.3) c.requires.right.1 (c.retire_received.ensures.retires c.requires.right.2.0 c.requires.right.2.1)
