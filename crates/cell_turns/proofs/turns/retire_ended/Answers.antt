use Rattle.std.proofs.Common.{rules, ℕ, ◌≡◌, ◌+◌, ◌*◌, ◌<◌, ◌≤◌, ◌^◌, sym, subst, refl, ap, ◌∙◌, List, [], ◌∷◌, arith, inl, inr, ⊎_elim, Some, None}
use Rattle.cell_rules.specs.Lists.{In}
use Rattle.hand_states.specs.Hands.{Store, Idle, Holds}
use Rattle.hand_states.proofs.Closing as closing
use Rattle.one_shot_word.specs.Seats.{told}
use Rattle.cell_turns.specs.Meanings.{meanings, numbers, named}
use Rattle.cell_turns.specs.Crew.{IsIdle, HasFree, HasSpare, HoldsJob, HoldsFree, HoldsRight}
use Rattle.cell_turns.proofs.Telling.{told_received, told_next, like, retires_one, ends_one}
use Rattle.cell_turns.proofs.turns.retire_ended.Goals as goal

pub retire_ended-requires-clause-holds : goal.retire_ended-requires-clause-holds
retire_ended-requires-clause-holds c = (c.requires.holds.2.0, like (told c.args.cells.now) c.requires.holds.2.0 c.args.job c.ended-job.result c.args.hand.now.seat.me.0 c.ended-job.ensures.0 c.ended-job.ensures.1 c.requires.holds.2.1)

pub returns : goal.returns
returns c =
    let crew = c.requires.holds.0 in
    let s = c.requires.holds.2.0 in
    let holds = like (told c.args.cells.now) s c.args.job c.ended-job.result c.args.hand.now.seat.me.0 c.ended-job.ensures.0 c.ended-job.ensures.1 c.requires.holds.2.1 in
    ends_one c.args.cells.now c.retire_ended.new.hand c.ended-job.result s c.retire_ended.result (c.retire_ended.ensures.at, crew.1, crew.2, c.retire_ended.ensures.parts ∙ crew.3) (c.retire_ended.ensures.ends s holds)
