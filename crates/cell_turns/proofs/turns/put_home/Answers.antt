use Rattle.std.proofs.Common.{rules, ℕ, ◌≡◌, ◌+◌, ◌*◌, ◌<◌, ◌≤◌, ◌^◌, sym, subst, refl, ap, ◌∙◌, List, [], ◌∷◌, arith, inl, inr, ⊎_elim, Some, None}
use Rattle.cell_rules.specs.Lists.{In}
use Rattle.hand_states.specs.Hands.{Store, Idle, Holds}
use Rattle.hand_states.proofs.Closing as closing
use Rattle.one_shot_word.specs.Seats.{told}
use Rattle.cell_turns.specs.Meanings.{meanings, numbers, named}
use Rattle.cell_turns.specs.Crew.{IsIdle, HasFree, HasSpare, HoldsJob, HoldsFree, HoldsRight}
use Rattle.cell_turns.proofs.Telling.{told_received, told_next}
use Rattle.cell_turns.proofs.turns.put_home.Goals as goal

pub returns : goal.returns
returns c = let crew = c.requires.0 in ((c.home.ensures.at, crew.1, crew.2, c.home.ensures.parts ∙ crew.3), (c.requires.2.0, c.home.ensures.home c.requires.2.0 c.requires.2.1))
