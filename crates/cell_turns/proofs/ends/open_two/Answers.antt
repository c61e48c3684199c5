use Rattle.std.proofs.Common.{rules, ℕ, ◌≡◌, ◌+◌, ◌<◌, ◌≤◌, ◌++◌, ◌∷◌, [], ◌∙◌, sym, subst, ap, arith, List, All}
use Rattle.one_shot_word.specs.declared.hand.Hand.{Hand}
use Rattle.one_shot_word.specs.Seats.{size}
use Rattle.one_shot_word.specs.Hands.{IsFirst}
use Rattle.one_shot_word.specs.Seats.{told}
use Rattle.cell_turns.specs.declared.job.Job.{Job}
use Rattle.cell_turns.specs.declared.job.Note.{Note}
use Rattle.cell_turns.proofs.Telling.{all_last, all_front, first_idle}
use Rattle.cell_turns.proofs.ends.open_two.Goals as goal

pub returns-clause-idle : goal.returns-clause-idle
returns-clause-idle c =
    let cells = c.in-Ok.field-0.cells in
    let facts = c.in-Ok.ensures.cells in
    let is : told cells ≡ (7, 50) = facts.2 in
    let small : size cells ≤ 1048576 = omega (arith, facts.0, c.requires.1) in
    let all : All (IsFirst cells) (c.pop.new.self ++ c.in_ok-first.first ∷ []) = subst (λ (z : List (Hand Job Note ℕ)). All (IsFirst cells) z) c.in_ok-first.ensures c.in-Ok.ensures.hands.1 in
    let front : All (IsFirst cells) (c.pop-2.new.self ++ c.in_ok-second.second ∷ []) = subst (λ (z : List (Hand Job Note ℕ)). All (IsFirst cells) z) c.in_ok-second.ensures (all_front (IsFirst cells) c.pop.new.self c.in_ok-first.first all) in
    (first_idle cells c.in_ok-first.first (all_last (IsFirst cells) c.pop.new.self c.in_ok-first.first all) is small, first_idle cells c.in_ok-second.second (all_last (IsFirst cells) c.pop-2.new.self c.in_ok-second.second front) is small)
