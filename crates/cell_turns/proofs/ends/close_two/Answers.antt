use Rattle.std.proofs.Common.{rules, ℕ, ◌≡◌, ◌+◌, ◌∙◌, sym, subst, ap, arith, List, [], ◌∷◌, All}
use Rattle.cell_rules.specs.Lists.{total}
use Rattle.one_shot_word.specs.declared.hand.Hand.{Hand}
use Rattle.one_shot_word.specs.Hands.{IsDone}
use Rattle.cell_turns.specs.declared.job.Job.{Job}
use Rattle.cell_turns.specs.declared.job.Note.{Note}
use Rattle.cell_turns.proofs.Telling.{all_two}
use Rattle.cell_turns.proofs.ends.close_two.Goals as goal

pub close-requires-clause-hands : goal.close-requires-clause-hands
close-requires-clause-hands c =
    let a = c.requires.idle.0 in
    let b = c.requires.idle.1 in
    let both : c.push-2.new.self ≡ c.args.first ∷ c.args.second ∷ [] = search rules in
    subst (λ (z : List (Hand Job Note ℕ)). All (IsDone c.args.cells) z) (sym both)
    (all_two (IsDone c.args.cells) c.args.first c.args.second (a.0.0, λ q m lt. a.1.1.nothing q m lt) (b.0.0, λ q m lt. b.1.1.nothing q m lt))

pub close-requires-clause-all : goal.close-requires-clause-all
close-requires-clause-all c =
    let both : c.push-2.new.self ≡ c.args.first ∷ c.args.second ∷ [] = search rules in
    subst (λ (z : List (Hand Job Note ℕ)). total (λ h. h.seat.me.0.parts) z ≡ c.args.cells.table.shared.key.hands) (sym both) (omega (arith, c.requires.idle.0.0.3, c.requires.idle.1.0.3, c.requires.two))
