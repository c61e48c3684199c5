use Rattle.std.proofs.Common.{ℕ, ◌≡◌, sym, subst, ap, ◌∙◌, ◌%◌, ◌<◌}
use Rattle.std.proofs.lemmas.Nat.{mod_below}
use Rattle.cell_rules.specs.Words.{cell}
use Rattle.one_shot_word.proofs.Places.{cell_is}
use Rattle.one_shot_word.proofs.cells.Cells.cell_of.Goals as goal

pub returns : goal.returns
returns g c =
    let n : ℕ = c.args.self.now.cells in
    let m : ℕ = c.args.number in
    let same : n ≡ c.args.self.now.table.shared.key.cells = sym c.args.self.now.sized.2 in (
      cell_is n m ∙ ap (λ z. cell z m) same,
      subst (λ z. m % n < z) same (mod_below m n c.args.self.now.bounded.0),
    )
