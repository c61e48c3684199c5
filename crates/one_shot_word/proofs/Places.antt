-- The cell of a number is its rest.
use Rattle.std.proofs.Common.{◌≡◌, ℕ, ◌%◌, refl}
use Rattle.cell_rules.specs.Words.{cell}

pub cell_is : (n m : ℕ) → m % n ≡ cell n m
unfolding cell
cell_is n m = refl
