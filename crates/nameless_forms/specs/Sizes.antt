-- How large the numbers of a sum are.
use Rattle.std.specs.Prelude.{ℕ, ◌≤◌, unsigned_abs, List}
use Rattle.std.specs.List.{AllByRecursion}
use Rattle.outline_language.specs.LinearForms.{Multiple, LinearForm}

-- each number is of at most this size
abbrev pub AreWithin : ℕ → List Multiple → Type 0
AreWithin size ms = AllByRecursion (λ m. unsigned_abs m.1 ≤ size) ms

pub record IsWithin (size : ℕ) (f : LinearForm) : Type 0 where
  pub multiples : AreWithin size f.multiples
  pub constant : unsigned_abs f.constant ≤ size
