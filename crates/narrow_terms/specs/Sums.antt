-- Sums of what terms count, name by name.
use Rattle.std.specs.Prelude.{◌≡◌, ℕ, ◌≤◌, ℤ, pos, ◌+ℤ◌, ◌-ℤ◌, ◌*ℤ◌, unsigned_abs, unwrap_or}
use Rattle.std.specs.Cmp.Lexicographic.{slice_cmp}
use Rattle.std.specs.Ordering.{nat_cmp}
use Rattle.std.specs.BTreeMap.{get}
use Rattle.core_language.specs.Names.{Ident}
use Rattle.core_language.specs.Terms.{Part, Term}
use Rattle.linear_forms.specs.Terms.{times_of, counted}
use Rattle.linear_forms.specs.NormalTerms.{one_named, count_of, bare_of}
use Rattle.narrow_terms.specs.declared.narrowness.Sums.{Sums}

-- a name that isn't there is counted 0 times
unfoldable pub count_in : Sums → Ident → ℤ
count_in sums x = unwrap_or (get (slice_cmp nat_cmp) sums.counts x) (pos 0)

unfoldable pub difference_in : (left right : Sums) → Ident → ℤ
difference_in left right x = count_in left x -ℤ count_in right x

-- one part is added
pub record Adds (part : Part) (old new : Sums) : Type 0 where
  pub counts : (x : Ident) → count_in new x ≡ count_in old x +ℤ (times_of part *ℤ counted (pos 0) (one_named x) part.name)
  pub constant : new.constant ≡ old.constant +ℤ (times_of part *ℤ counted (pos 1) (λ y. pos 0) part.name)

pub record IsSumOf (term : Term) (sums : Sums) : Type 0 where
  pub counts : (x : Ident) → count_in sums x ≡ count_of x term
  pub constant : sums.constant ≡ bare_of term

-- no sum is greater, on both sides of 0
pub record IsWithin (size : ℕ) (sums : Sums) : Type 0 where
  pub counts : (x : Ident) → unsigned_abs (count_in sums x) ≤ size
  pub constant : unsigned_abs sums.constant ≤ size
