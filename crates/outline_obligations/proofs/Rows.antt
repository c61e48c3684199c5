-- Rows of forms are as wide as there are integer variables.
use Rattle.std.proofs.Common.{◌≡◌, ℕ, ◌≤◌, ℤ, pos, ◌+ℤ◌, Bool, true, false, sym, ap, subst, Result, Ok, Err, arith}
use Rattle.std.proofs.lemmas.Int.{ints}
use Rattle.std.proofs.lemmas.List.FromFn.{length-map-range_with_len}
use Rattle.linear_forms.specs.Terms.{unit_at}
use Rattle.linear_forms.specs.Normal.{row_fits}
use Rattle.farkas_check.specs.declared.cert.Row.{Row}
use Rattle.farkas_check.specs.Rows.{IsNarrow}
use Rattle.outline_language.specs.LinearForms.{LinearForm, constant_form, minus, free_values, multiples_at, row_of}
use Rattle.outline_language.specs.Contexts.{Why, TooLarge, provided, row_formed}

abbrev or_other : {A E : Type 0} → Result A E → A → A
or_other (Ok a) other = a
or_other (Err e) other = other

pub same_ok : {A E : Type 0} (a b : A) → ◌≡◌ {A = Result A E} (Ok a) (Ok b) → a ≡ b
same_ok a b is = ap (λ r. or_other r a) is

-- the answer of a test that holds
pub provided_is : {A : Type 0} (test : Bool) (why : Why) (a b : A) → provided test why a ≡ Ok b → a ≡ b
provided_is true why a b is = same_ok a b is
provided_is false why a b is = absurd cc

pub formed_narrow : (variables : ℕ) (f : LinearForm) (row : Row) → row_formed variables f ≡ Ok row → variables ≤ 256 → IsNarrow row
formed_narrow variables f row is few =
    subst IsNarrow (provided_is (row_fits (row_of variables f)) TooLarge (row_of variables f) row is)
    (subst (λ n. n ≤ 256) (sym (length-map-range_with_len (λ i. multiples_at (free_values (unit_at i)) f.multiples) 0 variables)) few)

-- a form less nothing
pub less_zero : (f : LinearForm) → minus f (constant_form (pos 0)) ≡ f
less_zero f =
    let none : pos 0 +ℤ f.constant ≡ f.constant = omega (arith, ints) in
    ap (λ (z : ℤ). record { multiples = f.multiples; constant = z }) none
