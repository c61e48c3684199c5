-- What a divisor counts, in two parts, it counts in one.
use Rattle.std.proofs.Common.{◌≡◌, ℤ, pos, negsuc, neg_ℤ, ◌+ℤ◌, ◌*ℤ◌, Bool, true, false, if◌then◌else◌, [], ◌∷◌, Ok, Err, is_some, unwrap_or, ap, subst, arith}
use Rattle.std.specs.List.{list_all}
use Rattle.std.proofs.lemmas.Int.{ints}
use Rattle.farkas_check.proofs.Products.{distribute_right}
use Rattle.core_language.specs.Names.{Ident}
use Rattle.core_language.specs.Terms.{Term}
use Rattle.linear_forms.specs.Terms.{times_of}
use Rattle.linear_forms.specs.Normal.{names_of}
use Rattle.outline_language.specs.LinearForms.{LinearForm, add_times, constant_form, minus, of_name, form_of_term, form_fits, form_at}
use Rattle.outline_language.specs.Canonical.{IsCanonical}
use Rattle.outline_language.specs.Contexts.{WrongForm, TooLarge, Context, provided, integer_named, formed, meaning}
use Rattle.outline_language.proofs.OneForm.{one_form}
use Rattle.outline_language.proofs.Sums.{sums_canonical}
use Rattle.outline_language.proofs.Values.{add_times-at, constant-at, minus-at}

-- a form so many times, in two parts
pub in_parts : (h o d : ℤ) (f g : LinearForm) → h +ℤ o ≡ d → IsCanonical g → add_times o f (add_times h f g) ≡ add_times d f g
in_parts h o d f g is canonical =
    one_form _ _ (sums_canonical o f (add_times h f g) (sums_canonical h f g canonical)) (sums_canonical d f g canonical) (λ at.
    omega (arith, ints, add_times-at at o f (add_times h f g), add_times-at at h f g, add_times-at at d f g, distribute_right h o (form_at at f), ap (λ z. z *ℤ form_at at f) is))

-- a form, less a number of units
pub units_less : (k d : ℤ) (f : LinearForm) → k ≡ neg_ℤ d → IsCanonical f
    → add_times k (constant_form (pos 1)) (add_times (pos 1) f (constant_form (pos 0))) ≡ minus f (constant_form d)
units_less k d f is canonical =
    one_form _ _ (sums_canonical k (constant_form (pos 1)) (add_times (pos 1) f (constant_form (pos 0))) (sums_canonical (pos 1) f (constant_form (pos 0)) tt))
    (sums_canonical (negsuc 0) (constant_form d) f canonical) (λ at.
    omega (
      arith,
      ints,
      is,
      add_times-at at k (constant_form (pos 1)) (add_times (pos 1) f (constant_form (pos 0))),
      add_times-at at (pos 1) f (constant_form (pos 0)),
      constant-at at (pos 1),
      constant-at at (pos 0),
      minus-at at f (constant_form d),
      constant-at at d,
      ap (λ z. k *ℤ z) (constant-at at (pos 1)),
    ))

pub one_canonical : (weight : ℤ) (f : LinearForm) → IsCanonical (add_times weight f (constant_form (pos 0)))
one_canonical weight f = sums_canonical weight f (constant_form (pos 0)) tt

pub minus_canonical : (f g : LinearForm) → IsCanonical f → IsCanonical (minus f g)
minus_canonical f g canonical = sums_canonical (negsuc 0) g f canonical

-- a meaning is canonical
term_canonical : (stands_for : Ident → LinearForm) (t : Term) → IsCanonical (form_of_term stands_for t)
term_canonical stands_for [] = tt
term_canonical stands_for (p ∷ ps) = sums_canonical (times_of p) (of_name stands_for p.name) (form_of_term stands_for ps) (term_canonical stands_for ps)

abbrev stands_in : Context → Ident → LinearForm
stands_in ctx x = unwrap_or (integer_named ctx x) (constant_form (pos 0))

-- the integer that a term means is canonical
pub meaning_canonical : (ctx : Context) (t : Term) (f : LinearForm) → meaning ctx t ≡ Ok f → IsCanonical f
meaning_canonical ctx t f is = by (list_all (λ x. is_some (integer_named ctx x)) (names_of t)) is
  where
    fits : (b : Bool) → provided b TooLarge (form_of_term (stands_in ctx) t) ≡ Ok f → IsCanonical f
    fits true e = let same : form_of_term (stands_in ctx) t ≡ f = cc in subst IsCanonical same (term_canonical (stands_in ctx) t)
    fits false e = absurd cc

    by : (b : Bool) → (if b then formed (form_of_term (stands_in ctx) t) else Err WrongForm) ≡ Ok f → IsCanonical f
    by true e = fits (form_fits (form_of_term (stands_in ctx) t)) e
    by false e = absurd cc
