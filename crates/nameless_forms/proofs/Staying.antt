-- Canonical forms in which instances change nothing.
use Rattle.std.proofs.Common.{◌≡◌, ℕ, suc, ◌-◌, ◌≤◌, ◌<◌, max, ℤ, ◌+ℤ◌, ◌*ℤ◌, Bool, true, false, if◌then◌else◌, nat_lt, List, [], ◌∷◌, drop, length, get_or, refl, sym, ap, ◌∙◌, arith}
use Rattle.std.proofs.lemmas.Int.{ints}
use Rattle.std.proofs.lemmas.Bool.Decides.{nat_tests}
use Rattle.std.proofs.Math.Seq.{drop-cons}
use Rattle.std.specs.Prelude.{slice_get, unwrap_or}
use Rattle.outline_language.specs.LinearForms.{Var, Free, Inside, Multiple, LinearForm, form_at, multiples_at, variable_form}
use Rattle.outline_language.specs.Canonical.{IsCanonical}
use Rattle.outline_language.specs.Nameless.{instance_for, form_with}
use Rattle.outline_language.proofs.OneForm.{one_form}
use Rattle.outline_language.proofs.Values.{variable-at, put-at}
use Rattle.nameless_forms.specs.Reaching.{var_reach, multiples_reach}
use Rattle.outline_language.proofs.Sums.{put_canonical}

variable_stays : (instances : List LinearForm) (depth : ℕ) (v : Var) → var_reach v ≤ depth → instance_for instances depth v ≡ variable_form v
variable_stays instances depth (Free i) within = refl
variable_stays instances depth (Inside i) within = pick (nat_lt i depth) refl
  where
    pick : (b : Bool) → nat_lt i depth ≡ b
        → (if b then variable_form (Inside i) else unwrap_or (slice_get instances (i - depth)) (variable_form (Inside i))) ≡ variable_form (Inside i)
    pick true e = refl
    pick false e = absurd (grind (arith, nat_tests))

values_stay : (at : Var → ℤ) (instances : List LinearForm) (depth : ℕ) (ms : List Multiple) → multiples_reach ms ≤ depth
    → multiples_at (λ v. form_at at (instance_for instances depth v)) ms ≡ multiples_at at ms
values_stay at instances depth [] within = refl
values_stay at instances depth (m ∷ ms) within =
    let here : form_at at (instance_for instances depth m.0) ≡ at m.0 = ap (form_at at) (variable_stays instances depth m.0 (omega (arith, within))) ∙ variable-at at m.0 in
    omega (arith, ints, ap (λ z. m.1 *ℤ z) here, values_stay at instances depth ms (omega (arith, within)))

pub form_stays : (instances : List LinearForm) (depth : ℕ) (f : LinearForm) → IsCanonical f → multiples_reach f.multiples ≤ depth → form_with instances depth f ≡ f
form_stays instances depth f canonical within =
    one_form (form_with instances depth f) f (put_canonical (instance_for instances depth) f.constant f.multiples) canonical
    (λ at. put-at at (instance_for instances depth) f ∙ ap (λ z. z +ℤ f.constant) (values_stay at instances depth f.multiples within))

-- one multiple more, from the last one on
pub reach_earlier : (ms : List Multiple) (k : ℕ) (m : Multiple) → 0 < k → k ≤ length ms → m ≡ get_or ms (k - 1) m
    → multiples_reach (drop (k - 1) ms) ≡ max (var_reach m.0) (multiples_reach (drop k ms))
reach_earlier ms k m some within is =
    let back : suc (k - 1) ≡ k = omega (arith, some) in
    ap multiples_reach (drop-cons ms (k - 1) m (omega (arith, some, within)) ∙ ap (λ n. n ∷ drop (suc (k - 1)) ms) (sym is) ∙ ap (λ j. m ∷ drop j ms) back)
