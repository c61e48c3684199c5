-- Sums that have one value everywhere.
use Rattle.std.proofs.Common.{◌≡◌, ℤ, pos, ◌*ℤ◌, ap, arith}
use Rattle.std.proofs.lemmas.Int.{ints}
use Rattle.farkas_check.proofs.Products.{distribute, times_times}
use Rattle.outline_language.specs.LinearForms.{Var, LinearForm, form_at, add_times, constant_form}
use Rattle.outline_language.specs.Canonical.{IsCanonical}
use Rattle.outline_language.proofs.OneForm.{one_form}
use Rattle.outline_language.proofs.Sums.{sums_canonical}
use Rattle.outline_language.proofs.Values.{add_times-at, constant-at}

-- a canonical form, added once to nothing, is itself
pub once : (f : LinearForm) → IsCanonical f → add_times (pos 1) f (constant_form (pos 0)) ≡ f
once f canonical = one_form (add_times (pos 1) f (constant_form (pos 0))) f (sums_canonical (pos 1) f (constant_form (pos 0)) tt) canonical same
  where
    same : (at : Var → ℤ) → form_at at (add_times (pos 1) f (constant_form (pos 0))) ≡ form_at at f
    same at = omega (arith, ints, add_times-at at (pos 1) f (constant_form (pos 0)), constant-at at (pos 0))

-- a sum that is added some times is its parts, added so many times
pub spread : (w t : ℤ) (f g h : LinearForm) → IsCanonical h → add_times (w *ℤ t) f (add_times w g h) ≡ add_times w (add_times t f g) h
spread w t f g h canonical =
    one_form (add_times (w *ℤ t) f (add_times w g h)) (add_times w (add_times t f g) h) (sums_canonical (w *ℤ t) f (add_times w g h) (sums_canonical w g h canonical)) (sums_canonical w (add_times t f g) h canonical) same
  where
    same : (at : Var → ℤ) → form_at at (add_times (w *ℤ t) f (add_times w g h)) ≡ form_at at (add_times w (add_times t f g) h)
    same at =
        let left = add_times-at at (w *ℤ t) f (add_times w g h) in
        let left_rest = add_times-at at w g h in
        let right = add_times-at at w (add_times t f g) h in
        let right_part = ap (λ z. w *ℤ z) (add_times-at at t f g) in
        let apart = distribute w (t *ℤ form_at at f) (form_at at g) in
        let joined = times_times w t (form_at at f) in
        omega (arith, ints, left, left_rest, right, right_part, apart, joined)
