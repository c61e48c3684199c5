-- Shapes and resources of parts in which instances change nothing.
use Rattle.std.proofs.Common.{◌≡◌, ℕ, suc, ◌+◌, ◌-◌, ◌≤◌, ◌<◌, ◌^◌, max, Bool, true, false, ◌||◌, List, [], ◌∷◌, map, refl, ap, arith}
use Rattle.std.specs.List.{list_all}
use Rattle.outline_language.specs.LinearForms.{LinearForm, form_fits}
use Rattle.outline_language.specs.Nameless as nameless
use Rattle.outline_language.specs.Nameless.{Limit, Shape, Res, Resources, Ref, Binds}
use Rattle.nameless_shapes.specs.Closed.{IsClosedForm, IsClosedShape, IsClosedRes, AreFormsKept, AreLimitsKept, IsShapeKept, IsResKept, AreKept}

-- ---- forms and limits

pub no_form : AreFormsKept 0 []
no_form = record { closed = λ instances depth within. refl; fits = refl }

pub one_form_more : (reach m n : ℕ) (f : LinearForm) (fs : List LinearForm) → m ≤ reach → n ≤ reach → IsClosedForm m f → form_fits f ≡ true → AreFormsKept n fs
    → AreFormsKept reach (f ∷ fs)
one_form_more reach m n f fs less rest_less closed fits kept = record {
  closed = λ instances depth within. rw (closed instances depth (omega (arith, less, within)), kept.closed instances depth (omega (arith, rest_less, within))) refl;
  fits = rw (fits, kept.fits) refl;
}

pub no_limit : AreLimitsKept 0 []
no_limit = record { closed = λ instances depth within. refl; fits = refl }

pub one_limit_more : (reach k m n : ℕ) (l : Limit) (ls : List Limit) → k ≤ reach → m ≤ reach → n ≤ reach → IsClosedForm k l.left → form_fits l.left ≡ true → IsClosedForm m l.right → form_fits l.right ≡ true
    → AreLimitsKept n ls → AreLimitsKept reach (l ∷ ls)
one_limit_more reach k m n l ls less right_less rest_less closed fits right_closed right_fits kept = record {
  closed = λ instances depth within. rw (closed instances depth (omega (arith, less, within)), right_closed instances depth (omega (arith, right_less, within)), kept.closed instances depth (omega (arith, rest_less, within))) refl;
  fits = rw (fits, right_fits, kept.fits) refl;
}

-- ---- shapes

pub unit_kept : IsShapeKept false 0 nameless.Unit
unit_kept = record { has_end = refl; closed = λ instances depth within. refl; fits = refl }

pub int_kept : (m : ℕ) (f : LinearForm) → IsClosedForm m f → form_fits f ≡ true → IsShapeKept false m (nameless.Int f)
int_kept m f closed fits = record {
  has_end = refl;
  closed = λ instances depth within. ap nameless.Int (closed instances depth within);
  fits = fits;
}

pub end_kept : (m : ℕ) (ref : Ref) → AreFormsKept m ref.args → IsShapeKept true m (nameless.End ref)
end_kept m ref kept = record {
  has_end = refl;
  closed = λ instances depth within. ap (λ (args : List LinearForm). nameless.End (record { dual = ref.dual; name = ref.name; args = args })) (kept.closed instances depth within);
  fits = kept.fits;
}

pub pair_kept : (a b : Bool) (m n : ℕ) (r s : Res) → a ≡ nameless.has_end_inside r → b ≡ nameless.has_end_inside s
    → IsClosedRes m r → IsClosedRes n s → nameless.res_fits r ≡ true → nameless.res_fits s ≡ true → IsShapeKept (a || b) (max m n) (nameless.Pair r s)
pair_kept a b m n r s end other_end closed other_closed fits other_fits = record {
  has_end = rw (end, other_end) refl;
  closed = λ instances depth within. rw (closed instances depth (omega (arith, within)), other_closed instances depth (omega (arith, within))) refl;
  fits = rw (fits, other_fits) refl;
}

pub sum_kept : (a : Bool) (m : ℕ) (rs : Resources) → AreKept a m rs → IsShapeKept a m (nameless.Sum rs)
sum_kept a m rs kept = record {
  has_end = kept.have_end;
  closed = λ instances depth within. ap nameless.Sum (kept.closed instances depth within);
  fits = kept.fits;
}

pub no_arm : AreKept false 0 nameless.NoMore
no_arm = record { have_end = refl; closed = λ instances depth within. refl; fits = refl }

pub one_arm_more : (a b : Bool) (m n : ℕ) (r : Res) (rs : Resources) → a ≡ nameless.has_end_inside r → IsClosedRes m r → nameless.res_fits r ≡ true
    → AreKept b n rs → AreKept (a || b) (max n m) (nameless.More r rs)
one_arm_more a b m n r rs end closed fits kept = record {
  have_end = rw (end, kept.have_end) refl;
  closed = λ instances depth within. rw (closed instances depth (omega (arith, within)), kept.closed instances depth (omega (arith, within))) refl;
  fits = rw (fits, kept.fits) refl;
}

-- ---- resources

pub res_kept : (n k m reach : ℕ) (ls : List Limit) (s : Shape) → AreLimitsKept k ls → IsClosedShape m s → nameless.shape_fits s ≡ true
    → max k m - n ≤ reach → reach + n < 2 ^ 64 → IsResKept reach (Binds n ls s)
res_kept n k m reach ls s kept closed fits far room = record {
  closed = λ instances depth within. rw (kept.closed instances (n + depth) (omega (arith, far, within)), closed instances (n + depth) (omega (arith, far, within))) refl;
  fits = rw (kept.fits, fits) refl;
  room = room;
}
