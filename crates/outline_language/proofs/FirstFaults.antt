-- The first fault of a list is what `least` finds, and there is one.
use Rattle.std.proofs.Common.{◌≡◌, Bool, true, false, true≢false, if◌then◌else◌, List, [], ◌∷◌, ◌++◌, Option, Some, None, refl, sym, ap, ◌∙◌, subst, arith, ◌⊎◌, inl, inr}
use Rattle.std.specs.List.{AllByRecursion}
use Rattle.std.proofs.lemmas.Option.{none-some, same_Some}
use Rattle.std.proofs.lemmas.Bool.Decides.{nat_tests}
use Rattle.outline_language.specs.Outlined.{Fault, is_sooner, least, IsFirst}

-- the first of a list, element by element
abbrev NoneSooner : Fault → List Fault → Type 0
NoneSooner f gs = AllByRecursion (λ g. is_sooner g f ≡ false) gs

abbrev First : List Fault → Fault → Type 0
First [] f = ⊥
First (g ∷ gs) f = ((g ≡ f) × NoneSooner f gs) ⊎ ((is_sooner f g ≡ true) × First gs f)

sooner-trans : (f x b : Fault) → is_sooner f x ≡ true → is_sooner x b ≡ true → is_sooner f b ≡ true
sooner-trans f x b p q = grind (arith, nat_tests)

sooner-under : (f b x : Fault) → is_sooner f b ≡ true → is_sooner x b ≡ false → is_sooner f x ≡ true
sooner-under f b x p q = grind (arith, nat_tests)

head_sooner : (f x b : Fault) (fs : List Fault) → First (x ∷ fs) f → is_sooner x b ≡ true → is_sooner f b ≡ true
head_sooner f x b fs (inl (same, none)) p = ap (λ g. is_sooner g b) (sym same) ∙ p
head_sooner f x b fs (inr (sooner, more)) p = sooner-trans f x b sooner p

passed_over : (f x b : Fault) (fs : List Fault) → First (b ∷ fs) f → is_sooner x b ≡ false → First (b ∷ x ∷ fs) f
passed_over f x b fs (inl (same, none)) p = inl (same, (ap (is_sooner x) (sym same) ∙ p, none))
passed_over f x b fs (inr (sooner, more)) p = inr (sooner, inr (sooner-under f b x sooner p, more))

least-first : (b : Fault) (fs : List Fault) (f : Fault) → least (Some b) fs ≡ Some f → First (b ∷ fs) f
unfolding least
least-first b [] f is = inl (same_Some b f is, tt)
least-first b (x ∷ fs) f is = by_cases (is_sooner x b) refl (least-first x fs f) (least-first b fs f)
  where
    by_cases : (s : Bool) → is_sooner x b ≡ s → (least (Some x) fs ≡ Some f → First (x ∷ fs) f) → (least (Some b) fs ≡ Some f → First (b ∷ fs) f) → First (b ∷ x ∷ fs) f
    by_cases true s at_x at_b =
        let first = at_x (ap (λ t. least (if t then Some x else Some b) fs) (sym s) ∙ is) in
        inr (head_sooner f x b fs first s, first)
    by_cases false s at_x at_b = passed_over f x b fs (at_b (ap (λ t. least (if t then Some x else Some b) fs) (sym s) ∙ is)) s

splits : (gs : List Fault) (f : Fault) → First gs f → IsFirst gs f
splits [] f first = absurd first
splits (g ∷ gs) f (inl (same, none)) = record {
  before = [];
  after = gs;
  stands = ap (λ h. h ∷ gs) same;
  sooner = tt;
  not_later = none;
}
splits (g ∷ gs) f (inr (sooner, more)) = later (splits gs f more)
  where
    later : IsFirst gs f → IsFirst (g ∷ gs) f
    later is = record {
      before = g ∷ is.before;
      after = is.after;
      stands = ap (λ hs. g ∷ hs) is.stands;
      sooner = (sooner, is.sooner);
      not_later = is.not_later;
    }

joined : (before after : List Fault) (f : Fault) → AllByRecursion (λ g. is_sooner f g ≡ true) before → NoneSooner f after → First (before ++ f ∷ after) f
joined [] after f sooner none = inl (refl, none)
joined (g ∷ gs) after f (one, sooner) none = inr (one, joined gs after f sooner none)

pub first_of : (gs : List Fault) (f : Fault) → IsFirst gs f → First gs f
first_of gs f is = subst (λ hs. First hs f) (sym is.stands) (joined is.before is.after f is.sooner is.not_later)

-- ---- there is one

not_both : (f g : Fault) → is_sooner f g ≡ true → is_sooner g f ≡ true → ⊥
not_both f g p q = grind (arith, nat_tests)

in_rest : (g f : Fault) (gs : List Fault) → NoneSooner g gs → First gs f → is_sooner f g ≡ true → ⊥
in_rest g f [] none first sooner = first
in_rest g f (h ∷ hs) (one, none) (inl (same, rest)) sooner = true≢false (sym sooner ∙ ap (λ k. is_sooner k g) (sym same) ∙ one)
in_rest g f (h ∷ hs) (one, none) (inr (before, more)) sooner = in_rest g f hs none more sooner

one_first : (gs : List Fault) (f g : Fault) → First gs f → First gs g → f ≡ g
one_first [] f g first other = absurd first
one_first (h ∷ hs) f g (inl (same, none)) (inl (same_too, none_too)) = sym same ∙ same_too
one_first (h ∷ hs) f g (inl (same, none)) (inr (sooner, more)) =
    absurd (in_rest f g hs none more (ap (is_sooner g) (sym same) ∙ sooner))
one_first (h ∷ hs) f g (inr (sooner, more)) (inl (same, none)) =
    absurd (in_rest g f hs none more (ap (is_sooner f) (sym same) ∙ sooner))
one_first (h ∷ hs) f g (inr (sooner, more)) (inr (sooner_too, more_too)) = one_first hs f g more more_too

pub first_is_one : (gs : List Fault) (f g : Fault) → IsFirst gs f → IsFirst gs g → f ≡ g
first_is_one gs f g first other = one_first gs f g (first_of gs f first) (first_of gs g other)

-- ---- what is found

pub least_is_first : (fs : List Fault) (f : Fault) → least None fs ≡ Some f → IsFirst fs f
unfolding least
least_is_first [] f is = absurd (none-some f is)
least_is_first (x ∷ fs) f is = splits (x ∷ fs) f (least-first x fs f is)

least-some : (b : Fault) (fs : List Fault) → least (Some b) fs ≡ None → ⊥
unfolding least
least-some b [] is = none-some b (sym is)
least-some b (x ∷ fs) is = by_cases (is_sooner x b) (least-some x fs) (least-some b fs) is
  where
    by_cases : (s : Bool) → (least (Some x) fs ≡ None → ⊥) → (least (Some b) fs ≡ None → ⊥) → least (if s then Some x else Some b) fs ≡ None → ⊥
    by_cases true at_x at_b none = at_x none
    by_cases false at_x at_b none = at_b none

pub least_is_none : (fs : List Fault) → least None fs ≡ None → fs ≡ []
unfolding least
least_is_none [] is = refl
least_is_none (x ∷ fs) is = absurd (least-some x fs is)

pub none_of_nothing : (fs : List Fault) → fs ≡ [] → least None fs ≡ None
unfolding least
none_of_nothing fs is = ap (least None) is

pub first_is_least : (fs : List Fault) (f : Fault) → IsFirst fs f → least None fs ≡ Some f
first_is_least fs f first = pick (least None fs) refl
  where
    pick : (found : Option Fault) → least None fs ≡ found → least None fs ≡ Some f
    pick None is = absurd (subst (λ hs. First hs f) (least_is_none fs is) (first_of fs f first))
    pick (Some g) is = is ∙ ap Some (first_is_one fs g f (least_is_first fs g is) first)
