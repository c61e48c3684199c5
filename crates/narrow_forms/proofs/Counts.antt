-- How often the form of a term counts a variable.
use Rattle.std.proofs.Common.{◌≡◌, ℤ, pos, ◌+ℤ◌, ◌*ℤ◌, Bool, true, false, ◌&&◌, if◌then◌else◌, List, [], ◌∷◌, Option, Some, None, ◌⊎◌, inl, inr, refl, sym, ap, ◌∙◌, arith}
use Rattle.std.proofs.lemmas.Int.{ints}
use Rattle.std.proofs.Math.IntN as Z
use Rattle.std.specs.List.{list_all}
use Rattle.core_language.specs.Names.{Ident, same}
use Rattle.core_language.specs.Terms.{Part, Term}
use Rattle.linear_forms.specs.Terms.{times_of, counted, sum_of}
use Rattle.linear_forms.specs.Normal.{fits}
use Rattle.linear_forms.specs.NormalTerms.{one_named, count_of, bare_of}
use Rattle.linear_forms.proofs.Linear.{sum_of-cong}
use Rattle.linear_forms.proofs.SameNames.{same_is, same-self}
use Rattle.narrow_terms.specs.Numbers.{name_fits, are_narrow, is_narrow}
use Rattle.outline_language.proofs.Values.{add_times-at}
use Rattle.outline_language.specs.LinearForms.{Var, Multiple, LinearForm, add_multiples, of_name, form_of_term, multiples_at}

-- ---- the multiples of a sum

pub multiples-add : (f : Var → ℤ) (k : ℤ) (ms ns : List Multiple) → multiples_at f (add_multiples k ms ns) ≡ (k *ℤ multiples_at f ms) +ℤ multiples_at f ns
multiples-add f k ms ns =
    let both = add_times-at f k (record { multiples = ms; constant = pos 0 }) (record { multiples = ns; constant = pos 0 }) in
    let left : multiples_at f ms +ℤ pos 0 ≡ multiples_at f ms = omega (arith, ints) in
    omega (arith, ints, both, ap (λ x. k *ℤ x) left, Z.*ℤ-zero k)

module _ (named : Ident → LinearForm) where
  -- what the variables count is the sum of what they count for names
  pub multiples_of_term : (f : Var → ℤ) (t : Term) → multiples_at f (form_of_term named t).multiples ≡ sum_of (pos 0) (λ x. multiples_at f (named x).multiples) t
  multiples_of_term f [] = refl
  multiples_of_term f (p ∷ ps) =
      omega (arith, ints, multiples-add f (times_of p) (of_name named p.name).multiples (form_of_term named ps).multiples, multiples_of_term f ps, ap (λ x. times_of p *ℤ x) (part p.name))
    where
      part : (n : Option Ident) → multiples_at f (of_name named n).multiples ≡ counted (pos 0) (λ x. multiples_at f (named x).multiples) n
      part None = refl
      part (Some x) = refl

  pub constant_of_term : ((x : Ident) → (named x).constant ≡ pos 0) → (t : Term) → (form_of_term named t).constant ≡ bare_of t
  constant_of_term none [] = refl
  constant_of_term none (p ∷ ps) = omega (arith, ints, ap (λ x. times_of p *ℤ x) (part p.name), constant_of_term none ps)
    where
      part : (n : Option Ident) → (of_name named n).constant ≡ counted (pos 1) (λ x. pos 0) n
      part None = refl
      part (Some x) = none x

-- ---- sums in which one name counts once, or none does

module _ (c : Ident → ℤ) (either : (x : Ident) → (c x ≡ pos 0) ⊎ (c x ≡ pos 1)) (one : (x y : Ident) → c x ≡ pos 1 → c y ≡ pos 1 → x ≡ y) where
  -- none of the names counts, or one that does is counted so often
  abbrev Found : (Ident → ℤ) → Term → Type 0
  Found count t = (sum_of (pos 0) c t ≡ pos 0) ⊎ ((y : Ident) × (c y ≡ pos 1) × (fits (count y) ≡ true))

  and_both : (a b : Bool) → (a && b) ≡ true → (a ≡ true) × (b ≡ true)
  and_both true true is = (refl, refl)
  and_both true false is = cc
  and_both false b is = cc

  -- one part more: its name counts, or those of the others are what is looked at
  one_more : (count : Ident → ℤ) (p : Part) (ps : Term) → name_fits count p.name ≡ true → Found count ps → Found count (p ∷ ps)
  one_more count p ps fit found = by p.name refl
    where
      more : counted (pos 0) c p.name ≡ pos 0 → Found count ps → Found count (p ∷ ps)
      more zero_here (inl none) = inl (omega (arith, ints, ap (λ x. times_of p *ℤ x) zero_here, Z.*ℤ-zero (times_of p), none))
      more zero_here (inr later) = inr later

      pick : (x : Ident) → p.name ≡ Some x → (c x ≡ pos 0) ⊎ (c x ≡ pos 1) → Found count (p ∷ ps)
      pick x is (inl none) = more (ap (counted (pos 0) c) is ∙ none) found
      pick x is (inr here) = inr (x, here, ap (name_fits count) (sym is) ∙ fit)

      by : (n : Option Ident) → p.name ≡ n → Found count (p ∷ ps)
      by None is = more (ap (counted (pos 0) c) is) found
      by (Some x) is = pick x is (either x)

  look : (count : Ident → ℤ) (t : Term) → are_narrow count t ≡ true → Found count t
  unfolding are_narrow
  look count [] narrow = inl refl
  look count (p ∷ ps) narrow =
      let parts = and_both (name_fits count p.name) (list_all (λ part. name_fits count part.name) ps) narrow in
      one_more count p ps parts.0 (look count ps parts.1)

  only : (y : Ident) → c y ≡ pos 1 → (x : Ident) → c x ≡ one_named y x
  only y here x = by (same y x) refl
    where
      by : (t : Bool) → same y x ≡ t → c x ≡ (if t then pos 1 else pos 0)
      by true is = ap c (sym (same_is y x is)) ∙ here
      by false is = pick (either x)
        where
          pick : (c x ≡ pos 0) ⊎ (c x ≡ pos 1) → c x ≡ pos 0
          pick (inl none) = none
          pick (inr too) = absurd (differ (sym (ap (λ z. same z x) (one y x here too) ∙ same-self x) ∙ is))
            where
              differ : true ≡ false → ⊥
              differ e = cc

  -- of a narrow term 64 bits hold such a sum
  pub narrow_sum : (t : Term) → is_narrow t ≡ true → fits (sum_of (pos 0) c t) ≡ true
  unfolding is_narrow
  narrow_sum t narrow = by (look (λ x. count_of x t) t (first (are_narrow (λ x. count_of x t) t) (fits (bare_of t)) narrow))
    where
      first : (a b : Bool) → (a && b) ≡ true → a ≡ true
      first true b is = refl
      first false b is = cc

      by : Found (λ x. count_of x t) t → fits (sum_of (pos 0) c t) ≡ true
      by (inl none) = ap fits none
      by (inr (y, here, fit)) = ap fits (sum_of-cong (pos 0) c (one_named y) t (only y here)) ∙ fit

pub narrow_bare : (t : Term) → is_narrow t ≡ true → fits (bare_of t) ≡ true
unfolding is_narrow
narrow_bare t narrow = second (are_narrow (λ x. count_of x t) t) (fits (bare_of t)) narrow
  where
    second : (a b : Bool) → (a && b) ≡ true → b ≡ true
    second true b is = is
    second false b is = cc
