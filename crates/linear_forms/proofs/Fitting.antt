-- 64 bits hold the numbers of a result's term exactly where they hold those of the term with the terms put in.
use Rattle.std.proofs.Common.{◌≡◌, ◌≢◌, ◌⊎◌, inl, inr, ℕ, ℤ, pos, Bool, true, false, if◌then◌else◌, List, [], ◌∷◌, Option, Some, None, refl, sym, ◌∙◌, ap, subst, arith}
use Rattle.std.proofs.lemmas.Int.{ints}
use Rattle.std.proofs.Math.IntN as Z
use Rattle.std.proofs.lemmas.Bool.{eqb-true, eq-eqb}
use Rattle.std.proofs.Math.Bool.{false≢true}
use Rattle.core_language.specs.Names.{Ident, same}
use Rattle.core_language.specs.Terms.{Term}
use Rattle.linear_forms.specs.Terms.{IntVar, times_of, counted, sum_of}
use Rattle.linear_forms.specs.Normal.{fits}
use Rattle.linear_forms.specs.NormalTerms.{one_named, count_of, bare_of, NumbersFit, IsSameSum}
use Rattle.linear_forms.specs.Substitution.{Var, Free, Inside, place_of, at_place, sum_under, same_var, one_var, Fits, IsPutTerm}
use Rattle.linear_forms.proofs.Linear.{sum_of-cong}
use Rattle.linear_forms.proofs.SameNames.{same_is, same-self}
use Rattle.linear_forms.proofs.Places.{name_at, name_at-place}
use Rattle.linear_forms.proofs.Replaced.{seen_at}

-- the variable that a name is
abbrev var_at : Option ℕ → Ident → Var
var_at None z = Free z
var_at (Some i) z = Inside i

abbrev var_of : List Ident → Ident → Var
var_of after z = var_at (place_of after z) z

seen-var : (after : List Ident) (at : Var → ℤ) (z : Ident) → seen_at after at z ≡ at (var_of after z)
seen-var after at z = pick (place_of after z)
  where
    pick : (o : Option ℕ) → at_place at (at (Free z)) o ≡ at (var_at o z)
    pick None = refl
    pick (Some i) = refl

same_var-is : (v w : Var) → same_var v w ≡ true → v ≡ w
same_var-is (Free x) (Free y) e = ap Free (same_is x y e)
same_var-is (Free x) (Inside j) e = absurd (false≢true e)
same_var-is (Inside i) (Free y) e = absurd (false≢true e)
same_var-is (Inside i) (Inside j) e = ap Inside (eqb-true i j e)

same_var-self : (v : Var) → same_var v v ≡ true
same_var-self (Free x) = same-self x
same_var-self (Inside i) = eq-eqb i i refl

one-other : (v w : Var) → v ≢ w → one_var v w ≡ pos 0
one-other v w h = pick (same_var v w) refl
  where
    pick : (b : Bool) → same_var v w ≡ b → (if b then pos 1 else pos 0) ≡ pos 0
    pick true q = absurd (h (same_var-is v w q))
    pick false q = refl

inside-same : (i j : ℕ) → Inside i ≡ Inside j → i ≡ j
inside-same i j e = cc

free-same : (x y : Ident) → Free x ≡ Free y → x ≡ y
free-same x y e = cc

-- different names are different variables
one_name : (after : List Ident) (z w : Ident) → var_of after z ≡ var_of after w → z ≡ w
one_name after z w e = pick (place_of after z) (place_of after w) refl refl e
  where
    pick : (o p : Option ℕ) → place_of after z ≡ o → place_of after w ≡ p → var_at o z ≡ var_at p w → z ≡ w
    pick None None f g h = free-same z w h
    pick None (Some j) f g h = absurd cc
    pick (Some i) None f g h = absurd cc
    pick (Some i) (Some j) f g h =
        let here : name_at after i ≡ Some z = name_at-place after z i f in
        let there : name_at after j ≡ Some w = name_at-place after w j g in
        let same_place : i ≡ j = inside-same i j h in
        let both : Some z ≡ Some w = sym here ∙ ap (name_at after) same_place ∙ there in
        cc

one-seen : (after : List Ident) (z w : Ident) → seen_at after (one_var (var_of after z)) w ≡ one_named z w
one-seen after z w = seen-var after (one_var (var_of after z)) w ∙ pick (same z w) refl
  where
    pick : (b : Bool) → same z w ≡ b → one_var (var_of after z) (var_of after w) ≡ (if b then pos 1 else pos 0)
    pick true q = rw (sym (same_is z w q), same_var-self (var_of after z)) refl
    pick false q = one-other (var_of after z) (var_of after w) (λ e. false≢true (sym q ∙ rw (one_name after z w e) (same-self w)))

-- a variable is some name's, or no name's
seen_or : (after : List Ident) (v : Var) → ((z : Ident) × (var_of after z ≡ v)) ⊎ ((z : Ident) → var_of after z ≢ v)
seen_or after (Free x) = pick (place_of after x) refl
  where
    pick : (o : Option ℕ) → place_of after x ≡ o → ((z : Ident) × (var_of after z ≡ Free x)) ⊎ ((z : Ident) → var_of after z ≢ Free x)
    pick None e = inl (x, rw e refl)
    pick (Some i) e = inr (λ z h. by z h (place_of after z) refl)
      where
        by : (z : Ident) → var_of after z ≡ Free x → (o : Option ℕ) → place_of after z ≡ o → ⊥
        by z h None f =
            let free : Free z ≡ Free x = rw f at h in
            let none : None ≡ Some i = sym f ∙ ap (place_of after) (free-same z x free) ∙ e in
            absurd cc
        by z h (Some j) f = let bound : Inside j ≡ Free x = rw f at h in absurd cc
seen_or after (Inside i) = pick (name_at after i) refl
  where
    named_at : (z : Ident) → var_of after z ≡ Inside i → name_at after i ≡ Some z
    named_at z h = by (place_of after z) refl
      where
        by : (o : Option ℕ) → place_of after z ≡ o → name_at after i ≡ Some z
        by None f = let free : Free z ≡ Inside i = rw f at h in absurd cc
        by (Some j) f =
            let bound : Inside j ≡ Inside i = rw f at h in
            rw (sym (inside-same j i bound)) (name_at-place after z j f)

    pick : (o : Option Ident) → name_at after i ≡ o → ((z : Ident) × (var_of after z ≡ Inside i)) ⊎ ((z : Ident) → var_of after z ≢ Inside i)
    pick None e = inr (λ z h. let none : None ≡ Some z = sym e ∙ named_at z h in absurd cc)
    pick (Some x) e = by (same_var (var_of after x) (Inside i)) refl
      where
        by : (b : Bool) → same_var (var_of after x) (Inside i) ≡ b → ((z : Ident) × (var_of after z ≡ Inside i)) ⊎ ((z : Ident) → var_of after z ≢ Inside i)
        by true q = inl (x, same_var-is (var_of after x) (Inside i) q)
        by false q = inr (λ z h.
            let both : Some x ≡ Some z = sym e ∙ named_at z h in
            let one : x ≡ z = cc in
            let there : var_of after x ≡ Inside i = rw one h in
            false≢true (sym q ∙ rw there (same_var-self (Inside i))))

sum-nothing : (t : Term) → sum_of (pos 0) (λ x. pos 0) t ≡ pos 0
sum-nothing [] = refl
sum-nothing (p ∷ ps) = rw (one p.name, sum-nothing ps) (omega (arith, ints, Z.*ℤ-zero (times_of p)))
  where
    one : (o : Option Ident) → counted (pos 0) (λ x. pos 0) o ≡ pos 0
    one None = refl
    one (Some x) = refl

module _ (put : List IntVar) (before after : List Ident) (t r : Term) (value : (u : ℤ) (at : Var → ℤ) → sum_of u (seen_at after at) r ≡ sum_under before put u at t) where
  counts-at : (z : Ident) → sum_under before put (pos 0) (one_var (var_of after z)) t ≡ count_of z r
  counts-at z = sym (value (pos 0) (one_var (var_of after z))) ∙ sum_of-cong (pos 0) (seen_at after (one_var (var_of after z))) (one_named z) r (one-seen after z)

  bare-at : sum_under before put (pos 1) (λ v. pos 0) t ≡ bare_of r
  bare-at = sym (value (pos 1) (λ v. pos 0)) ∙ sum_of-cong (pos 1) (seen_at after (λ v. pos 0)) (λ x. pos 0) r (seen-var after (λ v. pos 0))

  pub numbers_fit : Fits put before t → NumbersFit r
  numbers_fit h = record { counts = λ z. rw (sym (counts-at z)) (h.counts (var_of after z)); constant = rw (sym bare-at) h.constant }

  pub they_fit : NumbersFit r → Fits put before t
  they_fit h = record { counts = λ v. by v (seen_or after v); constant = rw bare-at h.constant }
    where
      by : (v : Var) → ((z : Ident) × (var_of after z ≡ v)) ⊎ ((z : Ident) → var_of after z ≢ v) → fits (sum_under before put (pos 0) (one_var v) t) ≡ true
      by v (inl (z, is)) = subst (λ w. fits (sum_under before put (pos 0) (one_var w) t) ≡ true) is (rw (counts-at z) (h.counts z))
      by v (inr none) =
          let zero : sum_under before put (pos 0) (one_var v) t ≡ pos 0 = sym (value (pos 0) (one_var v)) ∙ sum_of-cong (pos 0) (seen_at after (one_var v)) (λ x. pos 0) r (λ z. seen-var after (one_var v) z ∙ one-other v (var_of after z) (λ e. none z (sym e))) ∙ sum-nothing r in
          rw zero refl

  pub is_put : (u : Term) → IsSameSum u r → IsPutTerm put before after t u
  is_put u h = λ at. h (pos 1) (seen_at after at) ∙ value (pos 1) at
