-- Codes, and what a list of tokens begins with.
use Rattle.std.proofs.Common.{◌≡◌, ℕ, ◌⊎◌, inl, inr, Bool, true, false, not, ◌&&◌, ◌||◌, if◌then◌else◌, ◌==◌, List, [], ◌∷◌, ◌++◌, refl, sym, ◌∙◌, ap, subst}
use Rattle.std.proofs.lemmas.Bool.{eqb-true, eq-eqb}
use Rattle.grammar_laws.specs.Grammar.{has, next_in}
use Rattle.grammar_laws.specs.Check.{apart, all_in}
use Rattle.grammar_laws.proofs.Steps.{both}

pub or_left : (a b : Bool) → a ≡ true → a || b ≡ true
or_left true b e = refl
or_left false b e = cc

pub or_right : (a b : Bool) → b ≡ true → a || b ≡ true
or_right true b e = refl
or_right false b e = e

pub neither : (a b : Bool) → a || b ≡ false → (a ≡ false) × (b ≡ false)
neither true b e = cc
neither false b e = (refl, e)

pub either_is : (a b : Bool) → a || b ≡ true → (a ≡ true) ⊎ (b ≡ true)
either_is true b e = inl refl
either_is false b e = inr e

pub untrue : (a : Bool) → not a ≡ true → a ≡ false
untrue true e = cc
untrue false e = refl

pub has_append : (c : ℕ) (xs ys : List ℕ) → has c (xs ++ ys) ≡ (has c xs || has c ys)
has_append c [] ys = refl
has_append c (x ∷ xs) ys = elim (c == x) as (λ b. (b || has c (xs ++ ys)) ≡ ((b || has c xs) || has c ys)) [ true ↦ refl | false ↦ has_append c xs ys ]

pub has_left : (c : ℕ) (xs ys : List ℕ) → has c xs ≡ true → has c (xs ++ ys) ≡ true
has_left c xs ys e = has_append c xs ys ∙ or_left (has c xs) (has c ys) e

pub has_right : (c : ℕ) (xs ys : List ℕ) → has c ys ≡ true → has c (xs ++ ys) ≡ true
has_right c xs ys e = has_append c xs ys ∙ or_right (has c xs) (has c ys) e

pub has_none : (c : ℕ) (xs ys : List ℕ) → has c (xs ++ ys) ≡ false → (has c xs ≡ false) × (has c ys ≡ false)
has_none c xs ys e = neither (has c xs) (has c ys) (sym (has_append c xs ys) ∙ e)

along : (c d : ℕ) (ds : List ℕ) → c ≡ d → has d ds ≡ false → has c ds ≡ false
along c d ds e h = ap (λ k. has k ds) e ∙ h

pub apart_not : (c : ℕ) (cs ds : List ℕ) → apart cs ds ≡ true → has c cs ≡ true → has c ds ≡ false
apart_not c [] ds a h = cc
apart_not c (x ∷ cs) ds a h =
    let b = both (not (has x ds)) (apart cs ds) a in
    elim (either_is (c == x) (has c cs) h) [
      | inl e ↦ along c x ds (eqb-true c x e) (untrue (has x ds) b.0)
      | inr k ↦ apart_not c cs ds b.1 k
    ]

-- the other way round
not_true : (b : Bool) → ((b ≡ true) → false ≡ true) → b ≡ false
not_true true f = sym (f refl)
not_true false f = refl

pub apart_not_first : (c : ℕ) (cs ds : List ℕ) → apart cs ds ≡ true → has c ds ≡ true → has c cs ≡ false
apart_not_first c cs ds a h = not_true (has c cs) (λ e. sym (apart_not c cs ds a e) ∙ h)

pub all_in_has : (c : ℕ) (cs ds : List ℕ) → all_in cs ds ≡ true → has c cs ≡ true → has c ds ≡ true
all_in_has c [] ds a h = cc
all_in_has c (x ∷ cs) ds a h =
    let b = both (has x ds) (all_in cs ds) a in
    elim (either_is (c == x) (has c cs) h) [
      | inl e ↦ ap (λ k. has k ds) (eqb-true c x e) ∙ b.0
      | inr k ↦ all_in_has c cs ds b.1 k
    ]

pub all_in_not : (c : ℕ) (cs ds : List ℕ) → all_in cs ds ≡ true → has c ds ≡ false → has c cs ≡ false
all_in_not c cs ds a h = not_true (has c cs) (λ e. sym h ∙ all_in_has c cs ds a e)

module _ {T : Type 0} (code : T → ℕ) where
  abbrev pub Begins : Bool → List ℕ → List T → Type 0
  Begins n fs [] = n ≡ true
  Begins n fs (t ∷ ts) = has (code t) fs ≡ true

  pub begins_seq : (na nb : Bool) (fa fb : List ℕ) (u v : List T) → Begins na fa u → Begins nb fb v → Begins (na && nb) (if na then fa ++ fb else fa) (u ++ v)
  begins_seq true nb fa fb [] [] a b = b
  begins_seq true nb fa fb [] (t ∷ v) a b = has_right (code t) fa fb b
  begins_seq false nb fa fb [] v a b = cc
  begins_seq true nb fa fb (t ∷ u) v a b = has_left (code t) fa fb a
  begins_seq false nb fa fb (t ∷ u) v a b = a

  pub begins_left : (na nb : Bool) (fa fb : List ℕ) (u : List T) → Begins na fa u → Begins (na || nb) (fa ++ fb) u
  begins_left na nb fa fb [] a = or_left na nb a
  begins_left na nb fa fb (t ∷ u) a = has_left (code t) fa fb a

  pub begins_right : (na nb : Bool) (fa fb : List ℕ) (u : List T) → Begins nb fb u → Begins (na || nb) (fa ++ fb) u
  begins_right na nb fa fb [] a = or_right na nb a
  begins_right na nb fa fb (t ∷ u) a = has_right (code t) fa fb a

  -- items one after another
  pub begins_more : (na : Bool) (fa : List ℕ) (u v : List T) → Begins na fa u → Begins true fa v → Begins true fa (u ++ v)
  begins_more na fa [] v a b = b
  begins_more na fa (t ∷ u) v a b = a

  pub begins_along : (n : Bool) (fs : List ℕ) (u v : List T) → u ≡ v → Begins n fs v → Begins n fs u
  begins_along n fs u v e b = let P : List T → Type 0 = λ w. Begins n fs w in subst P (sym e) b

  pub begins_one : (n : Bool) (c : ℕ) (t : T) (us : List T) → code t ≡ c → Begins n (c ∷ []) (t ∷ us)
  begins_one n c t us e = or_left (code t == c) false (eq-eqb (code t) c e)

  pub begins_wider : (fs gs : List ℕ) (n : Bool) (u : List T) → n ≡ false → all_in fs gs ≡ true → Begins n fs u → Begins false gs u
  begins_wider fs gs n [] e a b = sym e ∙ b
  begins_wider fs gs n (t ∷ u) e a b = all_in_has (code t) fs gs a b

  -- what stops before the next part
  pub stops_seq : (fola folb fb : List ℕ) (nb : Bool) (v rest : List T) → apart fola fb ≡ true → Begins nb fb v
      → next_in code (folb ++ (if nb then fola ++ fb else [])) rest ≡ false → next_in code fola (v ++ rest) ≡ false
  stops_seq fola folb fb nb (t ∷ v) rest a b s = apart_not_first (code t) fola fb a b
  stops_seq fola folb fb nb [] [] a b s = refl
  stops_seq fola folb fb true [] (t ∷ rest) a b s = (has_none (code t) fola fb (has_none (code t) folb (fola ++ fb) s).1).0
  stops_seq fola folb fb false [] (t ∷ rest) a b s = cc

  pub stops_more : (fol fs : List ℕ) (v rest : List T) → apart fol fs ≡ true → Begins true fs v → next_in code (fs ++ fol) rest ≡ false → next_in code fol (v ++ rest) ≡ false
  stops_more fol fs (t ∷ v) rest a b s = apart_not_first (code t) fol fs a b
  stops_more fol fs [] [] a b s = refl
  stops_more fol fs [] (t ∷ rest) a b s = (has_none (code t) fs fol s).1

  pub stops_left : (xs ys : List ℕ) (rest : List T) → next_in code (xs ++ ys) rest ≡ false → next_in code xs rest ≡ false
  stops_left xs ys [] s = refl
  stops_left xs ys (t ∷ rest) s = (has_none (code t) xs ys s).0

  pub stops_right : (xs ys : List ℕ) (rest : List T) → next_in code (xs ++ ys) rest ≡ false → next_in code ys rest ≡ false
  stops_right xs ys [] s = refl
  stops_right xs ys (t ∷ rest) s = (has_none (code t) xs ys s).1

  pub stops_narrower : (fs gs : List ℕ) (rest : List T) → all_in fs gs ≡ true → next_in code gs rest ≡ false → next_in code fs rest ≡ false
  stops_narrower fs gs [] a s = refl
  stops_narrower fs gs (t ∷ rest) a s = all_in_not (code t) fs gs a s
