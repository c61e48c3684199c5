-- A tree within n levels is within more.
use Rattle.std.proofs.Common.{◌≡◌, ℕ, suc, zero, ◌+◌, ◌-◌, ◌≤◌, inl, inr, true, cond, List, [], ◌∷◌, ◌++◌, length, take, refl, ap, ◌∙◌, arith}
use Rattle.grammar_laws.specs.Grammar.{Got, Parser, and_then, next_in, gather, reads, Reading, Grammar, pure, one, seq, either, many, call, spanned, nest, Each, Derives, Below, Named}
use Rattle.grammar_laws.specs.Check.{guarded}
use Rattle.grammar_laws.proofs.Steps.{both}
use Rattle.grammar_laws.proofs.Again.{then_same}

each_map : {T A : Type 0} (R S : Reading T A) → ((y : A) (v : List T) → R y v → S y v) → (xs : List A) (ts : List T) → Each R xs ts → Each S xs ts
each_map R S f [] ts d = d
each_map R S f (x ∷ xs) ts d = (d.0, d.1, d.2, f x d.0 d.3, each_map R S f xs d.1 d.4)

module _ {T : Type 0} (code : T → ℕ) {X : Type 0} {Tree : X → Type 0} where
  module _ (C D : (x : X) → Reading T (Tree x)) (B E : (A : Type 0) → Grammar T X Tree A → Reading T A)
      (below_map : (A : Type 0) (a : Grammar T X Tree A) (y : A) (ts : List T) → B A a y ts → E A a y ts) where
    -- where no name is used, other readings of names will do
    pub guarded_map : {A : Type 0} (g : Grammar T X Tree A) → guarded g ≡ true → (y : A) (ts : List T) → Derives code C B g y ts → Derives code D E g y ts
    guarded_map (pure x) k y ts d = d
    guarded_map (one c p f) k y ts d = d
    guarded_map (seq f a b) k y ts d =
        let w = both (guarded a) (guarded b) k in
        (d.0, d.1, d.2, d.3, d.4, d.5, guarded_map a w.0 d.0 d.2 d.6, guarded_map b w.1 d.1 d.3 d.7)
    guarded_map (either fs a b) k y ts d =
        let w = both (guarded a) (guarded b) k in
        elim d [ inl h ↦ inl (guarded_map a w.0 y ts h) | inr h ↦ inr (guarded_map b w.1 y ts h) ]
    guarded_map (many fs f a) k y ts d = (d.0, d.1, each_map (Derives code C B a) (Derives code D E a) (guarded_map a k) d.0 ts d.2)
    guarded_map (call x f) k y ts d = cc
    guarded_map (spanned f a) k y ts d = (d.0, d.1, guarded_map a k d.0 ts d.2)
    guarded_map (nest {A = P} c a) k y ts d = (d.0, d.1, d.2, d.3, below_map P a y d.1 d.4)

    module _ (calls_map : (x : X) (y : Tree x) (ts : List T) → C x y ts → D x y ts) where
      pub derive_map : {A : Type 0} (g : Grammar T X Tree A) (y : A) (ts : List T) → Derives code C B g y ts → Derives code D E g y ts
      derive_map (pure x) y ts d = d
      derive_map (one c p f) y ts d = d
      derive_map (seq f a b) y ts d = (d.0, d.1, d.2, d.3, d.4, d.5, derive_map a d.0 d.2 d.6, derive_map b d.1 d.3 d.7)
      derive_map (either fs a b) y ts d = elim d [ inl h ↦ inl (derive_map a y ts h) | inr h ↦ inr (derive_map b y ts h) ]
      derive_map (many fs f a) y ts d = (d.0, d.1, each_map (Derives code C B a) (Derives code D E a) (derive_map a) d.0 ts d.2)
      derive_map (call x f) y ts d = (d.0, d.1, calls_map x d.0 ts d.2)
      derive_map (spanned f a) y ts d = (d.0, d.1, derive_map a d.0 ts d.2)
      derive_map (nest {A = P} c a) y ts d = (d.0, d.1, d.2, d.3, below_map P a y d.1 d.4)

  module _ (body : (x : X) → Grammar T X Tree (Tree x)) where
    pub below_more : (n m : ℕ) → n ≤ m → (A : Type 0) (a : Grammar T X Tree A) (y : A) (ts : List T) → Below code body n A a y ts → Below code body m A a y ts
    below_more zero m k A a y ts d = absurd d
    below_more (suc n) zero k A a y ts d = let no : ⊥ = omega arith in absurd no
    below_more (suc n) (suc m) k A a y ts d =
        let up : n ≤ m = omega arith in
        derive_map (Named code body n) (Named code body m) (Below code body n) (Below code body m) (below_more n m up)
        (λ x z us e. derive_map (λ _ _ _. ⊥) (λ _ _ _. ⊥) (Below code body n) (Below code body m) (below_more n m up) (λ _ _ _ no. no) (body x) z us e) a y ts d

    pub named_more : (n m : ℕ) → n ≤ m → (x : X) (y : Tree x) (ts : List T) → Named code body n x y ts → Named code body m x y ts
    named_more n m k x y ts d = derive_map (λ _ _ _. ⊥) (λ _ _ _. ⊥) (Below code body n) (Below code body m) (below_more n m k) (λ _ _ _ no. no) (body x) y ts d

    abbrev pub BelowAny : (A : Type 0) → Grammar T X Tree A → Reading T A
    BelowAny A a y ts = (m : ℕ) × Below code body m A a y ts

    -- one bound for all parts
    module _ (C : ℕ → (x : X) → Reading T (Tree x)) (more : (n m : ℕ) → n ≤ m → (x : X) (y : Tree x) (ts : List T) → C n x y ts → C m x y ts) where
      abbrev Any : {A : Type 0} → Grammar T X Tree A → Reading T A
      Any = Derives code (λ x y ts. (m : ℕ) × C m x y ts) BelowAny

      abbrev At : {A : Type 0} → ℕ → Grammar T X Tree A → Reading T A
      At n = Derives code (C n) (Below code body n)

      at_more : (n m : ℕ) → n ≤ m → {A : Type 0} (g : Grammar T X Tree A) (y : A) (ts : List T) → At n g y ts → At m g y ts
      at_more n m k g = derive_map (C n) (C m) (Below code body n) (Below code body m) (below_more n m k) (more n m k) g

      each_bound : {A : Type 0} (g : Grammar T X Tree A) → ((y : A) (ts : List T) → Any g y ts → (m : ℕ) × At m g y ts) → (xs : List A) (ts : List T) → Each (Any g) xs ts → (m : ℕ) × Each (At m g) xs ts
      each_bound g f [] ts d = (0, d)
      each_bound g f (x ∷ xs) ts d =
          let i = f x d.0 d.3 in
          let j = each_bound g f xs d.1 d.4 in
          (i.0 + j.0, (d.0, d.1, d.2, at_more i.0 (i.0 + j.0) (omega arith) g x d.0 i.1, each_map (At j.0 g) (At (i.0 + j.0) g) (at_more j.0 (i.0 + j.0) (omega arith) g) xs d.1 j.1))

      pub bound : {A : Type 0} (g : Grammar T X Tree A) (y : A) (ts : List T) → Derives code (λ x y ts. (m : ℕ) × C m x y ts) BelowAny g y ts → (m : ℕ) × Derives code (C m) (Below code body m) g y ts
      bound (pure x) y ts d = (0, d)
      bound (one c p f) y ts d = (0, d)
      bound (seq f a b) y ts d =
          let i = bound a d.0 d.2 d.6 in
          let j = bound b d.1 d.3 d.7 in
          (i.0 + j.0, (d.0, d.1, d.2, d.3, d.4, d.5, at_more i.0 (i.0 + j.0) (omega arith) a d.0 d.2 i.1, at_more j.0 (i.0 + j.0) (omega arith) b d.1 d.3 j.1))
      bound (either fs a b) y ts d = elim d [
        | inl h ↦ let i = bound a y ts h in (i.0, inl i.1)
        | inr h ↦ let i = bound b y ts h in (i.0, inr i.1)
      ]
      bound (many fs f a) y ts d = let i = each_bound a (bound a) d.0 ts d.2 in (i.0, (d.0, d.1, i.1))
      bound (call x f) y ts d = (d.2.0, (d.0, d.1, d.2.1))
      bound (spanned f a) y ts d = let i = bound a d.0 ts d.2 in (i.0, (d.0, d.1, i.1))
      bound (nest c a) y ts d = (d.4.0, (d.0, d.1, d.2, d.3, d.4.1))

-- the same for what is read
module _ {T : Type 0} (code : T → ℕ) {X : Type 0} {Tree : X → Type 0} (firsts : X → List ℕ)
    (c d : (x : X) → Parser T (Tree x)) (below : (A : Type 0) → Grammar T X Tree A → T → Parser T A) where
  gather_same : {A : Type 0} (fs : List ℕ) (p q : Parser T A) → ((ts : List T) → p ts ≡ q ts) → (n : ℕ) (found : List A) (ts : List T) → gather code fs p n found ts ≡ gather code fs q n found ts
  gather_same fs p q f zero found ts = refl
  gather_same fs p q f (suc n) found ts =
      ap (λ o. cond (next_in code fs ts) o (Got found ts))
      (ap (λ o. and_then o (λ x r. gather code fs p n (found ++ x ∷ []) r)) (f ts)
      ∙ then_same (q ts) (λ x r. gather code fs p n (found ++ x ∷ []) r) (λ x r. gather code fs q n (found ++ x ∷ []) r) (λ x r e. gather_same fs p q f n (found ++ x ∷ []) r))

  pub guarded_same : {A : Type 0} (g : Grammar T X Tree A) → guarded g ≡ true → (ts : List T) → reads code firsts c below g ts ≡ reads code firsts d below g ts
  guarded_same (pure x) k ts = refl
  guarded_same (one e p f) k ts = refl
  guarded_same (seq f a b) k ts =
      let w = both (guarded a) (guarded b) k in
      ap (λ o. and_then o (λ x r. and_then (reads code firsts c below b r) (λ y s. Got (f x y) s))) (guarded_same a w.0 ts)
      ∙ then_same (reads code firsts d below a ts) (λ x r. and_then (reads code firsts c below b r) (λ y s. Got (f x y) s)) (λ x r. and_then (reads code firsts d below b r) (λ y s. Got (f x y) s))
      (λ x r e. ap (λ o. and_then o (λ y s. Got (f x y) s)) (guarded_same b w.1 r))
  guarded_same (either fs a b) k ts =
      let w = both (guarded a) (guarded b) k in
      ap (λ o. cond (next_in code fs ts) o (reads code firsts c below b ts)) (guarded_same a w.0 ts)
      ∙ ap (λ o. cond (next_in code fs ts) (reads code firsts d below a ts) o) (guarded_same b w.1 ts)
  guarded_same (many fs f a) k ts =
      ap (λ o. and_then o (λ xs r. Got (f xs) r)) (gather_same fs (reads code firsts c below a) (reads code firsts d below a) (guarded_same a k) (length ts) [] ts)
  guarded_same (call x f) k ts = cc
  guarded_same (spanned f a) k ts = ap (λ o. and_then o (λ x r. Got (f (take (length ts - length r) ts) x) r)) (guarded_same a k ts)
  guarded_same (nest e a) k ts = refl
