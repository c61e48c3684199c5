-- A text has one outcome: its tree, the first unexpected token, or the first that opens a level too many.
use Rattle.std.proofs.Common.{◌≡◌, ℕ, suc, true, ◌⊎◌, inl, inr, List, [], ◌∷◌, ◌++◌, refl, sym, ◌∙◌, ap, subst, append_assoc}
use Rattle.std.proofs.lemmas.List.{append-nil}
use Rattle.grammar_laws.specs.Grammar.{Grammar, Within}
use Rattle.grammar_laws.specs.Laws.{Same, Language, name_tests, tests, Samples, Reads, IsUnexpected, IsTooDeep}
use Rattle.grammar_laws.proofs.Earlier.{same_refl}
use Rattle.grammar_laws.proofs.Knot.{none_within}

module _ {T : Type 0} where
  parts : (t u : T) (r s : List T) → t ∷ r ≡ u ∷ s → (t ≡ u) × (r ≡ s)
  parts t u r s e = (cc, cc)

  -- of two fronts of one list one begins with the other
  fronts : (ts u v r s : List T) → ts ≡ u ++ r → ts ≡ v ++ s → ((m : List T) × (v ≡ u ++ m) × (r ≡ m ++ s)) ⊎ ((m : List T) × (u ≡ v ++ m) × (s ≡ m ++ r))
  fronts ts [] v r s e f = inl (v, refl, sym e ∙ f)
  fronts ts (t ∷ u) [] r s e f = inr (t ∷ u, refl, sym f ∙ e)
  fronts [] (t ∷ u) (t' ∷ v) r s e f = cc
  fronts (x ∷ ts) (t ∷ u) (t' ∷ v) r s e f =
      let a = parts x t ts (u ++ r) e in
      let b = parts x t' ts (v ++ s) f in
      let h : t ≡ t' = sym a.0 ∙ b.0 in
      elim (fronts ts u v r s a.1 b.1) [
        | inl i ↦ inl (i.0, ap (λ w. t' ∷ w) i.1 ∙ ap (λ x. x ∷ (u ++ i.0)) (sym h), i.2)
        | inr i ↦ inr (i.0, ap (λ w. t ∷ w) i.1 ∙ ap (λ x. x ∷ (v ++ i.0)) h, i.2)
      ]

module _ {T X : Type 0} {Tree : X → Type 0} (l : Language T X Tree) {A : Type 0} (g : Grammar T X Tree A) (k : ℕ) (ts : List T) where
  -- a text that begins with the front of a refused token doesn't go on with it
  no_further : (u r m w s : List T) (t : T) → ((other : List T) → Same r other → (y : A) → Reads l g y (u ++ other) → ⊥) → r ≡ t ∷ s → (y : A) → Reads l g y (u ++ t ∷ w) → ⊥
  no_further u r m w s t f e y d = let P : List T → Type 0 = λ v. Same v (t ∷ w) in f (t ∷ w) (subst P (sym e) refl) y d

  -- the later of two unexpected tokens is the earlier
  later : (a b : List T) (i : IsUnexpected l k g ts a) (j : IsUnexpected l k g ts b) (m : List T) → j.front ≡ i.front ++ m → a ≡ m ++ b → a ≡ b
  later a b i j [] e h = h
  later a b i j (t ∷ m) e h =
      let P : List T → Type 0 = λ v. Reads l g j.begun.0 v in
      absurd (no_further i.front a m (m ++ j.begun.1) (m ++ b) t i.refused h j.begun.0
      (subst P (ap (λ v. v ++ j.begun.1) e ∙ append_assoc i.front (t ∷ m) j.begun.1) j.begun.2))

  pub one_unexpected : (a b : List T) → IsUnexpected l k g ts a → IsUnexpected l k g ts b → a ≡ b
  one_unexpected a b i j = elim (fronts ts i.front j.front a b i.parted j.parted) [
    | inl c ↦ later a b i j c.0 c.1 c.2
    | inr c ↦ sym (later b a j i c.0 c.1 c.2)
  ]

  -- the later of two tokens too deep is the earlier
  deeper : (a b : List T) (i : IsTooDeep l k g ts a) (j : IsTooDeep l k g ts b) (m : List T) → j.front ≡ i.front ++ m → a ≡ m ++ b → a ≡ b
  deeper a b i j [] e h = h
  deeper a b i j (t ∷ m) e h =
      let p = parts i.token t i.more (m ++ b) (sym i.headed ∙ h) in
      absurd (j.none_opens i.front i.token m (e ∙ ap (λ x. i.front ++ x ∷ m) (sym p.0)) i.opens)

  pub one_too_deep : (a b : List T) → IsTooDeep l k g ts a → IsTooDeep l k g ts b → a ≡ b
  one_too_deep a b i j = elim (fronts ts i.front j.front a b i.parted j.parted) [
    | inl c ↦ deeper a b i j c.0 c.1 c.2
    | inr c ↦ sym (deeper b a j i c.0 c.1 c.2)
  ]

  -- a token too deep stands behind no unexpected one
  behind : (a b : List T) (i : IsUnexpected l k g ts a) (j : IsTooDeep l k g ts b) (m : List T) → j.front ≡ i.front ++ m → a ≡ m ++ b → ⊥
  behind a b i j [] e h =
      let P : List T → Type 0 = λ v. Reads l g j.begun.0 v in
      no_further i.front a [] j.begun.1 j.more j.token i.refused (h ∙ j.headed) j.begun.0
      (subst P (append_assoc j.front (j.token ∷ []) j.begun.1 ∙ ap (λ v. v ++ j.token ∷ j.begun.1) (e ∙ append-nil i.front)) j.begun.2)
  behind a b i j (t ∷ m) e h =
      let P : List T → Type 0 = λ v. Reads l g j.begun.0 v in
      no_further i.front a m (m ++ j.token ∷ j.begun.1) (m ++ b) t i.refused h j.begun.0
      (subst P (append_assoc j.front (j.token ∷ []) j.begun.1 ∙ ap (λ v. v ++ j.token ∷ j.begun.1) e ∙ append_assoc i.front (t ∷ m) (j.token ∷ j.begun.1)) j.begun.2)

  -- nor before one
  before : (a b : List T) (i : IsUnexpected l k g ts a) (j : IsTooDeep l k g ts b) (m : List T) → i.front ≡ j.front ++ m → b ≡ m ++ a → ⊥
  before a b i j [] e h = behind a b i j [] (sym (append-nil j.front) ∙ sym e ∙ sym (append-nil i.front)) (sym h)
  before a b i j (t ∷ m) e h =
      let p = parts j.token t j.more (m ++ a) (sym j.headed ∙ h) in
      i.none_opens j.front j.token m (e ∙ ap (λ x. j.front ++ x ∷ m) (sym p.0)) j.opens

  pub never_both : (a b : List T) → IsUnexpected l k g ts a → IsTooDeep l k g ts b → ⊥
  never_both a b i j = elim (fronts ts i.front j.front a b i.parted j.parted) [
    | inl c ↦ behind a b i j c.0 c.1 c.2
    | inr c ↦ before a b i j c.0 c.1 c.2
  ]

module _ {T X : Type 0} {Tree : X → Type 0} (l : Language T X Tree) (ok : (x : X) → name_tests l x ≡ true) (samples : Samples l) where
  -- the tokens of a tree have no fault

  pub tree_not_unexpected : (n : ℕ) {A : Type 0} (g : Grammar T X Tree A) (y : A) (ts rest : List T) → Within l.code l.body n g y ts → IsUnexpected l (suc n) g ts rest → ⊥
  tree_not_unexpected n g y ts rest d i = let P : List T → Type 0 = λ v. Within l.code l.body n g y v in i.refused rest (same_refl rest) y (n, subst P i.parted d)

  pub tree_not_too_deep : (n : ℕ) {A : Type 0} (g : Grammar T X Tree A) → tests l g ≡ true → (y : A) (ts rest : List T) → Within l.code l.body n g y ts → IsTooDeep l (suc n) g ts rest → ⊥
  tree_not_too_deep n g k y ts rest d i = none_within l ok samples n g k y ts d i.front i.token i.more (i.parted ∙ ap (λ v. i.front ++ v) i.headed) i.opens
