-- Places change nothing but places.
use Rattle.std.proofs.Common.{◌≡◌, ℕ, suc, zero, inl, inr, List, [], ◌∷◌, ◌++◌, map, refl, sym, ◌∙◌, ap, subst}
use Rattle.grammar_laws.specs.Grammar.{Reading, Grammar, pure, one, seq, either, many, call, spanned, nest, Each, Derives, Below, Named, Within}
use Rattle.grammar_laws.specs.Respan.{Even}

map_append : {T : Type 0} (h : T → T) (u v : List T) → map h (u ++ v) ≡ map h u ++ map h v
map_append h [] v = refl
map_append h (t ∷ u) v = ap (λ w. h t ∷ w) (map_append h u v)

heads : {T : Type 0} (x y : T) (xs ys : List T) → x ∷ xs ≡ y ∷ ys → (x ≡ y) × (xs ≡ ys)
heads x y xs ys e = (cc, cc)

-- where a mapped list splits, the list does
map_split : {T : Type 0} (h : T → T) (ts u v : List T) → map h ts ≡ u ++ v → (a : List T) × (b : List T) × (ts ≡ a ++ b) × (map h a ≡ u) × (map h b ≡ v)
map_split h ts [] v e = ([], ts, refl, refl, e)
map_split h [] (t ∷ u) v e = cc
map_split h (s ∷ ts) (t ∷ u) v e =
    let q = heads (h s) t (map h ts) (u ++ v) e in
    let i = map_split h ts u v q.1 in
    (s ∷ i.0, i.1, ap (λ w. s ∷ w) i.2, ap (λ w. h s ∷ w) i.3 ∙ ap (λ w. w ∷ u) q.0, i.4)

map_cons : {T : Type 0} (h : T → T) (ts : List T) (t : T) (us : List T) → map h ts ≡ t ∷ us → (s : T) × (r : List T) × (ts ≡ s ∷ r) × (h s ≡ t) × (map h r ≡ us)
map_cons h [] t us e = cc
map_cons h (s ∷ ts) t us e = let q = heads (h s) t (map h ts) us e in (s, ts, refl, q.0, q.1)

map_none : {T : Type 0} (h : T → T) (ts : List T) → map h ts ≡ [] → ts ≡ []
map_none h [] e = refl
map_none h (t ∷ ts) e = cc

module _ {T X : Type 0} {Tree : X → Type 0} (code : T → ℕ) (h : T → T) (same : (t : T) → code (h t) ≡ code t) (tree : (x : X) → Tree x → Tree x) where
  module _ (Calls : (x : X) → Reading T (Tree x)) (Below : (A : Type 0) → Grammar T X Tree A → Reading T A) where
    abbrev is : {A : Type 0} → Grammar T X Tree A → Reading T A
    is = Derives code Calls Below

    module _ (calls : (x : X) (z : Tree x) (ts : List T) → Calls x z (map h ts) → (y : Tree x) × (tree x y ≡ z) × Calls x y ts)
        (below : (A : Type 0) (a : Grammar T X Tree A) (e : A → A) → Even h tree a e → (z : A) (ts : List T) → Below A a z (map h ts) → (y : A) × (e y ≡ z) × Below A a y ts) where
      each_placed : {A : Type 0} (R : Reading T A) (e : A → A) → ((z : A) (ts : List T) → R z (map h ts) → (y : A) × (e y ≡ z) × R y ts) → (zs : List A) (ts : List T) → Each R zs (map h ts) → (ys : List A) × (map e ys ≡ zs) × Each R ys ts
      each_placed R e f [] ts d = ([], refl, map_none h ts d)
      each_placed R e f (z ∷ zs) ts d =
          let s = map_split h ts d.0 d.1 d.2 in
          let P : List T → Type 0 = λ w. R z w in
          let Q : List T → Type 0 = λ w. Each R zs w in
          let i = f z s.0 (subst P (sym s.3) d.3) in
          let j = each_placed R e f zs s.1 (subst Q (sym s.4) d.4) in
          (i.0 ∷ j.0, ap (λ w. w ∷ map e j.0) i.1 ∙ ap (λ w. z ∷ w) j.1, (s.0, s.1, s.2, i.2, j.2))

      -- Tokens at other places have a tree that differs in places alone.
      pub placed : {A : Type 0} (g : Grammar T X Tree A) (e : A → A) → Even h tree g e → (z : A) (ts : List T) → Derives code Calls Below g z (map h ts) → (y : A) × (e y ≡ z) × Derives code Calls Below g y ts
      placed (pure x) e k z ts d = (x, k ∙ sym d.0, (refl, map_none h ts d.1))
      placed (one c p f) e k z ts d =
          let s = map_cons h ts d.0 [] d.1 in (
            f s.0,
            k.1 s.0 ∙ ap f s.3 ∙ sym d.4,
            (s.0, s.2 ∙ ap (λ w. s.0 ∷ w) (map_none h s.1 s.4), sym (same s.0) ∙ ap code s.3 ∙ d.2, sym (k.0 s.0) ∙ ap p s.3 ∙ d.3, refl),
          )
      placed (seq {A = P'} {B = Q'} f a b) e k z ts d =
          let s = map_split h ts d.2 d.3 d.5 in
          let P : List T → Type 0 = λ w. is a d.0 w in
          let Q : List T → Type 0 = λ w. is b d.1 w in
          let i = placed a k.0 k.2 d.0 s.0 (subst P (sym s.3) d.6) in
          let j = placed b k.1 k.3 d.1 s.1 (subst Q (sym s.4) d.7) in
          (f i.0 j.0, k.4 i.0 j.0 ∙ ap (λ w. f w (k.1 j.0)) i.1 ∙ ap (λ w. f d.0 w) j.1 ∙ sym d.4, (i.0, j.0, s.0, s.1, refl, s.2, i.2, j.2))
      placed (either fs a b) e k z ts d = elim d [
        | inl x ↦ let i = placed a e k.0 z ts x in (i.0, i.1, inl i.2)
        | inr x ↦ let i = placed b e k.1 z ts x in (i.0, i.1, inr i.2)
      ]
      placed (many fs f a) e k z ts d =
          let i = each_placed (is a) k.0 (placed a k.0 k.1) d.0 ts d.2 in
          (f i.0, k.2 i.0 ∙ ap f i.1 ∙ sym d.1, (i.0, refl, i.2))
      placed (call x f) e k z ts d = let i = calls x d.0 ts d.2 in (f i.0, k i.0 ∙ ap f i.1 ∙ sym d.1, (i.0, refl, i.2))
      placed (spanned f a) e k z ts d =
          let i = placed a k.0 k.1 d.0 ts d.2 in
          (f ts i.0, k.2 ts i.0 ∙ ap (λ w. f (map h ts) w) i.1 ∙ sym d.1, (i.0, refl, i.2))
      placed (nest {A = P'} c a) e k z ts d =
          let s = map_cons h ts d.0 d.1 d.2 in
          let P : List T → Type 0 = λ w. Below P' a z w in
          let i = below P' a e k z s.1 (subst P (sym s.4) d.4) in
          (i.0, i.1, (s.0, s.1, s.2, sym (same s.0) ∙ ap code s.3 ∙ d.3, i.2))

  module _ (body : (x : X) → Grammar T X Tree (Tree x)) (even : (x : X) → Even h tree (body x) (tree x)) where
    named_at : (n : ℕ) → ((A : Type 0) (a : Grammar T X Tree A) (e : A → A) → Even h tree a e → (z : A) (ts : List T) → Below code body n A a z (map h ts) → (y : A) × (e y ≡ z) × Below code body n A a y ts)
        → (x : X) (z : Tree x) (ts : List T) → Named code body n x z (map h ts) → (y : Tree x) × (tree x y ≡ z) × Named code body n x y ts
    named_at n b x z ts d = placed (λ _ _ _. ⊥) (Below code body n) (λ w v us no. absurd no) b (body x) (tree x) (even x) z ts d

    below_placed : (n : ℕ) (A : Type 0) (a : Grammar T X Tree A) (e : A → A) → Even h tree a e → (z : A) (ts : List T) → Below code body n A a z (map h ts) → (y : A) × (e y ≡ z) × Below code body n A a y ts
    below_placed zero A a e k z ts d = absurd d
    below_placed (suc n) A a e k z ts d = placed (Named code body n) (Below code body n) (named_at n (below_placed n)) (below_placed n) a e k z ts d

    pub within_placed : (n : ℕ) {A : Type 0} (g : Grammar T X Tree A) (e : A → A) → Even h tree g e → (z : A) (ts : List T) → Within code body n g z (map h ts) → (y : A) × (e y ≡ z) × Within code body n g y ts
    within_placed n g e k z ts d = placed (Named code body n) (Below code body n) (named_at n (below_placed n)) (below_placed n) g e k z ts d

-- The other way: a tree without its places has the tokens without theirs.
module _ {T X : Type 0} {Tree : X → Type 0} (code : T → ℕ) (h : T → T) (same : (t : T) → code (h t) ≡ code t) (tree : (x : X) → Tree x → Tree x) where
  module _ (Calls : (x : X) → Reading T (Tree x)) (Below : (A : Type 0) → Grammar T X Tree A → Reading T A)
      (calls : (x : X) (z : Tree x) (ts : List T) → Calls x z ts → Calls x (tree x z) (map h ts))
      (below : (A : Type 0) (a : Grammar T X Tree A) (e : A → A) → Even h tree a e → (z : A) (ts : List T) → Below A a z ts → Below A a (e z) (map h ts)) where
    each_bare : {A : Type 0} (R : Reading T A) (e : A → A) → ((z : A) (ts : List T) → R z ts → R (e z) (map h ts)) → (zs : List A) (ts : List T) → Each R zs ts → Each R (map e zs) (map h ts)
    each_bare R e f [] ts d = ap (map h) d
    each_bare R e f (z ∷ zs) ts d = (map h d.0, map h d.1, ap (map h) d.2 ∙ map_append h d.0 d.1, f z d.0 d.3, each_bare R e f zs d.1 d.4)

    pub bare : {A : Type 0} (g : Grammar T X Tree A) (e : A → A) → Even h tree g e → (z : A) (ts : List T) → Derives code Calls Below g z ts → Derives code Calls Below g (e z) (map h ts)
    bare (pure x) e k z ts d = (ap e d.0 ∙ k, ap (map h) d.1)
    bare (one c p f) e k z ts d = (h d.0, ap (map h) d.1, same d.0 ∙ d.2, k.0 d.0 ∙ d.3, ap e d.4 ∙ k.1 d.0)
    bare (seq f a b) e k z ts d =
        (k.0 d.0, k.1 d.1, map h d.2, map h d.3, ap e d.4 ∙ k.4 d.0 d.1, ap (map h) d.5 ∙ map_append h d.2 d.3, bare a k.0 k.2 d.0 d.2 d.6, bare b k.1 k.3 d.1 d.3 d.7)
    bare (either fs a b) e k z ts d = elim d [ inl x ↦ inl (bare a e k.0 z ts x) | inr x ↦ inr (bare b e k.1 z ts x) ]
    bare (many fs f a) e k z ts d = (map k.0 d.0, ap e d.1 ∙ k.2 d.0, each_bare (Derives code Calls Below a) k.0 (bare a k.0 k.1) d.0 ts d.2)
    bare (call x f) e k z ts d = (tree x d.0, ap e d.1 ∙ k d.0, calls x d.0 ts d.2)
    bare (spanned f a) e k z ts d = (k.0 d.0, ap e d.1 ∙ k.2 ts d.0, bare a k.0 k.1 d.0 ts d.2)
    bare (nest {A = P} c a) e k z ts d = (h d.0, map h d.1, ap (map h) d.2, same d.0 ∙ d.3, below P a e k z d.1 d.4)

  module _ (body : (x : X) → Grammar T X Tree (Tree x)) (even : (x : X) → Even h tree (body x) (tree x)) where
    named_bare_at : (n : ℕ) → ((A : Type 0) (a : Grammar T X Tree A) (e : A → A) → Even h tree a e → (z : A) (ts : List T) → Below code body n A a z ts → Below code body n A a (e z) (map h ts))
        → (x : X) (z : Tree x) (ts : List T) → Named code body n x z ts → Named code body n x (tree x z) (map h ts)
    named_bare_at n b x z ts d = bare (λ _ _ _. ⊥) (Below code body n) (λ w v us no. no) b (body x) (tree x) (even x) z ts d

    below_bare : (n : ℕ) (A : Type 0) (a : Grammar T X Tree A) (e : A → A) → Even h tree a e → (z : A) (ts : List T) → Below code body n A a z ts → Below code body n A a (e z) (map h ts)
    below_bare zero A a e k z ts d = d
    below_bare (suc n) A a e k z ts d = bare (Named code body n) (Below code body n) (named_bare_at n (below_bare n)) (below_bare n) a e k z ts d

    pub within_bare : (n : ℕ) {A : Type 0} (g : Grammar T X Tree A) (e : A → A) → Even h tree g e → (z : A) (ts : List T) → Within code body n g z ts → Within code body n g (e z) (map h ts)
    within_bare n g e k z ts d = bare (Named code body n) (Below code body n) (named_bare_at n (below_bare n)) (below_bare n) g e k z ts d
