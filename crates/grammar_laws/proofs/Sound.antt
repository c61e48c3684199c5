-- What is read is derived.
use Rattle.std.proofs.Common.{◌≡◌, ℕ, suc, zero, ◌-◌, inl, inr, Bool, true, ◌&&◌, ◌==◌, List, [], ◌∷◌, ◌++◌, length, take, refl, sym, ◌∙◌, ap, append_assoc}
use Rattle.std.proofs.lemmas.Bool.{eqb-true}
use Rattle.std.proofs.lemmas.List.{append-nil}
use Rattle.grammar_laws.specs.Grammar.{Got, Bad, Parser, Reading, Grammar, pure, one, seq, either, many, call, spanned, nest, and_then, Each, Derives, Below, Named, Within, next_in, one_at, opened, gather, reads, below, named, within}
use Rattle.grammar_laws.proofs.Steps.{got_before, chosen, both, got_is, taken_from, bad_got, deep_got}

abbrev pub Sound : {T A : Type 0} → Parser T A → Reading T A → Type 0
Sound {T = T} {A = A} p R = (ts : List T) (x : A) (rest : List T) → p ts ≡ Got x rest → (used : List T) × (ts ≡ used ++ rest) × R x used

module _ {T : Type 0} (code : T → ℕ) where
  one_sound : {A : Type 0} (c : ℕ) (p : T → Bool) (f : T → A) (ts : List T) (y : A) (rest : List T) → one_at code c p f ts ≡ Got y rest
      → (t : T) × (ts ≡ t ∷ rest) × (code t ≡ c) × (p t ≡ true) × (y ≡ f t)
  one_sound c p f [] y rest e = cc
  one_sound c p f (t ∷ ts) y rest e =
      elim (chosen ((code t == c) && p t) (Got (f t) ts) (Bad (t ∷ ts)) (Got y rest) e) [
        | inl h ↦ let b = both (code t == c) (p t) h.0 in let q = got_is (f t) y ts rest h.1 in
            (t, ap (λ r. t ∷ r) q.1, eqb-true (code t) c b.0, b.1, sym q.0)
        | inr h ↦ bad_got (t ∷ ts) rest y h.1
      ]

  opened_sound : {A : Type 0} (c : ℕ) (p : T → Parser T A) (R : Reading T A) → ((t : T) → Sound (p t) R) → (ts : List T) (y : A) (rest : List T) → opened code c p ts ≡ Got y rest
      → (t : T) × (us : List T) × (ts ≡ t ∷ us ++ rest) × (code t ≡ c) × R y us
  opened_sound c p R s [] y rest e = cc
  opened_sound c p R s (t ∷ ts) y rest e =
      elim (chosen (code t == c) (p t ts) (Bad (t ∷ ts)) (Got y rest) e) [
        | inl h ↦ let i = s t ts y rest h.1 in (t, i.0, ap (λ r. t ∷ r) i.1, eqb-true (code t) c h.0, i.2)
        | inr h ↦ bad_got (t ∷ ts) rest y h.1
      ]

  gather_sound : {A : Type 0} (fs : List ℕ) (p : Parser T A) (R : Reading T A) → Sound p R
      → (n : ℕ) (found : List A) (ts : List T) (xs : List A) (rest : List T) → gather code fs p n found ts ≡ Got xs rest
      → (more : List A) × (used : List T) × (xs ≡ found ++ more) × (ts ≡ used ++ rest) × Each R more used
  gather_sound fs p R s zero found ts xs rest e =
      let q = got_is found xs ts rest e in ([], [], sym q.0 ∙ sym (append-nil found), q.1, refl)
  gather_sound fs p R s (suc n) found ts xs rest e =
      elim (chosen (next_in code fs ts) (and_then (p ts) (λ x r. gather code fs p n (found ++ x ∷ []) r)) (Got found ts) (Got xs rest) e) [
        | inl h ↦ let b = got_before (p ts) (λ x r. gather code fs p n (found ++ x ∷ []) r) xs rest h.1 in
            let i = gather_sound fs p R s n (found ++ b.0 ∷ []) b.1 xs rest b.3 in
            let a = s ts b.0 b.1 b.2 in
            (b.0 ∷ i.0, a.0 ++ i.1, i.2 ∙ append_assoc found (b.0 ∷ []) i.0, a.1 ∙ ap (λ r. a.0 ++ r) i.3 ∙ sym (append_assoc a.0 i.1 rest), (a.0, i.1, refl, a.2, i.4))
        | inr h ↦ let q = got_is found xs ts rest h.1 in ([], [], sym q.0 ∙ sym (append-nil found), q.1, refl)
      ]

  module _ {X : Type 0} {Tree : X → Type 0} (firsts : X → List ℕ) where
    module _ (calls : (x : X) → Parser T (Tree x)) (below : (A : Type 0) → Grammar T X Tree A → T → Parser T A)
        (Calls : (x : X) → Reading T (Tree x)) (Below : (A : Type 0) → Grammar T X Tree A → Reading T A)
        (calls_sound : (x : X) → Sound (calls x) (Calls x))
        (below_sound : (A : Type 0) (a : Grammar T X Tree A) (t : T) → Sound (below A a t) (Below A a)) where
      abbrev go : {A : Type 0} → Grammar T X Tree A → Parser T A
      go = reads code firsts calls below

      abbrev is : {A : Type 0} → Grammar T X Tree A → Reading T A
      is = Derives code Calls Below

      left_of : {A : Type 0} (fs : List ℕ) (a b : Grammar T X Tree A) (ts : List T) (y : A) (rest : List T) → (used : List T) × (ts ≡ used ++ rest) × is a y used → (used : List T) × (ts ≡ used ++ rest) × is (either fs a b) y used
      left_of fs a b ts y rest i = (i.0, i.1, inl i.2)

      right_of : {A : Type 0} (fs : List ℕ) (a b : Grammar T X Tree A) (ts : List T) (y : A) (rest : List T) → (used : List T) × (ts ≡ used ++ rest) × is b y used → (used : List T) × (ts ≡ used ++ rest) × is (either fs a b) y used
      right_of fs a b ts y rest i = (i.0, i.1, inr i.2)

      pub sound : {A : Type 0} (g : Grammar T X Tree A) → Sound (reads code firsts calls below g) (Derives code Calls Below g)
      sound (pure x) ts y rest e = let q = got_is x y ts rest e in ([], q.1, (sym q.0, refl))
      sound (one c p f) ts y rest e = let i = one_sound c p f ts y rest e in (i.0 ∷ [], i.1, (i.0, refl, i.2, i.3, i.4))
      sound (seq f a b) ts y rest e =
          let l = got_before (go a ts) (λ x r. and_then (go b r) (λ z s. Got (f x z) s)) y rest e in
          let m = got_before (go b l.1) (λ z s. Got (f l.0 z) s) y rest l.3 in
          let q = got_is (f l.0 m.0) y m.1 rest m.3 in
          let i = sound a ts l.0 l.1 l.2 in
          let j = sound b l.1 m.0 m.1 m.2 in
          (i.0 ++ j.0, i.1 ∙ ap (λ r. i.0 ++ r) (j.1 ∙ ap (λ r. j.0 ++ r) q.1) ∙ sym (append_assoc i.0 j.0 rest), (l.0, m.0, i.0, j.0, sym q.0, refl, i.2, j.2))
      sound (either fs a b) ts y rest e =
          elim (chosen (next_in code fs ts) (go a ts) (go b ts) (Got y rest) e) [
            | inl h ↦ left_of fs a b ts y rest (sound a ts y rest h.1)
            | inr h ↦ right_of fs a b ts y rest (sound b ts y rest h.1)
          ]
      sound (many fs f a) ts y rest e =
          let l = got_before (gather code fs (go a) (length ts) [] ts) (λ xs r. Got (f xs) r) y rest e in
          let q = got_is (f l.0) y l.1 rest l.3 in
          let i = gather_sound fs (go a) (Derives code Calls Below a) (sound a) (length ts) [] ts l.0 l.1 l.2 in
          (i.1, i.3 ∙ ap (λ r. i.1 ++ r) q.1, (i.0, sym q.0 ∙ ap f i.2, i.4))
      sound (call x f) ts y rest e =
          let l = got_before (calls x ts) (λ t r. Got (f t) r) y rest e in
          let q = got_is (f l.0) y l.1 rest l.3 in
          let i = calls_sound x ts l.0 l.1 l.2 in
          (i.0, i.1 ∙ ap (λ r. i.0 ++ r) q.1, (l.0, sym q.0, i.2))
      sound (spanned f a) ts y rest e =
          let l = got_before (go a ts) (λ x r. Got (f (take (length ts - length r) ts) x) r) y rest e in
          let q = got_is (f (take (length ts - length l.1) ts) l.0) y l.1 rest l.3 in
          let i = sound a ts l.0 l.1 l.2 in
          let s = taken_from ts i.0 l.1 i.1 in
          (i.0, i.1 ∙ ap (λ r. i.0 ++ r) q.1, (l.0, sym q.0 ∙ ap (λ w. f w l.0) s, i.2))
      sound (nest {A = P} c a) ts y rest e =
          let i = opened_sound c (below P a) (Below P a) (below_sound P a) ts y rest e in
          (i.0 ∷ i.1, i.2, (i.0, i.1, refl, i.3, i.4))

    module _ (body : (x : X) → Grammar T X Tree (Tree x)) where
      named_at : (n : ℕ) → ((A : Type 0) (a : Grammar T X Tree A) (t : T) → Sound (below code firsts body n A a t) (Below code body n A a)) → (x : X) → Sound (named code firsts body n x) (Named code body n x)
      unfolding named below
      named_at n s x = sound (λ y rest. Bad rest) (below code firsts body n) (λ _ _ _. ⊥) (Below code body n) (λ y ts z rest e. bad_got ts rest z e) s (body x)

      pub below_sound : (n : ℕ) (A : Type 0) (a : Grammar T X Tree A) (t : T) → Sound (below code firsts body n A a t) (Below code body n A a)
      unfolding named below
      below_sound zero A a t = λ ts y rest e. deep_got (t ∷ ts) rest y e
      below_sound (suc n) A a t = sound (named code firsts body n) (below code firsts body n) (Named code body n) (Below code body n) (named_at n (below_sound n)) (below_sound n) a

      pub named_sound : (n : ℕ) (x : X) → Sound (named code firsts body n x) (Named code body n x)
      named_sound n = named_at n (below_sound n)

      pub within_sound : (n : ℕ) {A : Type 0} (g : Grammar T X Tree A) → Sound (within code firsts body n g) (Within code body n g)
      within_sound n g = sound (named code firsts body n) (below code firsts body n) (Named code body n) (Below code body n) (named_sound n) (below_sound n) g
