-- What was read up to a fault can be gone on with.
use Rattle.std.proofs.Common.{◌≡◌, ℕ, suc, zero, ◌-◌, inl, inr, Bool, true, false, ◌&&◌, cond, ◌==◌, List, [], ◌∷◌, ◌++◌, length, take, refl, sym, ◌∙◌, ap, subst, append_assoc}
use Rattle.std.proofs.lemmas.Bool.{eqb-true}
use Rattle.grammar_laws.specs.Grammar.{Outcome, Got, Bad, Deep, Parser, Reading, Grammar, pure, one, seq, either, many, call, spanned, nest, and_then, Each, Derives, next_in, one_at, opened, gather, reads}
use Rattle.grammar_laws.specs.Check.{made}
use Rattle.grammar_laws.proofs.Steps.{both}
use Rattle.grammar_laws.proofs.Sound.{Sound}

abbrev pub LiveIn : {T A : Type 0} → Reading T A → List T → Outcome T A → Type 0
LiveIn {T = T} {A = A} R ts (Got x rest) = Unit {0}
LiveIn {T = T} {A = A} R ts (Bad rest) = (front : List T) × (ts ≡ front ++ rest) × (y : A) × (w : List T) × R y (front ++ w)
LiveIn {T = T} {A = A} R ts (Deep rest) = (front : List T) × (t : T) × (r : List T) × (rest ≡ t ∷ r) × (ts ≡ front ++ rest) × (y : A) × (w : List T) × R y (front ++ t ∷ w)

abbrev pub Lives : {T A : Type 0} → Parser T A → Reading T A → Type 0
Lives {T = T} p R = (ts : List T) → LiveIn R ts (p ts)

module _ {T : Type 0} where
  pub live_map : {A : Type 0} (o : Outcome T A) (R S : Reading T A) (ts : List T) → ((y : A) (v : List T) → R y v → S y v) → LiveIn R ts o → LiveIn S ts o
  live_map (Got x rest) R S ts f l = tt
  live_map (Bad rest) R S ts f l = (l.0, l.1, l.2, l.3, f l.2 (l.0 ++ l.3) l.4)
  live_map (Deep rest) R S ts f l = (l.0, l.1, l.2, l.3, l.4, l.5, l.6, f l.5 (l.0 ++ l.1 ∷ l.6) l.7)

  -- behind what was read, and with something made of the tree
  live_after : {A B : Type 0} (o : Outcome T A) (k : A → Parser T B) (R : Reading T A) (S : Reading T B) (ts mid u : List T) → ts ≡ u ++ mid
      → ((y : A) (v : List T) → R y v → (z : B) × S z (u ++ v)) → ((x : A) (r : List T) → LiveIn S ts (k x r)) → LiveIn R mid o → LiveIn S ts (and_then o k)
  live_after (Got x rest) k R S ts mid u e f h l = h x rest
  live_after (Bad rest) k R S ts mid u e f h l =
      let d = f l.2 (l.0 ++ l.3) l.4 in
      let P : List T → Type 0 = λ v. S d.0 v in
      (u ++ l.0, e ∙ ap (λ r. u ++ r) l.1 ∙ sym (append_assoc u l.0 rest), d.0, l.3, subst P (sym (append_assoc u l.0 l.3)) d.1)
  live_after (Deep rest) k R S ts mid u e f h l =
      let d = f l.5 (l.0 ++ l.1 ∷ l.6) l.7 in
      let P : List T → Type 0 = λ v. S d.0 v in
      (u ++ l.0, l.1, l.2, l.3, e ∙ ap (λ r. u ++ r) l.4 ∙ sym (append_assoc u l.0 rest), d.0, l.6, subst P (sym (append_assoc u l.0 (l.1 ∷ l.6))) d.1)

  -- with something to end it
  live_first : {A B : Type 0} (o : Outcome T A) (k : A → Parser T B) (R : Reading T A) (S : Reading T B) (ts : List T)
      → ((y : A) (v : List T) → R y v → (z : B) × (w : List T) × S z (v ++ w)) → ((x : A) (r : List T) → o ≡ Got x r → LiveIn S ts (k x r)) → LiveIn R ts o → LiveIn S ts (and_then o k)
  live_first (Got x rest) k R S ts f h l = h x rest refl
  live_first (Bad rest) k R S ts f h l =
      let d = f l.2 (l.0 ++ l.3) l.4 in
      let P : List T → Type 0 = λ v. S d.0 v in
      (l.0, l.1, d.0, l.3 ++ d.1, subst P (append_assoc l.0 l.3 d.1) d.2)
  live_first (Deep rest) k R S ts f h l =
      let d = f l.5 (l.0 ++ l.1 ∷ l.6) l.7 in
      let P : List T → Type 0 = λ v. S d.0 v in
      (l.0, l.1, l.2, l.3, l.4, d.0, l.6 ++ d.1, subst P (append_assoc l.0 (l.1 ∷ l.6) d.1) d.2)

  -- the same outcome, behind what was read
  pub live_shift : {A : Type 0} (o : Outcome T A) (R S : Reading T A) (ts mid u : List T) → ts ≡ u ++ mid → ((y : A) (v : List T) → R y v → (z : A) × S z (u ++ v)) → LiveIn R mid o → LiveIn S ts o
  live_shift (Got x rest) R S ts mid u e f l = tt
  live_shift (Bad rest) R S ts mid u e f l = live_after (Bad rest) (λ x r. Got x r) R S ts mid u e f (λ x r. tt) l
  live_shift (Deep rest) R S ts mid u e f l = live_after (Deep rest) (λ x r. Got x r) R S ts mid u e f (λ x r. tt) l

  -- nothing was read yet
  pub live_here : {A : Type 0} (R : Reading T A) (ts : List T) (y : A) (w : List T) → R y w → LiveIn R ts (Bad ts)
  live_here R ts y w d = ([], refl, y, w, d)

  live_cond : {A : Type 0} (b : Bool) (o r : Outcome T A) (R : Reading T A) (ts : List T) → LiveIn R ts o → LiveIn R ts r → LiveIn R ts (cond b o r)
  live_cond true o r R ts a b = a
  live_cond false o r R ts a b = b

  module _ (code : T → ℕ) where
    live_one : {A : Type 0} (c : ℕ) (p : T → Bool) (f : T → A) (R : Reading T A) (z : A) (w : List T) → R z w → Lives (one_at code c p f) R
    live_one c p f R z w d [] = live_here R [] z w d
    live_one c p f R z w d (t ∷ ts) = live_cond ((code t == c) && p t) (Got (f t) ts) (Bad (t ∷ ts)) R (t ∷ ts) tt (live_here R (t ∷ ts) z w d)

    live_opened : {A : Type 0} (c : ℕ) (p : T → Parser T A) (R : Reading T A) (z : A) (w : List T) → R z w
        → ((t : T) (ts : List T) → code t ≡ c → LiveIn R (t ∷ ts) (p t ts)) → Lives (opened code c p) R
    live_opened c p R z w d f [] = live_here R [] z w d
    live_opened {A = A} c p R z w d f (t ∷ ts) = by_test (code t == c) refl
      where
        by_test : (b : Bool) → (code t == c) ≡ b → LiveIn R (t ∷ ts) (cond b (p t ts) (Bad (t ∷ ts)))
        by_test true e = f t ts (eqb-true (code t) c e)
        by_test false e = live_here R (t ∷ ts) z w d

    live_gather : {A : Type 0} (fs : List ℕ) (p : Parser T A) (R : Reading T A) → Sound p R → Lives p R → (n : ℕ) (found : List A) (ts : List T) → LiveIn (Each R) ts (gather code fs p n found ts)
    live_gather fs p R s l zero found ts = tt
    live_gather fs p R s l (suc n) found ts =
        live_cond (next_in code fs ts) (and_then (p ts) (λ x r. gather code fs p n (found ++ x ∷ []) r)) (Got found ts) (Each R) ts
        (live_first (p ts) (λ x r. gather code fs p n (found ++ x ∷ []) r) R (Each R) ts
        (λ y v d. (y ∷ [], [], (v, [], refl, d, refl)))
        (λ x mid e. let i = s ts x mid e in
        live_shift (gather code fs p n (found ++ x ∷ []) mid) (Each R) (Each R) ts mid i.0 i.1 (λ ys v d. (x ∷ ys, (i.0, v, refl, i.2, d))) (live_gather fs p R s l n (found ++ x ∷ []) mid))
        (l ts))
        tt

    module _ {X : Type 0} {Tree : X → Type 0} (firsts : X → List ℕ) (sample : ℕ → (T → Bool) → T)
        (calls : (x : X) → Parser T (Tree x)) (below : (A : Type 0) → Grammar T X Tree A → T → Parser T A)
        (Calls : (x : X) → Reading T (Tree x)) (Below : (A : Type 0) → Grammar T X Tree A → Reading T A)
        (some_call : (x : X) → (z : Tree x) × (w : List T) × Calls x z w)
        (under : (A : Type 0) (a : Grammar T X Tree A) (y : A) (v : List T) → Derives code Calls Below a y v → Below A a y v) where
      abbrev go : {A : Type 0} → Grammar T X Tree A → Parser T A
      go = reads code firsts calls below

      abbrev is : {A : Type 0} → Grammar T X Tree A → Reading T A
      is = Derives code Calls Below

      abbrev fine : {A : Type 0} → Grammar T X Tree A → Bool
      fine = made code sample

      pub some : {A : Type 0} (g : Grammar T X Tree A) → fine g ≡ true → (y : A) × (w : List T) × is g y w
      some (pure x) k = (x, [], (refl, refl))
      some (one c p f) k = let b = both (code (sample c p) == c) (p (sample c p)) k in (f (sample c p), sample c p ∷ [], (sample c p, refl, eqb-true (code (sample c p)) c b.0, b.1, refl))
      some (seq f a b) k = let w = both (fine a) (fine b) k in let i = some a w.0 in let j = some b w.1 in (f i.0 j.0, i.1 ++ j.1, (i.0, j.0, i.1, j.1, refl, refl, i.2, j.2))
      some (either fs a b) k = let w = both (fine a) (fine b) k in let i = some a w.0 in (i.0, i.1, inl i.2)
      some (many fs f a) k = (f [], [], ([], refl, refl))
      some (call x f) k = let i = some_call x in (f i.0, i.1, (i.0, refl, i.2))
      some (spanned f a) k = let i = some a k in (f i.1 i.0, i.1, (i.0, refl, i.2))
      some (nest {A = P} c a) k =
          let b = both (code (sample c (λ _. true)) == c) (fine a) k in
          let i = some a b.1 in
          (i.0, sample c (λ _. true) ∷ i.1, (sample c (λ _. true), i.1, refl, eqb-true (code (sample c (λ _. true))) c b.0, under P a i.0 i.1 i.2))

      module _ (read_is : (A : Type 0) (g : Grammar T X Tree A) → Sound (go g) (is g))
          (calls_live : (x : X) → Lives (calls x) (Calls x))
          (below_live : (A : Type 0) (a : Grammar T X Tree A) → fine a ≡ true → (t : T) (ts : List T) → LiveIn (λ y us. (v : List T) × (us ≡ t ∷ v) × Below A a y v) (t ∷ ts) (below A a t ts)) where
        pub live : {A : Type 0} (g : Grammar T X Tree A) → fine g ≡ true → Lives (reads code firsts calls below g) (Derives code Calls Below g)
        live (pure x) k ts = tt
        live (one c p f) k ts = let i = some (one c p f) k in live_one c p f (is (one c p f)) i.0 i.1 i.2 ts
        live (seq {A = P} {B = Q} f a b) k ts =
            let w = both (fine a) (fine b) k in
            let j = some b w.1 in
            live_first (go a ts) (λ x r. and_then (go b r) (λ z s. Got (f x z) s)) (is a) (is (seq f a b)) ts
            (λ y v d. (f y j.0, j.1, (y, j.0, v, j.1, refl, refl, d, j.2)))
            (λ x mid e. let i = read_is P a ts x mid e in
            live_after (go b mid) (λ z s. Got (f x z) s) (is b) (is (seq f a b)) ts mid i.0 i.1
            (λ y v d. (f x y, (x, y, i.0, v, refl, refl, i.2, d))) (λ z r. tt) (live b w.1 mid))
            (live a w.0 ts)
        live (either fs a b) k ts =
            let w = both (fine a) (fine b) k in
            live_cond (next_in code fs ts) (go a ts) (go b ts) (is (either fs a b)) ts
            (live_map (go a ts) (is a) (is (either fs a b)) ts (λ y v d. inl d) (live a w.0 ts))
            (live_map (go b ts) (is b) (is (either fs a b)) ts (λ y v d. inr d) (live b w.1 ts))
        live (many {A = P} fs f a) k ts =
            live_after (gather code fs (go a) (length ts) [] ts) (λ xs r. Got (f xs) r) (Each (is a)) (is (many fs f a)) ts ts [] refl
            (λ ys v d. (f ys, (ys, refl, d))) (λ xs r. tt) (live_gather fs (go a) (is a) (read_is P a) (live a k) (length ts) [] ts)
        live (call x f) k ts =
            live_after (calls x ts) (λ t r. Got (f t) r) (Calls x) (is (call x f)) ts ts [] refl (λ y v d. (f y, (y, refl, d))) (λ y r. tt) (calls_live x ts)
        live (spanned f a) k ts =
            live_after (go a ts) (λ x r. Got (f (take (length ts - length r) ts) x) r) (is a) (is (spanned f a)) ts ts [] refl (λ y v d. (f v y, (y, refl, d))) (λ y r. tt) (live a k ts)
        live (nest {A = P} c a) k ts =
            let b = both (code (sample c (λ _. true)) == c) (fine a) k in
            let i = some (nest c a) k in
            live_opened c (below P a) (is (nest c a)) i.0 i.1 i.2
            (λ t us e. live_map (below P a t us) (λ y vs. (v : List T) × (vs ≡ t ∷ v) × Below P a y v) (is (nest c a)) (t ∷ us) (λ y vs d. (t, d.0, d.1, e, d.2)) (below_live P a b.1 t us)) ts
