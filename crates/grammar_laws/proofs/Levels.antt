-- The token at which a reader answers TooDeep opens the level after the last that may be open.
use Rattle.std.proofs.Common.{◌≡◌, ℕ, suc, zero, ◌-◌, ◌⊎◌, inl, inr, Bool, true, false, cond, ◌==◌, List, [], ◌∷◌, ◌++◌, length, take, refl, sym, ◌∙◌, ap, append_assoc}
use Rattle.std.proofs.lemmas.Bool.{eqb-true}
use Rattle.grammar_laws.specs.Grammar.{Outcome, Got, Bad, Deep, Parser, Reading, Grammar, pure, one, seq, either, many, call, spanned, nest, and_then, Each, Derives, next_in, one_at, opened, gather, reads}
use Rattle.grammar_laws.specs.Levels.{Opening, Opens}
use Rattle.grammar_laws.proofs.Sound.{Sound}

abbrev pub DeepIn : {T A : Type 0} → Opening T → List T → Outcome T A → Type 0
DeepIn {T = T} O ts (Got x rest) = Unit {0}
DeepIn {T = T} O ts (Bad rest) = Unit {0}
DeepIn {T = T} O ts (Deep rest) = (front : List T) × (t : T) × (r : List T) × (rest ≡ t ∷ r) × (ts ≡ front ++ rest) × O front t

module _ {T : Type 0} where
  deep_cond : {A : Type 0} (b : Bool) (o r : Outcome T A) (O : Opening T) (ts : List T) → DeepIn O ts o → DeepIn O ts r → DeepIn O ts (cond b o r)
  deep_cond true o r O ts a b = a
  deep_cond false o r O ts a b = b

  -- a reader, and then another behind what it read
  deep_then : {A B : Type 0} (o : Outcome T A) (k : A → Parser T B) (O : Opening T) (ts : List T) → DeepIn O ts o → ((x : A) (mid : List T) → o ≡ Got x mid → DeepIn O ts (k x mid)) → DeepIn O ts (and_then o k)
  deep_then (Got x mid) k O ts d f = f x mid refl
  deep_then (Bad rest) k O ts d f = tt
  deep_then (Deep rest) k O ts d f = d

  deep_map : {A : Type 0} (o : Outcome T A) (O Q : Opening T) (ts : List T) → ((front : List T) (t : T) → O front t → Q front t) → DeepIn O ts o → DeepIn Q ts o
  deep_map (Got x rest) O Q ts f d = tt
  deep_map (Bad rest) O Q ts f d = tt
  deep_map (Deep rest) O Q ts f d = (d.0, d.1, d.2, d.3, d.4, f d.0 d.1 d.5)

  pub deep_behind : {A : Type 0} (o : Outcome T A) (O Q : Opening T) (ts mid u : List T) → ts ≡ u ++ mid → ((front : List T) (t : T) → O front t → Q (u ++ front) t) → DeepIn O mid o → DeepIn Q ts o
  deep_behind (Got x rest) O Q ts mid u e f d = tt
  deep_behind (Bad rest) O Q ts mid u e f d = tt
  deep_behind (Deep rest) O Q ts mid u e f d = (u ++ d.0, d.1, d.2, d.3, e ∙ ap (λ r. u ++ r) d.4 ∙ sym (append_assoc u d.0 rest), f d.0 d.1 d.5)

  module _ (code : T → ℕ) where
    deep_one : {A : Type 0} (c : ℕ) (p : T → Bool) (f : T → A) (O : Opening T) (ts : List T) → DeepIn O ts (one_at code c p f ts)
    deep_one c p f O [] = tt
    deep_one c p f O (t ∷ ts) = deep_cond _ (Got (f t) ts) (Bad (t ∷ ts)) O (t ∷ ts) tt tt

    deep_opened : {A : Type 0} (c : ℕ) (p : T → Parser T A) (O : Opening T) → ((t : T) (ts : List T) → code t ≡ c → DeepIn O (t ∷ ts) (p t ts)) → (ts : List T) → DeepIn O ts (opened code c p ts)
    deep_opened c p O f [] = tt
    deep_opened {A = A} c p O f (t ∷ ts) = by_test (code t == c) refl
      where
        by_test : (b : Bool) → (code t == c) ≡ b → DeepIn O (t ∷ ts) (cond b (p t ts) (Bad (t ∷ ts)))
        by_test true e = f t ts (eqb-true (code t) c e)
        by_test false e = tt

    -- some items, and then one that opens
    abbrev After : {A : Type 0} → Reading T A → Opening T → Opening T
    After {A = A} R O front t = (xs : List A) × (u : List T) × (v : List T) × (front ≡ u ++ v) × Each R xs u × O v t

    deep_gather : {A : Type 0} (fs : List ℕ) (p : Parser T A) (R : Reading T A) (O : Opening T) → Sound p R → ((ts : List T) → DeepIn O ts (p ts)) → (n : ℕ) (found : List A) (ts : List T) → DeepIn (After R O) ts (gather code fs p n found ts)
    deep_gather fs p R O s d zero found ts = tt
    deep_gather fs p R O s d (suc n) found ts =
        deep_cond (next_in code fs ts) (and_then (p ts) (λ x r. gather code fs p n (found ++ x ∷ []) r)) (Got found ts) (After R O) ts
        (deep_then (p ts) (λ x r. gather code fs p n (found ++ x ∷ []) r) (After R O) ts
        (deep_map (p ts) O (After R O) ts (λ front t o. ([], [], front, refl, refl, o)) (d ts))
        (λ x mid e. let i = s ts x mid e in
        deep_behind (gather code fs p n (found ++ x ∷ []) mid) (After R O) (After R O) ts mid i.0 i.1
        (λ front t o. (x ∷ o.0, i.0 ++ o.1, o.2, ap (λ w. i.0 ++ w) o.3 ∙ sym (append_assoc i.0 o.1 o.2), (i.0, o.1, refl, i.2, o.4), o.5)) (deep_gather fs p R O s d n (found ++ x ∷ []) mid)))
        tt

    module _ {X : Type 0} {Tree : X → Type 0} (firsts : X → List ℕ)
        (calls : (x : X) → Parser T (Tree x)) (below : (A : Type 0) → Grammar T X Tree A → T → Parser T A)
        (Calls : (x : X) → Reading T (Tree x)) (Below : (A : Type 0) → Grammar T X Tree A → Reading T A)
        (names : X → Opening T) (inner : (A : Type 0) → Grammar T X Tree A → Opening T) (here : Type 0)
        (read_is : (A : Type 0) (g : Grammar T X Tree A) → Sound (reads code firsts calls below g) (Derives code Calls Below g))
        (calls_deep : (x : X) (ts : List T) → DeepIn (names x) ts (calls x ts))
        (below_deep : (A : Type 0) (a : Grammar T X Tree A) (t : T) (ts : List T) → DeepIn (λ front s. (here × (front ≡ []) × (s ≡ t)) ⊎ ((us : List T) × (front ≡ t ∷ us) × inner A a us s)) (t ∷ ts) (below A a t ts)) where
      abbrev go : {A : Type 0} → Grammar T X Tree A → Parser T A
      go = reads code firsts calls below

      abbrev O : {A : Type 0} → Grammar T X Tree A → Opening T
      O = Opens code Calls Below names inner here

      pub deep : {A : Type 0} (g : Grammar T X Tree A) (ts : List T) → DeepIn (Opens code Calls Below names inner here g) ts (reads code firsts calls below g ts)
      deep (pure x) ts = tt
      deep (one c p f) ts = deep_one c p f (O (one c p f)) ts
      deep (seq {A = P} f a b) ts =
          deep_then (go a ts) (λ x r. and_then (go b r) (λ y s. Got (f x y) s)) (O (seq f a b)) ts
          (deep_map (go a ts) (O a) (O (seq f a b)) ts (λ front t o. inl o) (deep a ts))
          (λ x mid e. let i = read_is P a ts x mid e in
          deep_then (go b mid) (λ y s. Got (f x y) s) (O (seq f a b)) ts
          (deep_behind (go b mid) (O b) (O (seq f a b)) ts mid i.0 i.1 (λ front t o. inr (x, i.0, front, refl, i.2, o)) (deep b mid)) (λ y s e'. tt))
      deep (either fs a b) ts =
          deep_cond (next_in code fs ts) (go a ts) (go b ts) (O (either fs a b)) ts
          (deep_map (go a ts) (O a) (O (either fs a b)) ts (λ front t o. inl o) (deep a ts)) (deep_map (go b ts) (O b) (O (either fs a b)) ts (λ front t o. inr o) (deep b ts))
      deep (many {A = P} fs f a) ts =
          deep_then (gather code fs (go a) (length ts) [] ts) (λ xs r. Got (f xs) r) (O (many fs f a)) ts
          (deep_gather fs (go a) (Derives code Calls Below a) (O a) (read_is P a) (deep a) (length ts) [] ts) (λ xs r e. tt)
      deep (call x f) ts = deep_then (calls x ts) (λ t r. Got (f t) r) (names x) ts (calls_deep x ts) (λ y r e. tt)
      deep (spanned f a) ts = deep_then (go a ts) (λ x r. Got (f (take (length ts - length r) ts) x) r) (O a) ts (deep a ts) (λ y r e. tt)
      deep (nest {A = P} c a) ts =
          deep_opened c (below P a) (O (nest c a))
          (λ t us e. deep_map (below P a t us) (λ front s. (here × (front ≡ []) × (s ≡ t)) ⊎ ((vs : List T) × (front ≡ t ∷ vs) × inner P a vs s)) (O (nest c a)) (t ∷ us)
          (λ front s o. elim o [ inl h ↦ inl (h.0, h.1, ap code h.2 ∙ e) | inr h ↦ inr (t, h.0, h.1, e, h.2) ]) (below_deep P a t us)) ts
