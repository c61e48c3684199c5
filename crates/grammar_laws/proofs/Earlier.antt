-- Where a token opens the level after the last, a reader stops there or before.
use Rattle.std.proofs.Common.{◌≡◌, ℕ, suc, zero, ◌-◌, ◌<◌, ◌≤◌, ◌⊎◌, inl, inr, Bool, true, false, not, ◌&&◌, cond, ◌==◌, List, [], ◌∷◌, ◌++◌, length, take, refl, sym, ◌∙◌, ap, subst, arith, length-append}
use Rattle.grammar_laws.specs.Grammar.{Outcome, Got, Bad, Deep, Parser, Grammar, pure, one, seq, either, many, call, spanned, nest, and_then, nullable, next_in, one_at, opened, gather, reads}
use Rattle.grammar_laws.specs.Check.{decided}
use Rattle.grammar_laws.specs.Laws.{Same}
use Rattle.grammar_laws.proofs.Steps.{both, got_before, got_is, bad_got, chosen}
use Rattle.grammar_laws.proofs.Again.{Case, Again}

abbrev pub DeepPair : {T A : Type 0} → Outcome T A → Outcome T A → Type 0
DeepPair (Got x r) o = Unit {0}
DeepPair (Bad r) o = Unit {0}
DeepPair (Deep r) (Got y s) = length s < length r
DeepPair (Deep r) (Bad s) = Unit {0}
DeepPair (Deep r) (Deep s) = Unit {0}

-- a reader takes from the front
abbrev pub Shrinks : {T A : Type 0} → Parser T A → Type 0
Shrinks {T = T} {A = A} p = (ts : List T) (y : A) (r : List T) → p ts ≡ Got y r → length r ≤ length ts

module _ {T : Type 0} where
  pub same_refl : (ts : List T) → Same ts ts
  same_refl [] = tt
  same_refl (t ∷ ts) = refl

  pub agree : {A : Type 0} (p q : Parser T A) (ts : List T) → Again p q → (x : A) (mid : List T) → p ts ≡ Got x mid → q ts ≡ Got x mid
  agree {A = A} p q ts a x mid e =
      let P : Outcome T A → Type 0 = λ o. Case q ts o in
      let c = subst P e (a ts) in
      ap q c.1 ∙ c.2 mid (same_refl mid)

  pub deep_less : {A : Type 0} (r mid : List T) (w : Outcome T A) → length mid < length r → ((y : A) (s : List T) → w ≡ Got y s → length s ≤ length mid) → DeepPair (Deep r) w
  deep_less r mid (Got y s) l f = let k = f y s refl in omega arith
  deep_less r mid (Bad s) l f = tt
  deep_less r mid (Deep s) l f = tt

  pair_then : {A B : Type 0} (o o' : Outcome T A) (j k : A → Parser T B) → DeepPair o o' → ((x : A) (mid : List T) → o ≡ Got x mid → o' ≡ Got x mid)
      → ((x : A) (mid : List T) → DeepPair (j x mid) (k x mid)) → ((x : A) → Shrinks (k x)) → DeepPair (and_then o j) (and_then o' k)
  pair_then {B = B} (Got x mid) o' j k d a f s = let P : Outcome T _ → Type 0 = λ v. DeepPair (j x mid) (and_then v k) in subst P (sym (a x mid refl)) (f x mid)
  pair_then (Bad r) o' j k d a f s = tt
  pair_then (Deep r) (Got y mid) j k d a f s = deep_less r mid (k y mid) d (λ z w e. s y mid z w e)
  pair_then (Deep r) (Bad w) j k d a f s = tt
  pair_then (Deep r) (Deep w) j k d a f s = tt

  pair_cond : {A : Type 0} (b : Bool) (o r o' r' : Outcome T A) → DeepPair o o' → DeepPair r r' → DeepPair (cond b o r) (cond b o' r')
  pair_cond true o r o' r' d e = d
  pair_cond false o r o' r' d e = e

  -- what is not deep
  got_or_bad : {A : Type 0} (b : Bool) (x : A) (r s : List T) (w : Outcome T A) → DeepPair (cond b (Got x r) (Bad s)) w
  got_or_bad true x r s w = tt
  got_or_bad false x r s w = tt

  then_shrinks : {A B : Type 0} (p : Parser T A) (k : A → Parser T B) → Shrinks p → ((x : A) → Shrinks (k x)) → Shrinks (λ ts. and_then (p ts) k)
  then_shrinks p k s f ts y r e =
      let b = got_before (p ts) k y r e in
      let i = s ts b.0 b.1 b.2 in
      let j = f b.0 b.1 y r b.3 in omega arith

  got_shrinks : {A : Type 0} (x : A) → Shrinks {T = T} (λ ts. Got x ts)
  got_shrinks x ts y r e = let q = got_is x y ts r e in let k : length ts ≡ length r = ap length q.1 in omega arith

  same_got : {B : Type 0} (o : Outcome T B) (x : B) (r : List T) → and_then o (λ ys s. Got ys s) ≡ Got x r → o ≡ Got x r
  same_got (Got y s) x r e = e
  same_got (Bad s) x r e = cc
  same_got (Deep s) x r e = cc

  module _ (code : T → ℕ) where
    gather_shrinks : {A : Type 0} (fs : List ℕ) (p : Parser T A) → Shrinks p → (n : ℕ) (found : List A) → Shrinks (gather code fs p n found)
    gather_shrinks fs p s zero found ts y r e = got_shrinks found ts y r e
    gather_shrinks fs p s (suc n) found ts y r e =
        elim (chosen (next_in code fs ts) (and_then (p ts) (λ x v. gather code fs p n (found ++ x ∷ []) v)) (Got found ts) (Got y r) e) [
          | inl h ↦ then_shrinks p (λ x v. gather code fs p n (found ++ x ∷ []) v) s (λ x. gather_shrinks fs p s n (found ++ x ∷ [])) ts y r h.1
          | inr h ↦ got_shrinks found ts y r h.1
        ]

    pair_one : {A : Type 0} (c : ℕ) (p : T → Bool) (f : T → A) (ts : List T) (w : Outcome T A) → DeepPair (one_at code c p f ts) w
    pair_one c p f [] w = tt
    pair_one c p f (t ∷ ts) w = got_or_bad ((code t == c) && p t) (f t) ts (t ∷ ts) w

    pair_opened : {A : Type 0} (c : ℕ) (p q : T → Parser T A) → ((t : T) (ts : List T) → DeepPair (p t ts) (q t ts)) → (ts : List T) → DeepPair (opened code c p ts) (opened code c q ts)
    pair_opened c p q f [] = tt
    pair_opened c p q f (t ∷ ts) = pair_cond (code t == c) (p t ts) (Bad (t ∷ ts)) (q t ts) (Bad (t ∷ ts)) (f t ts) tt

    pair_gather : {A : Type 0} (fs : List ℕ) (p q : Parser T A) → Again p q → ((ts : List T) → DeepPair (p ts) (q ts)) → Shrinks q → (n : ℕ) (found : List A) (ts : List T)
        → DeepPair (gather code fs p n found ts) (gather code fs q n found ts)
    pair_gather fs p q a d s zero found ts = tt
    pair_gather fs p q a d s (suc n) found ts =
        pair_cond (next_in code fs ts) (and_then (p ts) (λ x r. gather code fs p n (found ++ x ∷ []) r)) (Got found ts) (and_then (q ts) (λ x r. gather code fs q n (found ++ x ∷ []) r)) (Got found ts)
        (pair_then (p ts) (q ts) (λ x r. gather code fs p n (found ++ x ∷ []) r) (λ x r. gather code fs q n (found ++ x ∷ []) r) (d ts) (agree p q ts a)
        (λ x mid. pair_gather fs p q a d s n (found ++ x ∷ []) mid) (λ x. gather_shrinks fs q s n (found ++ x ∷ [])))
        tt

    module _ {X : Type 0} {Tree : X → Type 0} (firsts follows : X → List ℕ)
        (calls calls' : (x : X) → Parser T (Tree x)) (below below' : (A : Type 0) → Grammar T X Tree A → T → Parser T A)
        (all_again : (A : Type 0) (g : Grammar T X Tree A) → decided firsts follows g ≡ true → Again (reads code firsts calls below g) (reads code firsts calls' below' g))
        (all_shrink : (A : Type 0) (g : Grammar T X Tree A) → Shrinks (reads code firsts calls' below' g))
        (calls_again : (x : X) → Again (calls x) (calls' x))
        (calls_pair : (x : X) (ts : List T) → DeepPair (calls x ts) (calls' x ts))
        (below_pair : (A : Type 0) (a : Grammar T X Tree A) → decided firsts follows a ≡ true → (t : T) (ts : List T) → DeepPair (below A a t ts) (below' A a t ts)) where
      abbrev go : {A : Type 0} → Grammar T X Tree A → Parser T A
      go = reads code firsts calls below

      abbrev go' : {A : Type 0} → Grammar T X Tree A → Parser T A
      go' = reads code firsts calls' below'

      abbrev test : {A : Type 0} → Grammar T X Tree A → Bool
      test = decided firsts follows

      pub deep_pair : {A : Type 0} (g : Grammar T X Tree A) → test g ≡ true → (ts : List T) → DeepPair (reads code firsts calls below g ts) (reads code firsts calls' below' g ts)
      deep_pair (pure x) k ts = tt
      deep_pair (one c p f) k ts = pair_one c p f ts (one_at code c p f ts)
      deep_pair (seq {A = P} {B = Q} f a b) k ts =
          let t = both (test a && test b) _ k in
          let w = both (test a) (test b) t.0 in
          pair_then (go a ts) (go' a ts) (λ x r. and_then (go b r) (λ y s. Got (f x y) s)) (λ x r. and_then (go' b r) (λ y s. Got (f x y) s)) (deep_pair a w.0 ts) (agree (go a) (go' a) ts (all_again P a w.0))
          (λ x mid. pair_then (go b mid) (go' b mid) (λ y s. Got (f x y) s) (λ y s. Got (f x y) s) (deep_pair b w.1 mid) (agree (go b) (go' b) mid (all_again Q b w.1)) (λ y s. tt) (λ y. got_shrinks (f x y)))
          (λ x. then_shrinks (go' b) (λ y s. Got (f x y) s) (all_shrink Q b) (λ y. got_shrinks (f x y)))
      deep_pair (either fs a b) k ts =
          let t = both (test a && test b) _ k in
          let w = both (test a) (test b) t.0 in
          pair_cond (next_in code fs ts) (go a ts) (go b ts) (go' a ts) (go' b ts) (deep_pair a w.0 ts) (deep_pair b w.1 ts)
      deep_pair (many {A = P} fs f a) k ts =
          let t = both (test a && not (nullable a)) _ k in
          let w = both (test a) (not (nullable a)) t.0 in
          pair_then (gather code fs (go a) (length ts) [] ts) (gather code fs (go' a) (length ts) [] ts) (λ xs r. Got (f xs) r) (λ xs r. Got (f xs) r)
          (pair_gather fs (go a) (go' a) (all_again P a w.0) (deep_pair a w.0) (all_shrink P a) (length ts) [] ts)
          (λ xs mid e. many_agree P fs a k ts xs mid e) (λ xs r. tt) (λ xs. got_shrinks (f xs))
        where
          many_agree : (P : Type 0) (fs : List ℕ) (a : Grammar T X Tree P) → decided firsts follows (many fs (λ (ys : List P). ys) a) ≡ true → (ts : List T) (xs : List P) (mid : List T)
              → gather code fs (go a) (length ts) [] ts ≡ Got xs mid → gather code fs (go' a) (length ts) [] ts ≡ Got xs mid
          many_agree P fs a k ts xs mid e =
              let i = agree (go (many fs (λ ys. ys) a)) (go' (many fs (λ ys. ys) a)) ts (all_again (List P) (many fs (λ ys. ys) a) k) xs mid (ap (λ o. and_then o (λ ys r. Got ys r)) e) in
              same_got (gather code fs (go' a) (length ts) [] ts) xs mid i
      deep_pair (call x f) k ts = pair_then (calls x ts) (calls' x ts) (λ t r. Got (f t) r) (λ t r. Got (f t) r) (calls_pair x ts) (agree (calls x) (calls' x) ts (calls_again x)) (λ y r. tt) (λ y. got_shrinks (f y))
      deep_pair (spanned {A = P} f a) k ts =
          pair_then (go a ts) (go' a ts) (λ x r. Got (f (take (length ts - length r) ts) x) r) (λ x r. Got (f (take (length ts - length r) ts) x) r) (deep_pair a k ts) (agree (go a) (go' a) ts (all_again P a k)) (λ y r. tt)
          (λ y us z r e. let q = got_is (f (take (length ts - length us) ts) y) z us r e in let n : length us ≡ length r = ap length q.1 in omega arith)
      deep_pair (nest {A = P} c a) k ts = pair_opened c (below P a) (below' P a) (below_pair P a k) ts

-- complete, or stopped before the end
abbrev pub Late : {T A : Type 0} → Parser T A → List T → ℕ → Type 0
Late {T = T} p ts n = (w : List T) × (p ts ≡ Deep w) × (n ≤ length w)

module _ {T : Type 0} where
  got_or_late_by : {A : Type 0} (p q : Parser T A) (ts : List T) (y : A) (rest : List T) (o : Outcome T A) → p ts ≡ o → Case q ts o → DeepPair o (q ts) → ((x : A) (mid : List T) → o ≡ Got x mid → q ts ≡ Got x mid) → q ts ≡ Got y rest
      → (p ts ≡ Got y rest) ⊎ Late p ts (length rest)
  got_or_late_by p q ts y rest (Got x r) e c d f h = inl (e ∙ sym (f x r refl) ∙ h)
  got_or_late_by p q ts y rest (Bad r) e c d f h = bad_got r rest y (sym (ap q c.1 ∙ c.2 r (same_refl r)) ∙ h)
  got_or_late_by {A = A} p q ts y rest (Deep r) e c d f h =
      let P : Outcome T A → Type 0 = λ v. DeepPair (Deep r) v in
      let l : length rest < length r = subst P h d in
      inr (r, e, omega arith)

  pub got_or_late : {A : Type 0} (p q : Parser T A) (ts : List T) (y : A) (rest : List T) → Again p q → DeepPair (p ts) (q ts) → q ts ≡ Got y rest → (p ts ≡ Got y rest) ⊎ Late p ts (length rest)
  got_or_late {A = A} p q ts y rest a d h = got_or_late_by p q ts y rest (p ts) refl (a ts) d (agree p q ts a) h

  pub late_then : {A B : Type 0} (p : Parser T A) (k : A → Parser T B) (ts : List T) (n : ℕ) → Late p ts n → Late (λ us. and_then (p us) k) ts n
  late_then p k ts n l = (l.0, ap (λ o. and_then o k) l.1, l.2)

  behind_more : (v : List T) (t : T) (r : List T) (n : ℕ) → length (v ++ t ∷ r) ≤ n → length (t ∷ r) ≤ n
  behind_more v t r n l = omega (arith, length-append v (t ∷ r))

  pub late_far : {A : Type 0} (p : Parser T A) (ts v : List T) (t : T) (r : List T) → Late p ts (length (v ++ t ∷ r)) → Late p ts (length (t ∷ r))
  late_far p ts v t r l = (l.0, l.1, behind_more v t r (length l.0) l.2)

  -- read, and then late
  pub late_after : {A B : Type 0} (p : Parser T A) (k : A → Parser T B) (ts mid : List T) (x : A) (n : ℕ) → p ts ≡ Got x mid → Late (k x) mid n → Late (λ us. and_then (p us) k) ts n
  late_after p k ts mid x n e l = (l.0, ap (λ o. and_then o k) e ∙ l.1, l.2)

  pub late_either : {A B : Type 0} (p : Parser T A) (k : A → Parser T B) (ts v : List T) (t : T) (r : List T) (x : A) → (p ts ≡ Got x (v ++ t ∷ r)) ⊎ Late p ts (length (v ++ t ∷ r)) → Late (k x) (v ++ t ∷ r) (length (t ∷ r))
      → Late (λ us. and_then (p us) k) ts (length (t ∷ r))
  late_either p k ts v t r x d l = elim d [
    | inl e ↦ late_after p k ts (v ++ t ∷ r) x (length (t ∷ r)) e l
    | inr e ↦ late_then p k ts (length (t ∷ r)) (late_far p ts v t r e)
  ]

  pub late_along : {A : Type 0} (p : Parser T A) (ts us : List T) (n : ℕ) → us ≡ ts → Late p ts n → Late p us n
  late_along p ts us n e l = (l.0, ap p e ∙ l.1, l.2)

  pub late_farther : {A : Type 0} (p : Parser T A) (ts u v : List T) (t : T) (r : List T) → Late p ts (length (u ++ (v ++ t ∷ r))) → Late p ts (length (t ∷ r))
  late_farther p ts u v t r l = (l.0, l.1, far2 u v t r (length l.0) l.2)
    where
      far2 : (u v : List T) (t : T) (r : List T) (n : ℕ) → length (u ++ (v ++ t ∷ r)) ≤ n → length (t ∷ r) ≤ n
      far2 u v t r n h = omega (arith, length-append u (v ++ t ∷ r), length-append v (t ∷ r))
