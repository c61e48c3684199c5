-- A reader goes by what it has read and the next token, and more levels change no answer but TooDeep.
use Rattle.std.proofs.Common.{◌≡◌, ℕ, suc, zero, ◌-◌, ◌<◌, ◌≤◌, Bool, true, false, not, ◌&&◌, cond, if◌then◌else◌, ◌==◌, List, [], ◌∷◌, ◌++◌, length, take, refl, sym, ◌∙◌, ap, subst, arith, append_assoc}
use Rattle.grammar_laws.specs.Grammar.{Outcome, Got, Bad, Deep, Parser, Grammar, pure, one, seq, either, many, call, spanned, nest, and_then, has, nullable, next_in, one_at, opened, gather, reads}
use Rattle.grammar_laws.specs.Check.{decided}
use Rattle.grammar_laws.specs.Laws.{Same}
use Rattle.grammar_laws.proofs.Steps.{both, taken, taken_from}
use Rattle.grammar_laws.proofs.Sets.{untrue}

abbrev pub Case : {T A : Type 0} → Parser T A → List T → Outcome T A → Type 0
Case {T = T} p ts (Got x rest) = (used : List T) × (ts ≡ used ++ rest) × ((other : List T) → Same rest other → p (used ++ other) ≡ Got x other)
Case {T = T} p ts (Bad rest) = (front : List T) × (ts ≡ front ++ rest) × ((other : List T) → Same rest other → p (front ++ other) ≡ Bad other)
Case {T = T} p ts (Deep rest) = Unit {0}

abbrev pub Again : {T A : Type 0} → Parser T A → Parser T A → Type 0
Again {T = T} p q = (ts : List T) → Case q ts (p ts)

module _ {T : Type 0} where
  same_front : (u r s : List T) → Same r s → Same (u ++ r) (u ++ s)
  same_front [] r s h = h
  same_front (t ∷ u) r s h = refl

  same_along : (ts u r s : List T) → ts ≡ u ++ r → Same r s → Same ts (u ++ s)
  same_along ts u r s e h = let P : List T → Type 0 = λ w. Same w (u ++ s) in subst P (sym e) (same_front u r s h)

  next_same : (code : T → ℕ) (fs : List ℕ) (r s : List T) → Same r s → next_in code fs s ≡ next_in code fs r
  next_same code fs [] [] h = refl
  next_same code fs [] (u ∷ us) h = absurd h
  next_same code fs (t ∷ ts) [] h = absurd h
  next_same code fs (t ∷ ts) (u ∷ us) h = ap (λ v. has (code v) fs) (sym h)

  case_via : {A : Type 0} (o : Outcome T A) (p q : Parser T A) (ts : List T) → ((other : List T) → Same ts other → q other ≡ p other) → Case p ts o → Case q ts o
  case_via (Got x rest) p q ts f c = (c.0, c.1, λ s h. f (c.0 ++ s) (same_along ts c.0 rest s c.1 h) ∙ c.2 s h)
  case_via (Bad rest) p q ts f c = (c.0, c.1, λ s h. f (c.0 ++ s) (same_along ts c.0 rest s c.1 h) ∙ c.2 s h)
  case_via (Deep rest) p q ts f c = c

  got_again : {A : Type 0} (y : A) → Again {T = T} (λ ts. Got y ts) (λ ts. Got y ts)
  got_again y ts = ([], refl, λ s h. refl)

  -- the second outcome, after the first
  after_case : {A B : Type 0} (o : Outcome T B) (p : Parser T A) (k : A → Parser T B) (x : A) (ts mid u : List T) → ts ≡ u ++ mid
      → ((other : List T) → Same mid other → p (u ++ other) ≡ Got x other) → Case (k x) mid o → Case (λ s. and_then (p s) k) ts o
  after_case (Got y rest) p k x ts mid u e h c = (
    u ++ c.0,
    e ∙ ap (λ r. u ++ r) c.1 ∙ sym (append_assoc u c.0 rest),
    λ s d. ap (λ r. and_then (p r) k) (append_assoc u c.0 s) ∙ ap (λ o. and_then o k) (h (c.0 ++ s) (same_along mid c.0 rest s c.1 d)) ∙ c.2 s d,
  )
  after_case (Bad rest) p k x ts mid u e h c = (
    u ++ c.0,
    e ∙ ap (λ r. u ++ r) c.1 ∙ sym (append_assoc u c.0 rest),
    λ s d. ap (λ r. and_then (p r) k) (append_assoc u c.0 s) ∙ ap (λ o. and_then o k) (h (c.0 ++ s) (same_along mid c.0 rest s c.1 d)) ∙ c.2 s d,
  )
  after_case (Deep rest) p k x ts mid u e h c = tt

  -- where the rest is read alike at this one place
  then_here : {A B : Type 0} (o : Outcome T A) (p : Parser T A) (k j : A → Parser T B) (ts : List T) → Case p ts o → ((x : A) (mid : List T) → o ≡ Got x mid → Case (k x) mid (j x mid)) → Case (λ s. and_then (p s) k) ts (and_then o j)
  then_here (Got x mid) p k j ts c f = after_case (j x mid) p k x ts mid c.0 c.1 c.2 (f x mid refl)
  then_here (Bad rest) p k j ts c f = (c.0, c.1, λ s h. ap (λ o. and_then o k) (c.2 s h))
  then_here (Deep rest) p k j ts c f = c

  pub then_same : {A B : Type 0} (o : Outcome T A) (k j : A → Parser T B) → ((x : A) (r : List T) → o ≡ Got x r → k x r ≡ j x r) → and_then o k ≡ and_then o j
  then_same (Got x r) k j f = f x r refl
  then_same (Bad r) k j f = refl
  then_same (Deep r) k j f = refl

  then_case : {A B : Type 0} (o : Outcome T A) (p : Parser T A) (k j : A → Parser T B) (ts : List T) → Case p ts o → ((x : A) → Again (j x) (k x)) → Case (λ s. and_then (p s) k) ts (and_then o j)
  then_case (Got x mid) p k j ts c f = after_case (j x mid) p k x ts mid c.0 c.1 c.2 (f x mid)
  then_case (Bad rest) p k j ts c f = (c.0, c.1, λ s h. ap (λ o. and_then o k) (c.2 s h))
  then_case (Deep rest) p k j ts c f = c

  then_again : {A B : Type 0} (p q : Parser T A) (j k : A → Parser T B) → Again p q → ((x : A) → Again (j x) (k x)) → Again (λ s. and_then (p s) j) (λ s. and_then (q s) k)
  then_again p q j k a f ts = then_case (p ts) q k j ts (a ts) f

  span_case : {A B : Type 0} (o : Outcome T A) (f : List T → A → B) (p : Parser T A) (ts : List T) → Case p ts o
      → Case (λ s. and_then (p s) (λ x r. Got (f (take (length s - length r) s) x) r)) ts (and_then o (λ x r. Got (f (take (length ts - length r) ts) x) r))
  span_case (Got x rest) f p ts c = (
    c.0,
    c.1,
    λ s h. ap (λ o. and_then o (λ x r. Got (f (take (length (c.0 ++ s) - length r) (c.0 ++ s)) x) r)) (c.2 s h)
        ∙ ap (λ v. Got (f v x) s) (taken c.0 s ∙ sym (taken_from ts c.0 rest c.1)),
  )
  span_case (Bad rest) f p ts c = (c.0, c.1, λ s h. ap (λ o. and_then o (λ x r. Got (f (take (length (c.0 ++ s) - length r) (c.0 ++ s)) x) r)) (c.2 s h))
  span_case (Deep rest) f p ts c = c

  -- one token more in front
  front_case : {A : Type 0} (o : Outcome T A) (p q : Parser T A) (t : T) (ts : List T) → ((s : List T) → q (t ∷ s) ≡ p s) → Case p ts o → Case q (t ∷ ts) o
  front_case (Got x rest) p q t ts f c = (t ∷ c.0, ap (λ r. t ∷ r) c.1, λ s h. f (c.0 ++ s) ∙ c.2 s h)
  front_case (Bad rest) p q t ts f c = (t ∷ c.0, ap (λ r. t ∷ r) c.1, λ s h. f (c.0 ++ s) ∙ c.2 s h)
  front_case (Deep rest) p q t ts f c = tt

  pub bad_case : {A : Type 0} (p : Parser T A) (ts : List T) → ((s : List T) → Same ts s → p s ≡ Bad s) → Case p ts (Bad ts)
  bad_case p ts f = ([], refl, f)

  module _ (code : T → ℕ) where
    one_again : {A : Type 0} (c : ℕ) (p : T → Bool) (f : T → A) → Again (one_at code c p f) (one_at code c p f)
    one_again c p f [] = bad_case (one_at code c p f) [] (λ s h. empty s h)
      where
        empty : (s : List T) → Same [] s → one_at code c p f s ≡ Bad s
        empty [] h = refl
        empty (t ∷ s) h = absurd h
    one_again c p f (t ∷ ts) = by_test ((code t == c) && p t) refl
      where
        refused : (code t == c) && p t ≡ false → (s : List T) → Same (t ∷ ts) s → one_at code c p f s ≡ Bad s
        refused e [] h = absurd h
        refused e (u ∷ s) h = ap (λ b. cond b (Got (f u) s) (Bad (u ∷ s))) (ap (λ v. (code v == c) && p v) (sym h) ∙ e)

        by_test : (b : Bool) → (code t == c) && p t ≡ b → Case (one_at code c p f) (t ∷ ts) (cond b (Got (f t) ts) (Bad (t ∷ ts)))
        by_test true e = (t ∷ [], refl, λ s h. ap (λ b. cond b (Got (f t) s) (Bad (t ∷ s))) e)
        by_test false e = bad_case (one_at code c p f) (t ∷ ts) (refused e)

    opened_again : {A : Type 0} (c : ℕ) (p q : T → Parser T A) → ((t : T) → Again (p t) (q t)) → Again (opened code c p) (opened code c q)
    opened_again c p q a [] = bad_case (opened code c q) [] (λ s h. empty s h)
      where
        empty : (s : List T) → Same [] s → opened code c q s ≡ Bad s
        empty [] h = refl
        empty (t ∷ s) h = absurd h
    opened_again c p q a (t ∷ ts) = by_test (code t == c) refl
      where
        refused : (code t == c) ≡ false → (s : List T) → Same (t ∷ ts) s → opened code c q s ≡ Bad s
        refused e [] h = absurd h
        refused e (u ∷ s) h = ap (λ b. cond b (q u s) (Bad (u ∷ s))) (ap (λ v. code v == c) (sym h) ∙ e)

        by_test : (b : Bool) → (code t == c) ≡ b → Case (opened code c q) (t ∷ ts) (cond b (p t ts) (Bad (t ∷ ts)))
        by_test true e = front_case (p t ts) (q t) (opened code c q) t ts (λ s. ap (λ b. cond b (q t s) (Bad (t ∷ s))) e) (a t ts)
        by_test false e = bad_case (opened code c q) (t ∷ ts) (refused e)

    abbrev pub Eats : {A : Type 0} → Parser T A → Type 0
    Eats {A = A} p = (ts : List T) (x : A) (rest : List T) → p ts ≡ Got x rest → length rest < length ts

    module _ {A : Type 0} (fs : List ℕ) where
      abbrev full : Parser T A → List A → Parser T (List A)
      full p found ts = gather code fs p (length ts) found ts

      enough : (p : Parser T A) → Eats p → (n m : ℕ) (found : List A) (ts : List T) → length ts ≤ n → length ts ≤ m → gather code fs p n found ts ≡ gather code fs p m found ts
      enough p eats zero zero found ts k l = refl
      enough p eats zero (suc m) found [] k l = refl
      enough p eats (suc n) zero found [] k l = refl
      enough p eats zero (suc m) found (t ∷ ts) k l = let no : ⊥ = omega arith in absurd no
      enough p eats (suc n) zero found (t ∷ ts) k l = let no : ⊥ = omega arith in absurd no
      enough p eats (suc n) (suc m) found ts k l =
          ap (λ o. cond (next_in code fs ts) o (Got found ts))
          (then_same (p ts) (λ x r. gather code fs p n (found ++ x ∷ []) r) (λ x r. gather code fs p m (found ++ x ∷ []) r)
          (λ x r e. let less = eats ts x r e in enough p eats n m (found ++ x ∷ []) r (omega arith) (omega arith)))

      full_step : (p : Parser T A) → Eats p → (found : List A) (ts : List T)
          → full p found ts ≡ cond (next_in code fs ts) (and_then (p ts) (λ x r. full p (found ++ x ∷ []) r)) (Got found ts)
      full_step p eats found [] = refl
      full_step p eats found (t ∷ ts) =
          ap (λ o. cond (next_in code fs (t ∷ ts)) o (Got found (t ∷ ts)))
          (then_same (p (t ∷ ts)) (λ x r. gather code fs p (length ts) (found ++ x ∷ []) r) (λ x r. full p (found ++ x ∷ []) r)
          (λ x r e. let less : length r < length (t ∷ ts) = eats (t ∷ ts) x r e in enough p eats (length ts) (length r) (found ++ x ∷ []) r (omega arith) (omega arith)))

      module _ (p q : Parser T A) (a : Again p q) (eats : Eats p) (eats' : Eats q) where
        turn : (found : List A) (ts : List T) → ((x : A) (mid : List T) → p ts ≡ Got x mid → Case (full q (found ++ x ∷ [])) mid (full p (found ++ x ∷ []) mid))
            → (b : Bool) → next_in code fs ts ≡ b → Case (full q found) ts (cond b (and_then (p ts) (λ x r. full p (found ++ x ∷ []) r)) (Got found ts))
        turn found ts ih true e =
            case_via (and_then (p ts) (λ x r. full p (found ++ x ∷ []) r)) (λ s. and_then (q s) (λ x r. full q (found ++ x ∷ []) r)) (full q found) ts
            (λ s h. full_step q eats' found s ∙ ap (λ b. cond b (and_then (q s) (λ x r. full q (found ++ x ∷ []) r)) (Got found s)) (next_same code fs ts s h ∙ e))
            (then_here (p ts) q (λ x r. full q (found ++ x ∷ []) r) (λ x r. full p (found ++ x ∷ []) r) ts (a ts) ih)
        turn found ts ih false e =
            ([], refl, λ s h. full_step q eats' found s ∙ ap (λ b. cond b (and_then (q s) (λ x r. full q (found ++ x ∷ []) r)) (Got found s)) (next_same code fs ts s h ∙ e))

        full_again : (n : ℕ) (found : List A) (ts : List T) → length ts < n → Case (full q found) ts (full p found ts)
        full_again zero found ts k = let no : ⊥ = omega arith in absurd no
        full_again (suc n) found ts k =
            let P : Outcome T (List A) → Type 0 = λ o. Case (full q found) ts o in
            subst P (sym (full_step p eats found ts))
            (turn found ts (λ x mid e. let less = eats ts x mid e in full_again n (found ++ x ∷ []) mid (omega arith)) (next_in code fs ts) refl)

    -- which of two is read
    abbrev choice : {A : Type 0} → List ℕ → Parser T A → Parser T A → Parser T A
    choice fa p q ts = if next_in code fa ts then p ts else q ts

    picks_again : {A : Type 0} (x : Bool) (p q c : Parser T A) (ts : List T) (o r : Outcome T A) → ((s : List T) → Same ts s → c s ≡ (if x then p s else q s)) → Case p ts o → Case q ts r → Case c ts (if x then o else r)
    picks_again true p q c ts o r f a b = case_via o p c ts f a
    picks_again false p q c ts o r f a b = case_via r q c ts f b

    choice_again : {A : Type 0} (fa : List ℕ) (p q p' q' : Parser T A) → Again p p' → Again q q' → Again (choice fa p q) (choice fa p' q')
    choice_again fa p q p' q' a b ts = picks_again (next_in code fa ts) p' q' (choice fa p' q') ts (p ts) (q ts) (λ s h. ap (λ x. if x then p' s else q' s) (next_same code fa ts s h)) (a ts) (b ts)

    module _ {X : Type 0} {Tree : X → Type 0} (firsts follows : X → List ℕ) where
      module _ (calls calls' : (x : X) → Parser T (Tree x)) (below below' : (A : Type 0) → Grammar T X Tree A → T → Parser T A)
          (calls_again : (x : X) → Again (calls x) (calls' x))
          (below_again : (A : Type 0) (a : Grammar T X Tree A) (t : T) → decided firsts follows a ≡ true → Again (below A a t) (below' A a t))
          (eats : (A : Type 0) (a : Grammar T X Tree A) → decided firsts follows a ≡ true → nullable a ≡ false → Eats (reads code firsts calls below a))
          (eats' : (A : Type 0) (a : Grammar T X Tree A) → decided firsts follows a ≡ true → nullable a ≡ false → Eats (reads code firsts calls' below' a)) where
        abbrev go : {A : Type 0} → Grammar T X Tree A → Parser T A
        go = reads code firsts calls below

        abbrev go' : {A : Type 0} → Grammar T X Tree A → Parser T A
        go' = reads code firsts calls' below'

        abbrev test : {A : Type 0} → Grammar T X Tree A → Bool
        test = decided firsts follows

        pub again : {A : Type 0} (g : Grammar T X Tree A) → test g ≡ true → Again (reads code firsts calls below g) (reads code firsts calls' below' g)
        again (pure x) k = got_again x
        again (one c p f) k = one_again c p f
        again (seq f a b) k =
            let t = both (test a && test b) _ k in
            let w = both (test a) (test b) t.0 in
            then_again (go a) (go' a) (λ x r. and_then (go b r) (λ z s. Got (f x z) s)) (λ x r. and_then (go' b r) (λ z s. Got (f x z) s)) (again a w.0)
            (λ x. then_again (go b) (go' b) (λ z s. Got (f x z) s) (λ z s. Got (f x z) s) (again b w.1) (λ z. got_again (f x z)))
        again (either fs a b) k =
            let t = both (test a && test b) _ k in
            let w = both (test a) (test b) t.0 in
            choice_again fs (go a) (go b) (go' a) (go' b) (again a w.0) (again b w.1)
        again (many {A = P} fs f a) k =
            let t = both (test a && not (nullable a)) _ k in
            let w = both (test a) (not (nullable a)) t.0 in
            let n = untrue (nullable a) w.1 in
            then_again (full fs (go a) []) (full fs (go' a) []) (λ xs r. Got (f xs) r) (λ xs r. Got (f xs) r)
            (λ ts. full_again fs (go a) (go' a) (again a w.0) (eats P a w.0 n) (eats' P a w.0 n) (suc (length ts)) [] ts (omega arith))
            (λ xs. got_again (f xs))
        again (call x f) k = then_again (calls x) (calls' x) (λ t r. Got (f t) r) (λ t r. Got (f t) r) (calls_again x) (λ t. got_again (f t))
        again (spanned f a) k = λ ts. span_case (go a ts) f (go' a) ts (again a k ts)
        again (nest {A = P} c a) k = opened_again c (below P a) (below' P a) (λ t. below_again P a t k)
