-- What is derived is read, and nothing else is derived.
use Rattle.std.proofs.Common.{◌≡◌, ℕ, suc, zero, ◌+◌, ◌-◌, ◌≤◌, inl, inr, Bool, true, false, not, ◌&&◌, cond, if◌then◌else◌, ◌==◌, List, [], ◌∷◌, ◌++◌, length, take, refl, sym, ◌∙◌, ap, arith, append_assoc, length-append}
use Rattle.std.proofs.lemmas.Bool.{eq-eqb}
use Rattle.std.proofs.lemmas.List.{append-nil}
use Rattle.grammar_laws.specs.Grammar.{Outcome, Got, Bad, Parser, Reading, Grammar, pure, one, seq, either, many, call, spanned, nest, and_then, has, nullable, first, Each, Derives, Below, Named, Within, next_in, one_at, opened, gather, reads, below, named, within}
use Rattle.grammar_laws.specs.Check.{apart, all_in, follow, decided, body_decided}
use Rattle.grammar_laws.proofs.Steps.{both, taken}
use Rattle.grammar_laws.proofs.Sets.{all_in_has, untrue, apart_not_first, Begins, begins_seq, begins_left, begins_right, begins_more, begins_along, begins_one, begins_wider, stops_seq, stops_more, stops_left, stops_right, stops_narrower}

abbrev pub Complete : {T A : Type 0} → (T → ℕ) → List ℕ → Parser T A → Reading T A → Type 0
Complete {T = T} {A = A} code fol p R = (y : A) (used rest : List T) → R y used → next_in code fol rest ≡ false → p (used ++ rest) ≡ Got y rest

then_got : {T A B : Type 0} (o : Outcome T A) (k : A → Parser T B) (x : A) (r : List T) (w : Outcome T B) → o ≡ Got x r → k x r ≡ w → and_then o k ≡ w
then_got o k x r w e h = ap (λ v. and_then v k) e ∙ h

pub take_then : {A : Type 0} (b : Bool) (x y : A) → b ≡ true → cond b x y ≡ x
take_then b x y e = ap (λ v. cond v x y) e

pub take_else : {A : Type 0} (b : Bool) (x y : A) → b ≡ false → cond b x y ≡ y
take_else b x y e = ap (λ v. cond v x y) e

module _ {T : Type 0} (code : T → ℕ) where
  one_complete : {A : Type 0} (c : ℕ) (p : T → Bool) (f : T → A) (t : T) (rest : List T) → code t ≡ c → p t ≡ true → one_at code c p f (t ∷ rest) ≡ Got (f t) rest
  one_complete c p f t rest e h =
      take_then ((code t == c) && p t) (Got (f t) rest) (Bad (t ∷ rest)) (ap (λ b. b && p t) (eq-eqb (code t) c e) ∙ h)

  pub each_begins : {A : Type 0} (fs : List ℕ) (n : Bool) (R : Reading T A) → ((y : A) (ts : List T) → R y ts → Begins code n fs ts) → (xs : List A) (ts : List T) → Each R xs ts → Begins code true fs ts
  each_begins fs n R s [] ts d = begins_along code true fs ts [] d refl
  each_begins fs n R s (x ∷ xs) ts d = begins_along code true fs ts (d.0 ++ d.1) d.2 (begins_more code n fs d.0 d.1 (s x d.0 d.3) (each_begins fs n R s xs d.1 d.4))

  shorter : (fs : List ℕ) (n : ℕ) (u v used : List T) → Begins code false fs u → used ≡ u ++ v → length used ≤ suc n → length v ≤ n
  shorter fs n [] v used b e l = cc
  shorter fs n (t ∷ u) v used b e l = let k : length used ≡ suc (length u + length v) = ap length e ∙ ap suc (length-append u v) in omega arith

  no_room : {B : Type 0} (fs : List ℕ) (u v used : List T) → Begins code false fs u → used ≡ u ++ v → length used ≤ 0 → B
  no_room fs [] v used b e l = cc
  no_room fs (t ∷ u) v used b e l = let k : length used ≡ suc (length u + length v) = ap length e ∙ ap suc (length-append u v) in let no : ⊥ = omega arith in absurd no

  module _ {A : Type 0} (fs fol : List ℕ) (p : Parser T A) (R : Reading T A) (c : Complete code fol p R) (s : (y : A) (ts : List T) → R y ts → Begins code false fs ts) (a : apart fol fs ≡ true) where
    -- one item, and those after it
    step : (n : ℕ) (found : List A) (x : A) (xs : List A) (u v rest : List T) → R x u → Begins code true fs v → next_in code (fs ++ fol) rest ≡ false → Begins code false fs u
        → gather code fs p n (found ++ x ∷ []) (v ++ rest) ≡ Got ((found ++ x ∷ []) ++ xs) rest
        → gather code fs p (suc n) found ((u ++ v) ++ rest) ≡ Got (found ++ x ∷ xs) rest
    step n found x xs [] v rest r b h f ih = cc
    step n found x xs (t ∷ u) v rest r b h f ih =
        take_then (has (code t) fs) _ _ f
        ∙ then_got (p (((t ∷ u) ++ v) ++ rest)) (λ x r. gather code fs p n (found ++ x ∷ []) r) x (v ++ rest) (Got (found ++ x ∷ xs) rest)
        (ap p (append_assoc (t ∷ u) v rest) ∙ c x (t ∷ u) (v ++ rest) r (stops_more code fol fs v rest a b h))
        (ih ∙ ap (λ ys. Got ys rest) (append_assoc found (x ∷ []) xs))

    gather_complete : (n : ℕ) (found xs : List A) (used rest : List T) → Each R xs used → length used ≤ n → next_in code (fs ++ fol) rest ≡ false
        → gather code fs p n found (used ++ rest) ≡ Got (found ++ xs) rest
    gather_complete zero found [] used rest d l h = rw d (ap (λ ys. Got ys rest) (sym (append-nil found)))
    gather_complete (suc n) found [] used rest d l h =
        rw d (take_else (next_in code fs rest) _ (Got found rest) (stops_left code fs fol rest h) ∙ ap (λ ys. Got ys rest) (sym (append-nil found)))
    gather_complete zero found (x ∷ xs) used rest d l h = no_room fs d.0 d.1 used (s x d.0 d.3) d.2 l
    gather_complete (suc n) found (x ∷ xs) used rest d l h =
        rw d.2 (step n found x xs d.0 d.1 rest d.3 (each_begins fs false R s xs d.1 d.4) h (s x d.0 d.3)
        (gather_complete n (found ++ x ∷ []) xs d.1 rest d.4 (shorter fs n d.0 d.1 used (s x d.0 d.3) d.2 l) h))

  opened_complete : {A : Type 0} (c : ℕ) (p : T → Parser T A) (y : A) (t : T) (us rest : List T) → code t ≡ c → p t (us ++ rest) ≡ Got y rest → opened code c p (t ∷ us ++ rest) ≡ Got y rest
  opened_complete c p y t us rest e h = take_then (code t == c) (p t (us ++ rest)) (Bad (t ∷ us ++ rest)) (eq-eqb (code t) c e) ∙ h

  abbrev choice : {A : Type 0} → List ℕ → Parser T A → Parser T A → Parser T A
  choice fa p q ts = if next_in code fa ts then p ts else q ts

  pick_left : {A : Type 0} (na : Bool) (fa : List ℕ) (u rest : List T) (p q : Parser T A) (w : Outcome T A) → na ≡ false → Begins code na fa u → p (u ++ rest) ≡ w → choice fa p q (u ++ rest) ≡ w
  pick_left na fa (t ∷ u) rest p q w n b e = take_then (has (code t) fa) _ _ b ∙ e
  pick_left na fa [] rest p q w n b e = let no : true ≡ false = sym b ∙ n in cc

  pick_right : {A : Type 0} (nb : Bool) (fa fb fol : List ℕ) (u rest : List T) (p q : Parser T A) (w : Outcome T A) → apart fa fb ≡ true
      → Begins code nb fb u → next_in code (fol ++ (if nb then fa ++ fb else [])) rest ≡ false → q (u ++ rest) ≡ w → choice fa p q (u ++ rest) ≡ w
  pick_right nb fa fb fol (t ∷ u) rest p q w a b h e = take_else (has (code t) fa) _ _ (apart_not_first (code t) fa fb a b) ∙ e
  pick_right false fa fb fol [] rest p q w a b h e = cc
  pick_right true fa fb fol [] rest p q w a b h e = take_else (next_in code fa rest) _ _ (stops_left code fa fb rest (stops_right code fol (fa ++ fb) rest h)) ∙ e

  pub begins_false : (n : Bool) (fs : List ℕ) (ts : List T) → n ≡ false → Begins code n fs ts → Begins code false fs ts
  begins_false n fs [] e b = sym e ∙ b
  begins_false n fs (t ∷ ts) e b = b

  pub begins_in : (n : Bool) (fs gs : List ℕ) (ts : List T) → all_in fs gs ≡ true → Begins code n fs ts → Begins code n gs ts
  begins_in n fs gs [] a b = b
  begins_in n fs gs (t ∷ ts) a b = all_in_has (code t) fs gs a b

  fits : (u rest : List T) → length u ≤ length (u ++ rest)
  fits u rest = omega (arith, length-append u rest)

  module _ {X : Type 0} {Tree : X → Type 0} (firsts follows : X → List ℕ) where
    abbrev test : {A : Type 0} → Grammar T X Tree A → Bool
    test = decided firsts follows

    abbrev fol : {A : Type 0} → Grammar T X Tree A → List ℕ
    fol = follow firsts follows

    module _ (Calls : (x : X) → Reading T (Tree x)) (Below : (A : Type 0) → Grammar T X Tree A → Reading T A)
        (calls_begin : (x : X) (y : Tree x) (ts : List T) → Calls x y ts → Begins code false (firsts x) ts) where
      pub begins : {A : Type 0} (g : Grammar T X Tree A) → test g ≡ true → (y : A) (ts : List T) → Derives code Calls Below g y ts → Begins code (nullable g) (first firsts g) ts
      begins (pure x) k y ts d = begins_along code true [] ts [] d.1 refl
      begins (one c p f) k y ts d = begins_along code false (c ∷ []) ts (d.0 ∷ []) d.1 (begins_one code false c d.0 [] d.2)
      begins (seq f a b) k y ts d =
          let t = both (test a && test b) (apart (fol a) (first firsts b)) k in
          let w = both (test a) (test b) t.0 in
          begins_along code (nullable (seq f a b)) (first firsts (seq f a b)) ts (d.2 ++ d.3) d.5
          (begins_seq code (nullable a) (nullable b) (first firsts a) (first firsts b) d.2 d.3 (begins a w.0 d.0 d.2 d.6) (begins b w.1 d.1 d.3 d.7))
      begins (either fs a b) k y ts d =
          let t = both (test a && test b) (apart fs (first firsts b) && (not (nullable a) && all_in (first firsts a) fs)) k in
          let w = both (test a) (test b) t.0 in
          let u = both (not (nullable a)) (all_in (first firsts a) fs) (both (apart fs (first firsts b)) (not (nullable a) && all_in (first firsts a) fs) t.1).1 in
          elim d [
            | inl h ↦ begins_left code (nullable a) (nullable b) fs (first firsts b) ts (begins_in (nullable a) (first firsts a) fs ts u.1 (begins a w.0 y ts h))
            | inr h ↦ begins_right code (nullable a) (nullable b) fs (first firsts b) ts (begins b w.1 y ts h)
          ]
      begins (many fs f a) k y ts d =
          let t = both (test a && not (nullable a)) (apart (fol a) fs && all_in (first firsts a) fs) k in
          let w = both (test a) (not (nullable a)) t.0 in
          let u = both (apart (fol a) fs) (all_in (first firsts a) fs) t.1 in
          each_begins fs (nullable a) (Derives code Calls Below a) (λ z us e. begins_in (nullable a) (first firsts a) fs us u.1 (begins a w.0 z us e)) d.0 ts d.2
      begins (call x f) k y ts d = calls_begin x d.0 ts d.2
      begins (spanned f a) k y ts d = begins a k d.0 ts d.2
      begins (nest c a) k y ts d = begins_along code false (c ∷ []) ts (d.0 ∷ d.1) d.2 (begins_one code false c d.0 d.1 d.3)

      module _ (calls : (x : X) → Parser T (Tree x)) (below : (A : Type 0) → Grammar T X Tree A → T → Parser T A)
          (calls_complete : (x : X) → Complete code (follows x) (calls x) (Calls x))
          (below_complete : (A : Type 0) (a : Grammar T X Tree A) (t : T) → test a ≡ true → Complete code (fol a) (below A a t) (Below A a)) where
        abbrev go : {A : Type 0} → Grammar T X Tree A → Parser T A
        go = reads code firsts calls below

        pub complete : {A : Type 0} (g : Grammar T X Tree A) → test g ≡ true → Complete code (fol g) (reads code firsts calls below g) (Derives code Calls Below g)
        complete (pure x) k y used rest d h = rw d.1 (ap (λ v. Got v rest) (sym d.0))
        complete (one c p f) k y used rest d h = rw d.1 (one_complete c p f d.0 rest d.2 d.3 ∙ ap (λ v. Got v rest) (sym d.4))
        complete (seq f a b) k y used rest d h =
            let t = both (test a && test b) (apart (fol a) (first firsts b)) k in
            let w = both (test a) (test b) t.0 in
            rw d.5 (then_got (go a ((d.2 ++ d.3) ++ rest)) (λ x r. and_then (go b r) (λ z s. Got (f x z) s)) d.0 (d.3 ++ rest) (Got y rest)
            (ap (go a) (append_assoc d.2 d.3 rest) ∙ complete a w.0 d.0 d.2 (d.3 ++ rest) d.6
            (stops_seq code (fol a) (fol b) (first firsts b) (nullable b) d.3 rest t.1 (begins b w.1 d.1 d.3 d.7) h))
            (then_got (go b (d.3 ++ rest)) (λ z s. Got (f d.0 z) s) d.1 rest (Got y rest)
            (complete b w.1 d.1 d.3 rest d.7 (stops_left code (fol b) (if nullable b then fol a ++ first firsts b else []) rest h))
            (ap (λ v. Got v rest) (sym d.4))))
        complete (either fs a b) k y used rest d h =
            let t = both (test a && test b) (apart fs (first firsts b) && (not (nullable a) && all_in (first firsts a) fs)) k in
            let w = both (test a) (test b) t.0 in
            let v = both (apart fs (first firsts b)) (not (nullable a) && all_in (first firsts a) fs) t.1 in
            let u = both (not (nullable a)) (all_in (first firsts a) fs) v.1 in
            let i = stops_left code (fol a ++ fol b) (if nullable b then fs ++ first firsts b else []) rest h in
            elim d [
              | inl e ↦ pick_left (nullable a) fs used rest (go a) (go b) (Got y rest) (untrue (nullable a) u.0) (begins_in (nullable a) (first firsts a) fs used u.1 (begins a w.0 y used e)) (complete a w.0 y used rest e (stops_left code (fol a) (fol b) rest i))
              | inr e ↦ pick_right (nullable b) fs (first firsts b) (fol a ++ fol b) used rest (go a) (go b) (Got y rest) v.0 (begins b w.1 y used e) h (complete b w.1 y used rest e (stops_right code (fol a) (fol b) rest i))
            ]
        complete (many fs f a) k y used rest d h =
            let t = both (test a && not (nullable a)) (apart (fol a) fs && all_in (first firsts a) fs) k in
            let u = both (apart (fol a) fs) (all_in (first firsts a) fs) t.1 in
            let w = both (test a) (not (nullable a)) t.0 in
            then_got (gather code fs (go a) (length (used ++ rest)) [] (used ++ rest)) (λ xs r. Got (f xs) r) d.0 rest (Got y rest)
            (gather_complete fs (fol a) (go a) (Derives code Calls Below a) (complete a w.0)
            (λ z ts e. begins_false (nullable a) fs ts (untrue (nullable a) w.1) (begins_in (nullable a) (first firsts a) fs ts u.1 (begins a w.0 z ts e))) u.0
            (length (used ++ rest)) [] d.0 used rest d.2 (fits used rest) h)
            (ap (λ v. Got v rest) (sym d.1))
        complete (call x f) k y used rest d h =
            then_got (calls x (used ++ rest)) (λ t r. Got (f t) r) d.0 rest (Got y rest) (calls_complete x d.0 used rest d.2 h) (ap (λ v. Got v rest) (sym d.1))
        complete (spanned f a) k y used rest d h =
            then_got (go a (used ++ rest)) (λ x r. Got (f (take (length (used ++ rest) - length r) (used ++ rest)) x) r) d.0 rest (Got y rest)
            (complete a k d.0 used rest d.2 h) (ap (λ v. Got (f v d.0) rest) (taken used rest) ∙ ap (λ v. Got v rest) (sym d.1))
        complete (nest {A = P} c a) k y used rest d h =
            rw d.2 (opened_complete c (below P a) y d.0 d.1 rest d.3 (below_complete P a d.0 k y d.1 rest d.4 h))

    module _ (body : (x : X) → Grammar T X Tree (Tree x)) (ok : (x : X) → body_decided firsts follows x (body x) ≡ true) where
      abbrev decided_of : (x : X) → test (body x) ≡ true
      decided_of x = (both (test (body x)) (not (nullable (body x))) (both (test (body x) && not (nullable (body x))) (all_in (first firsts (body x)) (firsts x) && all_in (fol (body x)) (follows x)) (ok x)).0).0

      abbrev whole_of : (x : X) → nullable (body x) ≡ false
      whole_of x = untrue (nullable (body x)) (both (test (body x)) (not (nullable (body x))) (both (test (body x) && not (nullable (body x))) (all_in (first firsts (body x)) (firsts x) && all_in (fol (body x)) (follows x)) (ok x)).0).1

      abbrev sets_of : (x : X) → (all_in (first firsts (body x)) (firsts x) ≡ true) × (all_in (fol (body x)) (follows x) ≡ true)
      sets_of x = both (all_in (first firsts (body x)) (firsts x)) (all_in (fol (body x)) (follows x)) (both (test (body x) && not (nullable (body x))) (all_in (first firsts (body x)) (firsts x) && all_in (fol (body x)) (follows x)) (ok x)).1

      pub named_begins : (n : ℕ) (x : X) (y : Tree x) (ts : List T) → Named code body n x y ts → Begins code false (firsts x) ts
      named_begins n x y ts d = begins_wider code (first firsts (body x)) (firsts x) (nullable (body x)) ts (whole_of x) (sets_of x).0
          (begins (λ _ _ _. ⊥) (Below code body n) (λ z v us e. absurd e) (body x) (decided_of x) y ts d)

      named_at : (n : ℕ) → ((A : Type 0) (a : Grammar T X Tree A) (t : T) → test a ≡ true → Complete code (fol a) (below code firsts body n A a t) (Below code body n A a)) → (x : X) → Complete code (follows x) (named code firsts body n x) (Named code body n x)
      unfolding named below
      named_at n s x y used rest d h =
          complete (λ _ _ _. ⊥) (Below code body n) (λ z v us e. absurd e) (λ z us. Bad us) (below code firsts body n) (λ z v us r e. absurd e) s
          (body x) (decided_of x) y used rest d (stops_narrower code (fol (body x)) (follows x) rest (sets_of x).1 h)

      pub below_complete : (n : ℕ) (A : Type 0) (a : Grammar T X Tree A) (t : T) → test a ≡ true → Complete code (fol a) (below code firsts body n A a t) (Below code body n A a)
      unfolding named below
      below_complete zero A a t k = λ y used rest d h. absurd d
      below_complete (suc n) A a t k =
          complete (Named code body n) (Below code body n) (named_begins n) (named code firsts body n) (below code firsts body n) (named_at n (below_complete n)) (below_complete n) a k

      pub within_complete : (n : ℕ) {A : Type 0} (g : Grammar T X Tree A) → test g ≡ true → Complete code (fol g) (within code firsts body n g) (Within code body n g)
      within_complete n g k =
          complete (Named code body n) (Below code body n) (named_begins n) (named code firsts body n) (below code firsts body n) (named_at n (below_complete n)) (below_complete n) g k

      -- a whole text is read as it is derived
      pub whole : (n : ℕ) {A : Type 0} (g : Grammar T X Tree A) → test g ≡ true → (y : A) (ts : List T) → Within code body n g y ts → within code firsts body n g ts ≡ Got y []
      whole n g k y ts d = ap (within code firsts body n g) (sym (append-nil ts)) ∙ within_complete n g k y ts [] d refl
