-- Where a token opens the level after the last, a reader stops there or before.
use Rattle.std.proofs.Common.{◌≡◌, ℕ, suc, zero, ◌-◌, ◌≤◌, ◌⊎◌, inl, inr, Bool, true, false, not, ◌&&◌, ◌||◌, if◌then◌else◌, ◌==◌, List, [], ◌∷◌, ◌++◌, length, take, sym, ◌∙◌, ap, subst, arith, append_assoc, length-append}
use Rattle.std.proofs.lemmas.Bool.{eq-eqb}
use Rattle.grammar_laws.specs.Grammar.{Got, Bad, Parser, Reading, Grammar, pure, one, seq, either, many, call, spanned, nest, and_then, nullable, first, Each, Derives, next_in, gather, reads}
use Rattle.grammar_laws.specs.Check.{apart, all_in, follow, decided}
use Rattle.grammar_laws.specs.Levels.{Opening, Opens}
use Rattle.grammar_laws.proofs.Steps.{both}
use Rattle.grammar_laws.proofs.Sets.{Begins, untrue, has_left, has_right, apart_not_first, all_in_has}
use Rattle.grammar_laws.proofs.Complete.{begins, each_begins, begins_in, begins_false, take_then, take_else}
use Rattle.grammar_laws.proofs.Earlier.{Late, late_then, late_farther, late_after, late_either, late_along}

module _ {T : Type 0} (code : T → ℕ) where
  -- what comes next begins the grammar
  abbrev GoesOn : List ℕ → List T → T → List T → Type 0
  GoesOn fs front t r = next_in code fs (front ++ t ∷ r) ≡ true

  goes_left : (na : Bool) (fa fb : List ℕ) (front : List T) (t : T) (r : List T) → GoesOn fa front t r → GoesOn (if na then fa ++ fb else fa) front t r
  goes_left true fa fb [] t r h = has_left (code t) fa fb h
  goes_left true fa fb (s ∷ front) t r h = has_left (code s) fa fb h
  goes_left false fa fb front t r h = h

  goes_or_left : (fa fb : List ℕ) (front : List T) (t : T) (r : List T) → GoesOn fa front t r → GoesOn (fa ++ fb) front t r
  goes_or_left fa fb [] t r h = has_left (code t) fa fb h
  goes_or_left fa fb (s ∷ front) t r h = has_left (code s) fa fb h

  goes_or_right : (fa fb : List ℕ) (front : List T) (t : T) (r : List T) → GoesOn fb front t r → GoesOn (fa ++ fb) front t r
  goes_or_right fa fb [] t r h = has_right (code t) fa fb h
  goes_or_right fa fb (s ∷ front) t r h = has_right (code s) fa fb h

  pub goes_in : (fa fb : List ℕ) (front : List T) (t : T) (r : List T) → all_in fa fb ≡ true → GoesOn fa front t r → GoesOn fb front t r
  goes_in fa fb [] t r a h = all_in_has (code t) fa fb a h
  goes_in fa fb (s ∷ front) t r a h = all_in_has (code s) fa fb a h

  goes_seq : (na : Bool) (fa fb : List ℕ) (u v : List T) (t : T) (r : List T) → Begins code na fa u → GoesOn fb v t r → GoesOn (if na then fa ++ fb else fa) (u ++ v) t r
  goes_seq true fa fb [] v t r b h = goes_or_right fa fb v t r h
  goes_seq false fa fb [] v t r b h = cc
  goes_seq true fa fb (s ∷ u) v t r b h = has_left (code s) fa fb b
  goes_seq false fa fb (s ∷ u) v t r b h = b

  goes_items : (fs : List ℕ) (u v : List T) (t : T) (r : List T) → Begins code true fs u → GoesOn fs v t r → GoesOn fs (u ++ v) t r
  goes_items fs [] v t r b h = h
  goes_items fs (s ∷ u) v t r b h = b

  goes_along : (fs : List ℕ) (front us : List T) (t : T) (r : List T) → front ≡ us → GoesOn fs us t r → GoesOn fs front t r
  goes_along fs front us t r e h = ap (λ w. next_in code fs (w ++ t ∷ r)) e ∙ h

  -- what begins one part stops the part before it
  goes_stops : (fol fs : List ℕ) (v : List T) (t : T) (r : List T) → apart fol fs ≡ true → GoesOn fs v t r → next_in code fol (v ++ t ∷ r) ≡ false
  goes_stops fol fs [] t r a h = apart_not_first (code t) fol fs a h
  goes_stops fol fs (s ∷ v) t r a h = apart_not_first (code s) fol fs a h

  module _ {X : Type 0} {Tree : X → Type 0} (firsts follows : X → List ℕ) (Calls : (x : X) → Reading T (Tree x)) (Below : (A : Type 0) → Grammar T X Tree A → Reading T A)
      (calls_begin : (x : X) (y : Tree x) (ts : List T) → Calls x y ts → Begins code false (firsts x) ts)
      (names : X → Opening T) (inner : (A : Type 0) → Grammar T X Tree A → Opening T) (here : Type 0)
      (names_begin : (x : X) (front : List T) (t : T) (r : List T) → names x front t → GoesOn (firsts x) front t r) where
    abbrev test : {A : Type 0} → Grammar T X Tree A → Bool
    test = decided firsts follows

    abbrev fol : {A : Type 0} → Grammar T X Tree A → List ℕ
    fol = follow firsts follows

    abbrev O : {A : Type 0} → Grammar T X Tree A → Opening T
    O = Opens code Calls Below names inner here

    pub opens_begin : {A : Type 0} (g : Grammar T X Tree A) → test g ≡ true → (front : List T) (t : T) (r : List T) → Opens code Calls Below names inner here g front t → GoesOn (first firsts g) front t r
    opens_begin (pure x) k front t r o = absurd o
    opens_begin (one c p f) k front t r o = absurd o
    opens_begin (seq f a b) k front t r o =
        let w = both (test a) (test b) (both (test a && test b) (apart (fol a) (first firsts b)) k).0 in
        elim o [
          | inl h ↦ goes_left (nullable a) (first firsts a) (first firsts b) front t r (opens_begin a w.0 front t r h)
          | inr h ↦ goes_along (first firsts (seq f a b)) front (h.1 ++ h.2) t r h.3
              (goes_seq (nullable a) (first firsts a) (first firsts b) h.1 h.2 t r (begins code firsts follows Calls Below calls_begin a w.0 h.0 h.1 h.4) (opens_begin b w.1 h.2 t r h.5))
        ]
    opens_begin (either fs a b) k front t r o =
        let s = both (test a && test b) (apart fs (first firsts b) && (not (nullable a) && all_in (first firsts a) fs)) k in
        let w = both (test a) (test b) s.0 in
        let u = both (not (nullable a)) (all_in (first firsts a) fs) (both (apart fs (first firsts b)) (not (nullable a) && all_in (first firsts a) fs) s.1).1 in
        elim o [
          | inl h ↦ goes_or_left fs (first firsts b) front t r (goes_in (first firsts a) fs front t r u.1 (opens_begin a w.0 front t r h))
          | inr h ↦ goes_or_right fs (first firsts b) front t r (opens_begin b w.1 front t r h)
        ]
    opens_begin (many fs f a) k front t r o =
        let s = both (test a && not (nullable a)) (apart (fol a) fs && all_in (first firsts a) fs) k in
        let w = both (test a) (not (nullable a)) s.0 in
        let u = both (apart (fol a) fs) (all_in (first firsts a) fs) s.1 in
        goes_along fs front (o.1 ++ o.2) t r o.3
        (goes_items fs o.1 o.2 t r
        (each_begins code fs (nullable a) (Derives code Calls Below a) (λ z us e. begins_in code (nullable a) (first firsts a) fs us u.1 (begins code firsts follows Calls Below calls_begin a w.0 z us e)) o.0 o.1 o.4)
        (goes_in (first firsts a) fs o.2 t r u.1 (opens_begin a w.0 o.2 t r o.5)))
    opens_begin (call x f) k front t r o = names_begin x front t r o
    opens_begin (spanned f a) k front t r o = opens_begin a k front t r o
    opens_begin (nest c a) k front t r o = elim o [
      | inl h ↦ goes_along (c ∷ []) front [] t r h.1 (ap (λ b. b || false) (eq-eqb (code t) c h.2))
      | inr h ↦ goes_along (c ∷ []) front (h.0 ∷ h.1) t r h.2 (ap (λ b. b || false) (eq-eqb (code h.0) c h.3))
    ]

    module _ (calls : (x : X) → Parser T (Tree x)) (below : (A : Type 0) → Grammar T X Tree A → T → Parser T A)
        (got_late : (A : Type 0) (a : Grammar T X Tree A) → test a ≡ true → (x : A) (u rest : List T) → Derives code Calls Below a x u → next_in code (fol a) rest ≡ false
        → (reads code firsts calls below a (u ++ rest) ≡ Got x rest) ⊎ Late (reads code firsts calls below a) (u ++ rest) (length rest))
        (calls_late : (x : X) (front : List T) (t : T) (r : List T) → names x front t → Late (calls x) (front ++ t ∷ r) (length (t ∷ r)))
        (here_late : (A : Type 0) (a : Grammar T X Tree A) (t : T) (r : List T) → here → Late (below A a t) r (length (t ∷ r)))
        (inner_late : (A : Type 0) (a : Grammar T X Tree A) → test a ≡ true → (s t : T) (us r : List T) → inner A a us t → Late (below A a s) (us ++ t ∷ r) (length (t ∷ r))) where
      abbrev go : {A : Type 0} → Grammar T X Tree A → Parser T A
      go = reads code firsts calls below

      gather_turn : {A : Type 0} (fs : List ℕ) (a : Grammar T X Tree A) (n : ℕ) (found : List A) (ts : List T) (m : ℕ) → next_in code fs ts ≡ true
          → Late (λ us. and_then (go a us) (λ x v. gather code fs (go a) n (found ++ x ∷ []) v)) ts m → Late (gather code fs (go a) (suc n) found) ts m
      gather_turn fs a n found ts m e l = (l.0, take_then (next_in code fs ts) (and_then (go a ts) (λ x v. gather code fs (go a) n (found ++ x ∷ []) v)) (Got found ts) e ∙ l.1, l.2)

      fewer : (fs : List ℕ) (u1 u2 w : List T) (n : ℕ) → Begins code false fs u1 → length ((u1 ++ u2) ++ w) ≤ suc n → length (u2 ++ w) ≤ n
      fewer fs [] u2 w n b l = cc
      fewer fs (s ∷ u1) u2 w n b l = omega (arith, length-append (u1 ++ u2) w, length-append u1 u2, length-append u2 w)

      goes_first : (fs : List ℕ) (u1 w : List T) → Begins code false fs u1 → next_in code fs (u1 ++ w) ≡ true
      goes_first fs [] w b = cc
      goes_first fs (s ∷ u1) w b = b

      empty_no : {B : Type 0} (u v : List T) (t : T) (r : List T) → length (u ++ (v ++ t ∷ r)) ≤ 0 → B
      empty_no u v t r l = let no : ⊥ = omega (arith, length-append u (v ++ t ∷ r), length-append v (t ∷ r)) in absurd no

      late_gather : {A : Type 0} (fs : List ℕ) (a : Grammar T X Tree A) → test a ≡ true → apart (fol a) fs ≡ true → ((z : A) (us : List T) → Derives code Calls Below a z us → Begins code false fs us)
          → (n : ℕ) (found xs : List A) (u v : List T) (t : T) (r : List T) → length (u ++ (v ++ t ∷ r)) ≤ n → Each (Derives code Calls Below a) xs u → GoesOn fs v t r → Late (go a) (v ++ t ∷ r) (length (t ∷ r))
          → Late (gather code fs (go a) n found) (u ++ (v ++ t ∷ r)) (length (t ∷ r))
      late_gather fs a k q bg zero found xs u v t r len d nx l = empty_no u v t r len
      late_gather fs a k q bg (suc n) found [] u v t r len d nx l =
          late_along (gather code fs (go a) (suc n) found) (v ++ t ∷ r) (u ++ (v ++ t ∷ r)) (length (t ∷ r)) (ap (λ w. w ++ (v ++ t ∷ r)) d)
          (gather_turn fs a n found (v ++ t ∷ r) (length (t ∷ r)) nx (late_then (go a) (λ x w. gather code fs (go a) n (found ++ x ∷ []) w) (v ++ t ∷ r) (length (t ∷ r)) l))
      late_gather fs a k q bg (suc n) found (x ∷ xs) u v t r len d nx l =
          let rest = v ++ t ∷ r in
          let whole_is : u ++ (v ++ t ∷ r) ≡ d.0 ++ (d.1 ++ (v ++ t ∷ r)) = ap (λ w. w ++ (v ++ t ∷ r)) d.2 ∙ append_assoc d.0 d.1 (v ++ t ∷ r) in
          let stops : next_in code (fol a) (d.1 ++ (v ++ t ∷ r)) ≡ false =
          ap (next_in code (fol a)) (sym (append_assoc d.1 v (t ∷ r))) ∙ goes_stops (fol a) fs (d.1 ++ v) t r q (goes_items fs d.1 v t r (each_begins code fs false (Derives code Calls Below a) bg xs d.1 d.4) nx) in
          let P : List T → Type 0 = λ w. length (w ++ (v ++ t ∷ r)) ≤ suc n in
          let ih = late_gather fs a k q bg n (found ++ x ∷ []) xs d.1 v t r (fewer fs d.0 d.1 (v ++ t ∷ r) n (bg x d.0 d.3) (subst P d.2 len)) d.4 nx l in
          late_along (gather code fs (go a) (suc n) found) (d.0 ++ (d.1 ++ (v ++ t ∷ r))) (u ++ (v ++ t ∷ r)) (length (t ∷ r)) whole_is
          (gather_turn fs a n found (d.0 ++ (d.1 ++ (v ++ t ∷ r))) (length (t ∷ r)) (goes_first fs d.0 (d.1 ++ (v ++ t ∷ r)) (bg x d.0 d.3))
          (elim (got_late _ a k x d.0 (d.1 ++ (v ++ t ∷ r)) d.3 stops) [
            | inl e ↦ late_after (go a) (λ y w. gather code fs (go a) n (found ++ y ∷ []) w) (d.0 ++ (d.1 ++ (v ++ t ∷ r))) (d.1 ++ (v ++ t ∷ r)) x (length (t ∷ r)) e ih
            | inr e ↦ late_then (go a) (λ y w. gather code fs (go a) n (found ++ y ∷ []) w) (d.0 ++ (d.1 ++ (v ++ t ∷ r))) (length (t ∷ r))
                (late_farther (go a) (d.0 ++ (d.1 ++ (v ++ t ∷ r))) d.1 v t r e)
          ]))

      pub late : {A : Type 0} (g : Grammar T X Tree A) → test g ≡ true → (front : List T) (t : T) (r : List T) → Opens code Calls Below names inner here g front t → Late (reads code firsts calls below g) (front ++ t ∷ r) (length (t ∷ r))
      late (pure x) k front t r o = absurd o
      late (one c p f) k front t r o = absurd o
      late (seq {A = P} f a b) k front t r o =
          let s = both (test a && test b) (apart (fol a) (first firsts b)) k in
          let w = both (test a) (test b) s.0 in
          elim o [
            | inl h ↦ late_then (go a) (λ x m. and_then (go b m) (λ y n. Got (f x y) n)) (front ++ t ∷ r) (length (t ∷ r)) (late a w.0 front t r h)
            | inr h ↦ late_along (go (seq f a b)) (h.1 ++ (h.2 ++ t ∷ r)) (front ++ t ∷ r) (length (t ∷ r)) (ap (λ z. z ++ t ∷ r) h.3 ∙ append_assoc h.1 h.2 (t ∷ r))
                (late_either (go a) (λ x m. and_then (go b m) (λ y n. Got (f x y) n)) (h.1 ++ (h.2 ++ t ∷ r)) h.2 t r h.0
                (got_late P a w.0 h.0 h.1 (h.2 ++ t ∷ r) h.4 (goes_stops (fol a) (first firsts b) h.2 t r s.1 (opens_begin b w.1 h.2 t r h.5)))
                (late_then (go b) (λ y n. Got (f h.0 y) n) (h.2 ++ t ∷ r) (length (t ∷ r)) (late b w.1 h.2 t r h.5)))
          ]
      late (either fs a b) k front t r o =
          let s = both (test a && test b) (apart fs (first firsts b) && (not (nullable a) && all_in (first firsts a) fs)) k in
          let w = both (test a) (test b) s.0 in
          let v = both (apart fs (first firsts b)) (not (nullable a) && all_in (first firsts a) fs) s.1 in
          let u = both (not (nullable a)) (all_in (first firsts a) fs) v.1 in
          elim o [
            | inl h ↦ let l = late a w.0 front t r h in
                (l.0, take_then (next_in code fs (front ++ t ∷ r)) (go a (front ++ t ∷ r)) (go b (front ++ t ∷ r)) (goes_in (first firsts a) fs front t r u.1 (opens_begin a w.0 front t r h)) ∙ l.1, l.2)
            | inr h ↦ let l = late b w.1 front t r h in
                (l.0, take_else (next_in code fs (front ++ t ∷ r)) (go a (front ++ t ∷ r)) (go b (front ++ t ∷ r)) (goes_stops fs (first firsts b) front t r v.0 (opens_begin b w.1 front t r h)) ∙ l.1, l.2)
          ]
      late (many {A = P} fs f a) k front t r o =
          let s = both (test a && not (nullable a)) (apart (fol a) fs && all_in (first firsts a) fs) k in
          let w = both (test a) (not (nullable a)) s.0 in
          let u = both (apart (fol a) fs) (all_in (first firsts a) fs) s.1 in
          let bg = λ (z : P) (us : List T) (e : Derives code Calls Below a z us). begins_false code (nullable a) fs us (untrue (nullable a) w.1) (begins_in code (nullable a) (first firsts a) fs us u.1 (begins code firsts follows Calls Below calls_begin a w.0 z us e)) in
          late_along (go (many fs f a)) (o.1 ++ (o.2 ++ t ∷ r)) (front ++ t ∷ r) (length (t ∷ r)) (ap (λ z. z ++ t ∷ r) o.3 ∙ append_assoc o.1 o.2 (t ∷ r))
          (late_then (λ us. gather code fs (go a) (length us) [] us) (λ xs m. Got (f xs) m) (o.1 ++ (o.2 ++ t ∷ r)) (length (t ∷ r))
          (late_gather fs a w.0 u.0 bg (length (o.1 ++ (o.2 ++ t ∷ r))) [] o.0 o.1 o.2 t r (omega arith) o.4 (goes_in (first firsts a) fs o.2 t r u.1 (opens_begin a w.0 o.2 t r o.5)) (late a w.0 o.2 t r o.5)))
      late (call x f) k front t r o = late_then (calls x) (λ z m. Got (f z) m) (front ++ t ∷ r) (length (t ∷ r)) (calls_late x front t r o)
      late (spanned f a) k front t r o =
          let l = late a k front t r o in
          (l.0, ap (λ p. and_then p (λ x m. Got (f (take (length (front ++ t ∷ r) - length m) (front ++ t ∷ r)) x) m)) l.1, l.2)
      late (nest {A = P} c a) k front t r o = elim o [
        | inl h ↦ let l = here_late P a t r h.0 in
            late_along (go (nest c a)) (t ∷ r) (front ++ t ∷ r) (length (t ∷ r)) (ap (λ z. z ++ t ∷ r) h.1)
            (l.0, take_then (code t == c) (below P a t r) (Bad (t ∷ r)) (eq-eqb (code t) c h.2) ∙ l.1, l.2)
        | inr h ↦ let l = inner_late P a k h.0 t h.1 r h.4 in
            late_along (go (nest c a)) (h.0 ∷ h.1 ++ t ∷ r) (front ++ t ∷ r) (length (t ∷ r)) (ap (λ z. z ++ t ∷ r) h.2)
            (l.0, take_then (code h.0 == c) (below P a h.0 (h.1 ++ t ∷ r)) (Bad (h.0 ∷ h.1 ++ t ∷ r)) (eq-eqb (code h.0) c h.3) ∙ l.1, l.2)
      ]
