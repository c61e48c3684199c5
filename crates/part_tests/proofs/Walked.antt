-- The walks that a test lists are those that there are.
use Rattle.std.proofs.Common.{◌≡◌, ℕ, zero, suc, ◌+◌, ◌<◌, Bool, true, false, not, ◌&&◌, ◌||◌, nat_eq, List, [], ◌∷◌, ◌++◌, length, map, Option, Some, None, slice_get, refl, sym, ap, ◌∙◌, subst, arith, ◌⊎◌, inl, inr, ⊎_elim}
use Rattle.std.specs.List.{list_all, list_any}
use Rattle.std.proofs.lemmas.Bool.{eqb-true, eq-eqb, cases_lt}
use Rattle.std.proofs.Math.Bool.{false≢true}
use Rattle.part_tests.specs.Shapes.{Walk, begun, through, through_at, walks, all_end, ends, are_apart, reach}

-- ---- tests that compute

pub both : (a b : Bool) → (a && b) ≡ true → (a ≡ true) × (b ≡ true)
both true b e = (refl, e)
both false b e = absurd (false≢true e)

pub all_at : {X : Type 0} (f : X → Bool) (xs : List X) (k : ℕ) (x : X) → slice_get xs k ≡ Some x → list_all f xs ≡ true → f x ≡ true
all_at f [] k x is e = cc
all_at f (y ∷ ys) zero x is e = let same : y ≡ x = cc in subst (λ z. f z ≡ true) same (both (f y) (list_all f ys) e).0
all_at f (y ∷ ys) (suc k) x is e = all_at f ys k x is (both (f y) (list_all f ys) e).1

-- ---- members of lists

abbrev pub In : {X : Type 0} → X → List X → Type 0
In x [] = ⊥
In x (y ∷ ys) = (x ≡ y) ⊎ In x ys

in_left : {X : Type 0} (x : X) (xs ys : List X) → In x xs → In x (xs ++ ys)
in_left x [] ys has = absurd has
in_left x (y ∷ xs) ys has = ⊎_elim (λ e. inl e) (λ h. inr (in_left x xs ys h)) has

in_right : {X : Type 0} (x : X) (xs ys : List X) → In x ys → In x (xs ++ ys)
in_right x [] ys has = has
in_right x (y ∷ xs) ys has = inr (in_right x xs ys has)

in_either : {X : Type 0} (x : X) (xs ys : List X) → In x (xs ++ ys) → In x xs ⊎ In x ys
in_either x [] ys has = inr has
in_either x (y ∷ xs) ys has = ⊎_elim (λ e. inl (inl e)) (λ h. ⊎_elim (λ a. inl (inr a)) (λ b. inr b) (in_either x xs ys h)) has

in_map : {X Y : Type 0} (f : X → Y) (x : X) (xs : List X) → In x xs → In (f x) (map f xs)
in_map f x [] has = absurd has
in_map f x (y ∷ xs) has = ⊎_elim (λ e. inl (ap f e)) (λ h. inr (in_map f x xs h)) has

from_map : {X Y : Type 0} (f : X → Y) (y : Y) (xs : List X) → In y (map f xs) → (x : X) × In x xs × (y ≡ f x)
from_map f y [] has = absurd has
from_map f y (x ∷ xs) has = ⊎_elim (λ e. (x, inl refl, e)) (λ h. let (z, inside, is) = from_map f y xs h in (z, inr inside, is)) has

-- ---- one turn

pub in_through : (from : ℕ → List Walk) (turn : ℕ) (ns : List ℕ) (k next : ℕ) (w : Walk) → slice_get ns k ≡ Some next → In w (from next) → In (begun (turn + k) w) (through from turn ns)
in_through from turn [] k next w is has = cc
in_through from turn (n ∷ ns) zero next w is has =
    let same : n ≡ next = cc in
    let here : In w (from n) = subst (λ m. In w (from m)) (sym same) has in
    let at : turn ≡ turn + zero = omega arith in
    subst (λ t. In (begun t w) (through from turn (n ∷ ns))) at (in_left (begun turn w) (map (begun turn) (from n)) (through from (suc turn) ns) (in_map (begun turn) w (from n) here))
in_through from turn (n ∷ ns) (suc k) next w is has =
    let at : suc turn + k ≡ turn + suc k = omega arith in
    subst (λ t. In (begun t w) (through from turn (n ∷ ns))) at
    (in_right (begun (suc turn + k) w) (map (begun turn) (from n)) (through from (suc turn) ns) (in_through from (suc turn) ns k next w is has))

-- a walk that begins with a turn to a number of the list
abbrev pub Begins : (ℕ → List Walk) → ℕ → List ℕ → Walk → Type 0
Begins from turn ns v = (k : ℕ) × (next : ℕ) × (w : Walk) × (slice_get ns k ≡ Some next) × In w (from next) × (v ≡ begun (turn + k) w)

pub out_through : (from : ℕ → List Walk) (turn : ℕ) (ns : List ℕ) (v : Walk) → In v (through from turn ns) → Begins from turn ns v
out_through from turn [] v has = absurd has
out_through from turn (n ∷ ns) v has = ⊎_elim
    (λ h.
    let (w, inside, is) = from_map (begun turn) v (from n) h in
    let at : turn ≡ turn + 0 = omega arith in
    (0, n, w, refl, inside, is ∙ ap (λ t. begun t w) at))
    (λ h.
    let (k, next, w, here, inside, is) = out_through from (suc turn) ns v h in
    let at : suc turn + k ≡ turn + suc k = omega arith in
    (suc k, next, w, here, inside, is ∙ ap (λ t. begun t w) at))
    (in_either v (map (begun turn) (from n)) (through from (suc turn) ns) has)

-- ---- whole walks

-- the turns lead from one number to another
abbrev pub Walks : List (List ℕ) → ℕ → List ℕ → ℕ → Type 0
Walks shape n [] m = n ≡ m
Walks shape n (turn ∷ turns) m = (ns : List ℕ) × (next : ℕ) × (slice_get shape n ≡ Some ns) × (slice_get ns turn ≡ Some next) × Walks shape next turns m

pub in_walks : (depth : ℕ) (shape : List (List ℕ)) (n : ℕ) (turns : List ℕ) (m : ℕ) → ends depth shape n ≡ true → Walks shape n turns m → In (turns, m) (walks depth shape n)
in_walks zero shape n turns m e walk = absurd (false≢true e)
in_walks (suc depth) shape n [] m e walk = inl (ap (λ k. ([], k)) (sym walk))
in_walks (suc depth) shape n (turn ∷ turns) m e (ns, next, here, at, walk) =
    let all : list_all (ends depth shape) ns ≡ true = sym (ap (all_end (ends depth shape)) here) ∙ e in
    let inside = in_walks depth shape next turns m (all_at (ends depth shape) ns turn next at all) walk in
    let first : 0 + turn ≡ turn = omega arith in
    let among : In (turn ∷ turns, m) (through (walks depth shape) 0 ns) = subst (λ t. In (t ∷ turns, m) (through (walks depth shape) 0 ns)) first (in_through (walks depth shape) 0 ns turn next (turns, m) at inside) in
    inr (subst (λ o. In (turn ∷ turns, m) (through_at (walks depth shape) o)) (sym here) among)

-- a walk with a first turn, by the walks from the next number
walk_at : (from : ℕ → List Walk) (shape : List (List ℕ)) (n : ℕ) (w : Walk) (o : Option (List ℕ)) → ((next : ℕ) (v : Walk) → In v (from next) → Walks shape next v.0 v.1)
    → slice_get shape n ≡ o → In w (through_at from o) → Walks shape n w.0 w.1
walk_at from shape n w None again here has = absurd has
walk_at from shape n w (Some ns) again here has =
    let (k, next, v, at, inside, is) = out_through from 0 ns w has in
    let first : 0 + k ≡ k = omega arith in
    subst (λ u. Walks shape n u.0 u.1) (sym (is ∙ ap (λ t. begun t v) first)) (ns, next, here, at, again next v inside)

pub out_walks : (depth : ℕ) (shape : List (List ℕ)) (n : ℕ) (w : Walk) → In w (walks depth shape n) → Walks shape n w.0 w.1
out_walks zero shape n w has = absurd has
out_walks (suc depth) shape n w has = ⊎_elim
    (λ e. subst (λ v. Walks shape n v.0 v.1) (sym e) refl)
    (λ h. walk_at (walks depth shape) shape n w (slice_get shape n) (λ next v inside. out_walks depth shape next v inside) refl h)
    has

-- ---- one walk to each number

differs : (x w : Walk) (xs : List Walk) → list_all (λ v. not (nat_eq x.1 v.1)) xs ≡ true → In w xs → x.1 ≡ w.1 → ⊥
differs x w [] e has same = has
differs x w (y ∷ ys) e has same =
    let two = both (not (nat_eq x.1 y.1)) (list_all (λ v. not (nat_eq x.1 v.1)) ys) e in ⊎_elim
    (λ is. let equal : nat_eq x.1 y.1 ≡ true = eq-eqb x.1 y.1 (same ∙ ap (λ (v : Walk). v.1) is) in false≢true (sym (ap not equal) ∙ two.0))
    (λ h. differs x w ys two.1 h same)
    has

pub one_walk : (ws : List Walk) (v w : Walk) → are_apart ws ≡ true → In v ws → In w ws → v.1 ≡ w.1 → v ≡ w
one_walk [] v w e a b same = absurd a
one_walk (x ∷ xs) v w e a b same =
    let two = both (list_all (λ u. not (nat_eq x.1 u.1)) xs) (are_apart xs) e in ⊎_elim
    (λ first. ⊎_elim
    (λ second. first ∙ sym second)
    (λ later. absurd (differs x w xs two.0 later (sym (ap (λ (u : Walk). u.1) first) ∙ same)))
    b)
    (λ inside. ⊎_elim
    (λ second. absurd (differs x v xs two.0 inside (sym (ap (λ (u : Walk). u.1) second) ∙ sym same)))
    (λ later. one_walk xs v w two.1 inside later same)
    b)
    a

abbrev LeadsTo : List Walk → ℕ → Type 0
LeadsTo ws n = (w : Walk) × In w ws × (w.1 ≡ n)

some_at : (x : Walk) (xs : List Walk) (n : ℕ) (b : Bool) → nat_eq x.1 n ≡ b → (b || list_any (λ w. nat_eq w.1 n) xs) ≡ true → (list_any (λ w. nat_eq w.1 n) xs ≡ true → LeadsTo xs n) → LeadsTo (x ∷ xs) n
some_at x xs n true is e again = (x, inl refl, eqb-true x.1 n is)
some_at x xs n false is e again = let (w, inside, leads) = again e in (w, inr inside, leads)

some_walk : (ws : List Walk) (n : ℕ) → list_any (λ w. nat_eq w.1 n) ws ≡ true → LeadsTo ws n
some_walk [] n e = absurd (false≢true e)
some_walk (x ∷ xs) n e = some_at x xs n (nat_eq x.1 n) refl e (λ rest. some_walk xs n rest)

pub reached : (ws : List Walk) (count n : ℕ) → reach ws count ≡ true → n < count → LeadsTo ws n
reached ws zero n e lt = absurd (omega (arith, lt))
reached ws (suc k) n e lt =
    let two = both (list_any (λ w. nat_eq w.1 k) ws) (reach ws k) e in ⊎_elim
    (λ less. reached ws k n two.1 less)
    (λ most. let last : k ≡ n = omega (arith, lt, most) in subst (λ j. LeadsTo ws j) last (some_walk ws k two.0))
    (cases_lt n k)
