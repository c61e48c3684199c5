-- Sums over lists and below a number, counts of a number in a list, and places.
use Rattle.std.proofs.Common.{◌≡◌, ◌≢◌, ◌⊎◌, ℕ, zero, suc, ◌+◌, ◌*◌, ◌<◌, ◌≤◌, true, false, List, [], ◌∷◌, ◌++◌, set, map, sym, refl, ap, ◌∙◌, inl, inr, ⊎_elim, arith, cond, eqb, eq-eqb, ne_eqb}
use mathlib.Core.Logic.{dite}
use native.Mathlib.Decide.{ℕ_discrete}
use mathlib.Core.Option.{some, some-injective, some-ne-none}
use lib.ListN.{get_elem?}
use Rattle.cell_rules.specs.Lists.{total, below, one, count, without, In, besides}

module _ {A : Type 0} (f : A → ℕ) where
  pub total-set : (l : List A) (j : ℕ) (v w : A) → get_elem? l j ≡ some v → total f (set l j w) + f v ≡ total f l + f w
  total-set [] j v w e = absurd (some-ne-none v (sym e))
  total-set (x ∷ xs) zero v w e = omega (arith, ap f (some-injective x v e))
  total-set (x ∷ xs) (suc j) v w e = omega (arith, total-set xs j v w e)

  pub term_le : (l : List A) (j : ℕ) (v : A) → get_elem? l j ≡ some v → f v ≤ total f l
  term_le [] j v e = absurd (some-ne-none v (sym e))
  term_le (x ∷ xs) zero v e = omega (arith, ap f (some-injective x v e))
  term_le (x ∷ xs) (suc j) v e = omega (arith, term_le xs j v e)

  pub total-append : (l k : List A) → total f (l ++ k) ≡ total f l + total f k
  total-append [] k = omega arith
  total-append (x ∷ xs) k = omega (arith, total-append xs k)

pub total_le : {A : Type 0} (f g : A → ℕ) (l : List A) → ((j : ℕ) (v : A) → get_elem? l j ≡ some v → f v ≤ g v) → total f l ≤ total g l
total_le f g [] h = omega arith
total_le f g (x ∷ xs) h = omega (arith, h 0 x refl, total_le f g xs (λ j v e. h (suc j) v e))

pub below-same : (f g : ℕ → ℕ) (n : ℕ) → ((c : ℕ) → c < n → f c ≡ g c) → below f n ≡ below g n
below-same f g zero h = refl
below-same f g (suc n) h = omega (arith, below-same f g n (λ c lt. h c (omega arith)), h n (omega arith))

-- only the term at c changes
pub below-set : (f g : ℕ → ℕ) (n c : ℕ) → c < n → ((j : ℕ) → j ≢ c → f j ≡ g j) → below f n + g c ≡ below g n + f c
below-set f g zero c lt h = absurd (omega arith)
below-set f g (suc n) c lt h = dite (ℕ_discrete c n)
    (λ e. omega (arith, below-same f g n (λ j l. h j (λ q. omega arith)), ap f e, ap g e))
    (λ ne. omega (arith, below-set f g n c (omega arith) h, h n (λ q. ne (sym q))))

pub below-term : (f : ℕ → ℕ) (n c : ℕ) → c < n → f c ≤ below f n
below-term f zero c lt = absurd (omega arith)
below-term f (suc n) c lt = dite (ℕ_discrete c n) (λ e. omega (arith, ap f e)) (λ ne. omega (arith, below-term f n c (omega arith)))

pub one_same : (i : ℕ) → one i i ≡ 1
one_same i = ap (λ b. cond b 1 0) (eq-eqb i i refl)

pub one_other : (i x : ℕ) → x ≢ i → one i x ≡ 0
one_other i x n = ap (λ b. cond b 1 0) (ne_eqb x i n)

pub count-without : (i c : ℕ) (xs : List ℕ) → 0 < count c xs → count i (without c xs) + one i c ≡ count i xs
count-without i c [] h = absurd (omega arith)
count-without i c (x ∷ xs) h = dite (ℕ_discrete x c)
    (λ e. let b : eqb x c ≡ true = eq-eqb x c e in rw b (omega (arith, ap (one i) e)))
    (λ n. let b : eqb x c ≡ false = ne_eqb x c n in rw b (omega (arith, count-without i c xs (omega (arith, one_other c x n)))))

-- the counts of a number other than c do not change where c is put into a list or left out of one
pub more : (i c : ℕ) (xs : List ℕ) → i ≢ c → count i (c ∷ xs) ≡ count i xs
more i c xs ne = omega (arith, one_other i c (λ e. ne (sym e)))

pub less : (i c : ℕ) (xs : List ℕ) → i ≢ c → 0 < count c xs → count i (without c xs) ≡ count i xs
less i c xs ne h = omega (arith, count-without i c xs h, one_other i c (λ e. ne (sym e)))

pub more_here : (c : ℕ) (xs : List ℕ) → count c (c ∷ xs) ≡ count c xs + 1
more_here c xs = omega (arith, one_same c)

pub less_here : (c : ℕ) (xs : List ℕ) → 0 < count c xs → count c (without c xs) + 1 ≡ count c xs
less_here c xs h = omega (arith, count-without c c xs h, one_same c)

pub In-append : {A : Type 0} (x : A) (xs ys : List A) → In x (xs ++ ys) → In x xs ⊎ In x ys
In-append x [] ys h = inr h
In-append x (z ∷ zs) ys h = ⊎_elim (λ e. inl (inl e)) (λ t. ⊎_elim (λ a. inl (inr a)) (λ b. inr b) (In-append x zs ys t)) h

pub In-left : {A : Type 0} (x : A) (xs ys : List A) → In x xs → In x (xs ++ ys)
In-left x [] ys h = absurd h
In-left x (z ∷ zs) ys h = ⊎_elim (λ e. inl e) (λ t. inr (In-left x zs ys t)) h

pub In-right : {A : Type 0} (x : A) (xs ys : List A) → In x ys → In x (xs ++ ys)
In-right x [] ys h = h
In-right x (z ∷ zs) ys h = inr (In-right x zs ys h)

pub In-map : {A B : Type 0} (f : A → B) (x : A) (xs : List A) → In x xs → In (f x) (map f xs)
In-map f x [] h = absurd h
In-map f x (z ∷ zs) h = ⊎_elim (λ e. inl (ap f e)) (λ t. inr (In-map f x zs t)) h

-- a pair stays unless its first part is i
pub In-besides : {A : Type 0} (i : ℕ) (e : ℕ × A) (xs : List (ℕ × A)) → In e xs → e.0 ≢ i → In e (besides i xs)
In-besides i e [] h ne = absurd h
In-besides i e (z ∷ zs) h ne = dite (ℕ_discrete z.0 i)
    (λ q. let b : eqb z.0 i ≡ true = eq-eqb z.0 i q in rw b (⊎_elim (λ s. absurd (ne (ap (λ p. p.0) s ∙ q))) (λ t. In-besides i e zs t ne) h))
    (λ n. let b : eqb z.0 i ≡ false = ne_eqb z.0 i n in rw b (⊎_elim (λ s. inl s) (λ t. inr (In-besides i e zs t ne)) h))

-- what stays is another's, and was there
pub besides-In : {A : Type 0} (i : ℕ) (e : ℕ × A) (xs : List (ℕ × A)) → In e (besides i xs) → (e.0 ≢ i) × In e xs
besides-In i e [] h = absurd h
besides-In i e (z ∷ zs) h = dite (ℕ_discrete z.0 i)
    (λ q. let b : eqb z.0 i ≡ true = eq-eqb z.0 i q in let t = besides-In i e zs (rw b at h) in (t.0, inr t.1))
    (λ n. let b : eqb z.0 i ≡ false = ne_eqb z.0 i n in ⊎_elim (λ s. ((λ q. n (ap (λ p. p.0) (sym s) ∙ q)), inl s)) (λ t. let u = besides-In i e zs t in (u.0, inr u.1)) (rw b at h))

-- two kinds of mark, or the marks of two numbers, differ
pub off : (k j a m : ℕ) → k < 16 → a < 16 → (j ≢ m) ⊎ (k ≢ a) → 16 * j + k ≢ 16 * m + a
off k j a m h h' which e = ⊎_elim (λ ne. ne (omega arith)) (λ ne. ne (omega arith)) which

pub added : (q b : ℕ) (ms : List ℕ) → q ≢ b → count q (b ∷ ms) ≡ count q ms
added q b ms ne = omega (arith, one_other q b (λ e. ne (sym e)))

pub dropped : (q a : ℕ) (ms : List ℕ) → q ≢ a → 0 < count a ms → count q (without a ms) ≡ count q ms
dropped q a ms ne h = omega (arith, count-without q a ms h, one_other q a (λ e. ne (sym e)))

pub without_le : (q a : ℕ) (ms : List ℕ) → count q (without a ms) ≤ count q ms
without_le q a [] = omega arith
without_le q a (x ∷ xs) = dite (ℕ_discrete x a)
    (λ e. let b : eqb x a ≡ true = eq-eqb x a e in rw b (omega arith))
    (λ n. let b : eqb x a ≡ false = ne_eqb x a n in rw b (omega (arith, without_le q a xs)))

pub none_in : {A : Type 0} (f : A → ℕ) (l : List A) → ((j : ℕ) (u : A) → get_elem? l j ≡ some u → f u ≡ 0) → total f l ≡ 0
none_in f [] h = refl
none_in f (u ∷ us) h = omega (arith, h 0 u refl, none_in f us (λ j w e. h (suc j) w e))

pub none-below : (f : ℕ → ℕ) (n : ℕ) → ((c : ℕ) → c < n → f c ≡ 0) → below f n ≡ 0
none-below f zero h = refl
none-below f (suc n) h = omega (arith, none-below f n (λ c lt. h c (omega arith)), h n (omega arith))

-- two places have no more than all
pub two_terms : {A : Type 0} (f : A → ℕ) (l : List A) (i j : ℕ) (a b : A) → i ≢ j → get_elem? l i ≡ some a → get_elem? l j ≡ some b → f a + f b ≤ total f l
two_terms f [] i j a b ne ea eb = absurd (some-ne-none a (sym ea))
two_terms f (x ∷ xs) zero zero a b ne ea eb = absurd (ne refl)
two_terms f (x ∷ xs) zero (suc j) a b ne ea eb = omega (arith, ap f (some-injective x a ea), term_le f xs j b eb)
two_terms f (x ∷ xs) (suc i) zero a b ne ea eb = omega (arith, ap f (some-injective x b eb), term_le f xs i a ea)
two_terms f (x ∷ xs) (suc i) (suc j) a b ne ea eb = omega (arith, two_terms f xs i j a b (λ e. ne (ap suc e)) ea eb)
