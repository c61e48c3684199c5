-- Which entries are held, as places are taken and given back.
use Rattle.std.proofs.Common.{◌≡◌, ℕ, zero, suc, ◌+◌, ◌<◌, ◌≤◌, Bool, true, false, not, ◌||◌, nat_eq, List, [], ◌∷◌, ◌++◌, take, map, All, refl, sym, ap, ◌∙◌, arith, append-nil}
use Rattle.std.specs.List.{range_with_len, slice_set}
use Rattle.std.proofs.lemmas.Bool.Decides.{nat_tests}
use Rattle.std.proofs.lemmas.List.Elements.{All-head, All-tail}
use Rattle.std.proofs.lemmas.List.FromFn.{take-map-range_with_len, map-range_with_len_more}
use Rattle.outline_contexts.specs.Trails.{is_taken, is_held}
use Rattle.outline_contexts.specs.Kept.{held_of, released, AreApart}

or_false : (b : Bool) → b || false ≡ b
or_false true = refl
or_false false = refl

or_true : (b : Bool) → b || true ≡ true
or_true true = refl
or_true false = refl

or-assoc : (a b c : Bool) → (a || b) || c ≡ a || (b || c)
or-assoc true b c = refl
or-assoc false b c = refl

itself : (n : ℕ) → nat_eq n n ≡ true
itself n = grind (arith, nat_tests)

-- places of two lists
pub taken-append : (ks ls : List ℕ) (i : ℕ) → is_taken (ks ++ ls) i ≡ is_taken ks i || is_taken ls i
taken-append [] ls i = refl
taken-append (k ∷ ks) ls i = ap (λ b. nat_eq k i || b) (taken-append ks ls i) ∙ sym (or-assoc (nat_eq k i) (is_taken ks i) (is_taken ls i))

-- one place more
pub taken_last : (ks : List ℕ) (p i : ℕ) → is_taken (ks ++ p ∷ []) i ≡ is_taken ks i || nat_eq p i
taken_last ks p i = taken-append ks (p ∷ []) i ∙ ap (λ b. is_taken ks i || b) (or_false (nat_eq p i))

pub other_place : (ks : List ℕ) (p i : ℕ) → nat_eq p i ≡ false → is_taken (ks ++ p ∷ []) i ≡ is_taken ks i
other_place ks p i differs = taken_last ks p i ∙ ap (λ b. is_taken ks i || b) differs ∙ or_false (is_taken ks i)

pub own_place : (ks : List ℕ) (p : ℕ) → is_taken (ks ++ p ∷ []) p ≡ true
own_place ks p = taken_last ks p p ∙ ap (λ b. is_taken ks p || b) (itself p) ∙ or_true (is_taken ks p)

-- a place past all others wasn't taken
pub not_taken : (ks : List ℕ) (m : ℕ) → All (λ k. k < m) ks → is_taken ks m ≡ false
not_taken [] m below = refl
not_taken (k ∷ ks) m below =
    let less : k < m = All-head (λ n. n < m) k ks below in
    ap (λ b. b || is_taken ks m) (other k m less) ∙ not_taken ks m (All-tail (λ n. n < m) k ks below)
  where
    other : (k m : ℕ) → k < m → nat_eq k m ≡ false
    other k m less = grind (arith, nat_tests)

-- ---- lists of truth values by place

same_later : (f g : ℕ → Bool) (q a n : ℕ) → q < a → ((i : ℕ) → nat_eq q i ≡ false → f i ≡ g i) → map f (range_with_len a n) ≡ map g (range_with_len a n)
same_later f g q a zero less same = refl
same_later f g q a (suc n) less same =
    let differs : nat_eq q a ≡ false = grind (arith, nat_tests) in
    ap (λ b. b ∷ map f (range_with_len (a + 1) n)) (same a differs)
    ∙ ap (λ bs. g a ∷ bs) (same_later f g q (a + 1) n (omega (arith, less)) same)

-- two functions that differ at one place
pub set_one : (f g : ℕ → Bool) (b : Bool) (q a n p : ℕ) → q ≡ a + p → ((i : ℕ) → nat_eq q i ≡ false → f i ≡ g i) → g q ≡ b
    → slice_set (map f (range_with_len a n)) p b ≡ map g (range_with_len a n)
set_one f g b q a zero p is same one = refl
set_one f g b q a (suc n) zero is same one =
    ap (λ c. c ∷ map f (range_with_len (a + 1) n)) (sym one ∙ ap g (omega (arith, is)))
    ∙ ap (λ bs. g a ∷ bs) (same_later f g q (a + 1) n (omega (arith, is)) same)
set_one f g b q a (suc n) (suc p) is same one =
    let differs : nat_eq q a ≡ false = grind (arith, nat_tests) in
    ap (λ c. c ∷ slice_set (map f (range_with_len (a + 1) n)) p b) (same a differs)
    ∙ ap (λ bs. g a ∷ bs) (set_one f g b q (a + 1) n p (omega (arith, is)) same one)

-- a place that is taken is no longer held
pub held_less : (ks : List ℕ) (many p : ℕ) → slice_set (held_of ks many) p false ≡ held_of (ks ++ p ∷ []) many
held_less ks many p =
    set_one (is_held ks) (is_held (ks ++ p ∷ [])) false p 0 many p (omega arith) (λ i differs. ap not (sym (other_place ks p i differs))) (ap not (own_place ks p))

-- an entry behind the others, which wasn't taken
pub held_more : (ks : List ℕ) (many next : ℕ) → next ≡ many + 1 → All (λ k. k < many) ks → held_of ks next ≡ held_of ks many ++ true ∷ []
held_more ks many next is below =
    ap (held_of ks) is ∙ map-range_with_len_more (is_held ks) 0 many many (omega arith)
    ∙ ap (λ b. held_of ks many ++ not b ∷ []) (not_taken ks many below)

-- ---- given back

-- a place in the middle of those that were taken, where it was taken once
once_taken : (ks ls : List ℕ) (p i : ℕ) → nat_eq p i ≡ false → is_taken (ks ++ p ∷ ls) i ≡ is_taken (ks ++ ls) i
once_taken ks ls p i differs =
    taken-append ks (p ∷ ls) i ∙ ap (λ b. is_taken ks i || (b || is_taken ls i)) differs ∙ sym (taken-append ks ls i)

-- the place isn't among the others, and these are apart
record IsOnce (ks ls : List ℕ) (p : ℕ) : Type 0 where
  gone : is_taken (ks ++ ls) p ≡ false
  others : AreApart (ks ++ ls)

once : (ks ls : List ℕ) (p : ℕ) → AreApart (ks ++ p ∷ ls) → IsOnce ks ls p
once [] ls p (alone, rest) = record { gone = alone; others = rest }
once (k ∷ ks) ls p (alone, rest) =
    let more = once ks ls p rest in
    let split : is_taken ks k || (nat_eq p k || is_taken ls k) ≡ false = sym (taken-append ks (p ∷ ls) k) ∙ alone in
    let apart : nat_eq p k ≡ false = middle (is_taken ks k) (nat_eq p k) (is_taken ls k) split in
    record {
      gone = ap (λ b. b || is_taken (ks ++ ls) p) (turned p k apart) ∙ more.gone;
      others = (sym (once_taken ks ls p k apart) ∙ alone, more.others);
    }
  where
    middle : (a b c : Bool) → a || (b || c) ≡ false → b ≡ false
    middle true b c is = absurd cc
    middle false true c is = absurd cc
    middle false false c is = refl

    turned : (p k : ℕ) → nat_eq p k ≡ false → nat_eq k p ≡ false
    turned p k differs = grind (arith, nat_tests)

pub given_back : (ks ls : List ℕ) (many : ℕ) → AreApart (ks ++ ls) → released ls (held_of (ks ++ ls) many) ≡ held_of ks many
given_back ks [] many apart = ap (λ ms. held_of ms many) (append-nil ks)
given_back ks (p ∷ ls) many apart =
    let one = once ks ls p apart in
    ap (released ls)
    (set_one (is_held (ks ++ p ∷ ls)) (is_held (ks ++ ls)) true p 0 many p (omega arith) (λ i differs. ap not (once_taken ks ls p i differs)) (ap not one.gone))
    ∙ given_back ks ls many one.others

-- the first of the places
pub apart_first : (ks ls : List ℕ) → AreApart (ks ++ ls) → AreApart ks
apart_first [] ls apart = tt
apart_first (k ∷ ks) ls (alone, rest) = (left (is_taken ks k) (is_taken ls k) (sym (taken-append ks ls k) ∙ alone), apart_first ks ls rest)
  where
    left : (a b : Bool) → a || b ≡ false → a ≡ false
    left true b is = absurd cc
    left false b is = refl

-- a place that wasn't taken is one more
pub apart_more : (ks : List ℕ) (p : ℕ) → AreApart ks → is_taken ks p ≡ false → AreApart (ks ++ p ∷ [])
apart_more [] p apart free = (refl, tt)
apart_more (k ∷ ks) p (alone, rest) free =
    let split = both (nat_eq k p) (is_taken ks p) free in
    (taken_last ks p k ∙ ap (λ b. is_taken ks k || b) (turned k p split.0) ∙ or_false (is_taken ks k) ∙ alone, apart_more ks p rest split.1)
  where
    both : (a b : Bool) → a || b ≡ false → (a ≡ false) × (b ≡ false)
    both true b is = absurd cc
    both false b is = (refl, is)

    turned : (k p : ℕ) → nat_eq k p ≡ false → nat_eq p k ≡ false
    turned k p differs = grind (arith, nat_tests)

-- so many of those that are held
pub take_held : (ks : List ℕ) (many m : ℕ) → m ≤ many → take m (held_of ks many) ≡ held_of ks m
take_held ks many m less = take-map-range_with_len (is_held ks) 0 many m less
