-- The first of the faults that items have.
use Rattle.std.proofs.Common.{◌≡◌, ℕ, zero, suc, ◌+◌, ◌<◌, Bool, true, false, List, [], ◌∷◌, ◌++◌, length, take, get_or, flat_map, Err, IsOk, refl, ◌∙◌, arith}
use Rattle.std.proofs.lemmas.List.FromFn.{length-range_with_len, get_or-range_with_len}
use Rattle.std.specs.List.{range_with_len}
use Rattle.farkas_check.specs.declared.cert.CertFault.{CertFault}
use Rattle.farkas_check.specs.Certificates.{fault_if, verdict}

-- both parts of an empty list are empty
pub empty_left : {Y : Type 0} (ys zs : List Y) → ys ++ zs ≡ [] → ys ≡ []
empty_left [] zs e = refl
empty_left (y ∷ ys) zs e = cc

pub empty_right : {Y : Type 0} (ys zs : List Y) → ys ++ zs ≡ [] → zs ≡ []
empty_right [] zs e = e
empty_right (y ∷ ys) zs e = cc

pub empty_both : {Y : Type 0} (ys zs : List Y) → ys ≡ [] → zs ≡ [] → ys ++ zs ≡ []
empty_both ys zs e h = rw (e, h)

pub verdict_left : (ys zs : List CertFault) (fault : CertFault) → verdict ys ≡ Err fault → verdict (ys ++ zs) ≡ Err fault
verdict_left [] zs fault e = cc
verdict_left (y ∷ ys) zs fault e = e

-- no item so far has a fault, nor has the next
pub none_more : {X Y : Type 0} (f : X → List Y) (xs : List X) (i : ℕ) (d : X) → i < length xs → flat_map f (take i xs) ≡ [] → f (get_or xs i d) ≡ [] → flat_map f (take (suc i) xs) ≡ []
none_more f [] i d h none here = refl
none_more f (x ∷ xs) zero d h none here = empty_both (f x) [] here refl
none_more f (x ∷ xs) (suc i) d h none here =
    empty_both (f x) (flat_map f (take (suc i) xs)) (empty_left (f x) (flat_map f (take i xs)) none) (none_more f xs i d (omega arith) (empty_right (f x) (flat_map f (take i xs)) none) here)

-- no item so far has a fault, and the next has this first
pub first_here : {X : Type 0} (f : X → List CertFault) (xs : List X) (i : ℕ) (d : X) (fault : CertFault) → i < length xs → flat_map f (take i xs) ≡ [] → verdict (f (get_or xs i d)) ≡ Err fault → verdict (flat_map f xs) ≡ Err fault
first_here f [] i d fault h none here = absurd (omega arith)
first_here f (x ∷ xs) zero d fault h none here = verdict_left (f x) (flat_map f xs) fault here
first_here f (x ∷ xs) (suc i) d fault h none here =
    rw (empty_left (f x) (flat_map f (take i xs)) none) (first_here f xs i d fault (omega arith) (empty_right (f x) (flat_map f (take i xs)) none) here)

-- the same of numbers in order
none_more_from : {Y : Type 0} (f : ℕ → List Y) (a i j : ℕ) → a + i ≡ j → flat_map f (range_with_len a i) ≡ [] → f j ≡ [] → flat_map f (range_with_len a (suc i)) ≡ []
none_more_from f a zero j e none here = empty_both (f a) [] (let same : a ≡ j = omega arith in rw same here) refl
none_more_from f a (suc i) j e none here =
    empty_both (f a) (flat_map f (range_with_len (a + 1) (suc i))) (empty_left (f a) (flat_map f (range_with_len (a + 1) i)) none) (none_more_from f (a + 1) i j (omega arith) (empty_right (f a) (flat_map f (range_with_len (a + 1) i)) none) here)

first_from : (f : ℕ → List CertFault) (a i j n : ℕ) (fault : CertFault) → a + i ≡ j → i < n → flat_map f (range_with_len a i) ≡ [] → verdict (f j) ≡ Err fault → verdict (flat_map f (range_with_len a n)) ≡ Err fault
first_from f a i j zero fault e h none here = absurd (omega arith)
first_from f a zero j (suc n) fault e h none here = verdict_left (f a) (flat_map f (range_with_len (a + 1) n)) fault (let same : a ≡ j = omega arith in rw same here)
first_from f a (suc i) j (suc n) fault e h none here =
    rw (empty_left (f a) (flat_map f (range_with_len (a + 1) i)) none) (first_from f (a + 1) i j n fault (omega arith) (omega arith) (empty_right (f a) (flat_map f (range_with_len (a + 1) i)) none) here)

pub none_more_below : {Y : Type 0} (f : ℕ → List Y) (i : ℕ) → flat_map f (range_with_len 0 i) ≡ [] → f i ≡ [] → flat_map f (range_with_len 0 (suc i)) ≡ []
none_more_below f i none here = none_more_from f 0 i i (omega arith) none here

pub first_below : (f : ℕ → List CertFault) (i n : ℕ) (fault : CertFault) → i < n → flat_map f (range_with_len 0 i) ≡ [] → verdict (f i) ≡ Err fault → verdict (flat_map f (range_with_len 0 n)) ≡ Err fault
first_below f i n fault h none here = first_from f 0 i i n fault (omega arith) h none here

pub none_at : {X Y : Type 0} (f : X → List Y) (xs : List X) (k : ℕ) (d : X) → k < length xs → flat_map f xs ≡ [] → f (get_or xs k d) ≡ []
none_at f [] k d h none = absurd (omega arith)
none_at f (x ∷ xs) zero d h none = empty_left (f x) (flat_map f xs) none
none_at f (x ∷ xs) (suc k) d h none = none_at f xs k d (omega arith) (empty_right (f x) (flat_map f xs) none)

pub none_of_all : {X Y : Type 0} (f : X → List Y) (xs : List X) → ((k : ℕ) (d : X) → k < length xs → f (get_or xs k d) ≡ []) → flat_map f xs ≡ []
none_of_all f [] each = refl
none_of_all f (x ∷ xs) each = empty_both (f x) (flat_map f xs) (each 0 x (omega arith)) (none_of_all f xs (λ k d h. each (suc k) d (omega arith)))

pub none_below : {Y : Type 0} (f : ℕ → List Y) (n v : ℕ) → v < n → flat_map f (range_with_len 0 n) ≡ [] → f v ≡ []
none_below f n v h none =
    let within : v < length (range_with_len 0 n) = rw length-range_with_len h in
    let item : get_or (range_with_len 0 n) v 0 ≡ v = get_or-range_with_len 0 n v 0 h ∙ omega arith in
    rw item at (none_at f (range_with_len 0 n) v 0 within none)

pub none_of_all_below : {Y : Type 0} (f : ℕ → List Y) (n : ℕ) → ((v : ℕ) → v < n → f v ≡ []) → flat_map f (range_with_len 0 n) ≡ []
none_of_all_below f zero each = refl
none_of_all_below f (suc n) each = none_more_below f n (none_of_all_below f n (λ v h. each v (omega arith))) (each n (omega arith))

pub fault_if_true : (test : Bool) (fault : CertFault) → test ≡ true → fault_if test fault ≡ fault ∷ []
fault_if_true test fault e = rw e

pub fault_if_false : (test : Bool) (fault : CertFault) → test ≡ false → fault_if test fault ≡ []
fault_if_false test fault e = rw e

pub test_false : (test : Bool) (fault : CertFault) → fault_if test fault ≡ [] → test ≡ false
test_false true fault e = cc
test_false false fault e = refl

pub none_if_ok : (found : List CertFault) → IsOk (verdict found) → found ≡ []
none_if_ok [] h = refl
none_if_ok (fault ∷ found) h = cc

pub ok_if_none : (found : List CertFault) → found ≡ [] → IsOk (verdict found)
ok_if_none [] e = refl
ok_if_none (fault ∷ found) e = cc
