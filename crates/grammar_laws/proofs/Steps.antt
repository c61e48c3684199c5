-- How an outcome comes apart.
use Rattle.std.proofs.Common.{◌≡◌, ◌-◌, ◌⊎◌, inl, inr, Bool, true, false, ◌&&◌, cond, List, ◌++◌, length, take, refl, arith, length-append}
use Rattle.std.proofs.Math.Seq.{take-append_seam}
use Rattle.grammar_laws.specs.Grammar.{Outcome, Got, Bad, Deep, Parser, and_then}

pub got_before : {T A B : Type 0} (o : Outcome T A) (k : A → Parser T B) (y : B) (r : List T) → and_then o k ≡ Got y r → (x : A) × (rest : List T) × (o ≡ Got x rest) × (k x rest ≡ Got y r)
got_before (Got x rest) k y r e = (x, rest, refl, e)
got_before (Bad rest) k y r e = cc
got_before (Deep rest) k y r e = cc

pub chosen : {A : Type 0} (b : Bool) (x y z : A) → cond b x y ≡ z → ((b ≡ true) × (x ≡ z)) ⊎ ((b ≡ false) × (y ≡ z))
chosen true x y z e = inl (refl, e)
chosen false x y z e = inr (refl, e)

pub both : (a b : Bool) → a && b ≡ true → (a ≡ true) × (b ≡ true)
both true b e = (refl, e)
both false b e = cc

pub got_is : {T A : Type 0} (x y : A) (r s : List T) → Got x r ≡ Got y s → (x ≡ y) × (r ≡ s)
got_is x y r s e = (cc, cc)

pub taken : {T : Type 0} (u r : List T) → take (length (u ++ r) - length r) (u ++ r) ≡ u
taken u r =
    let e : length (u ++ r) - length r ≡ length u = omega (arith, length-append u r) in
    rw e (take-append_seam u r)

pub bad_got : {T A B : Type 0} (r s : List T) (y : A) → Bad r ≡ Got y s → B
bad_got r s y e = cc

pub deep_got : {T A B : Type 0} (r s : List T) (y : A) → Deep r ≡ Got y s → B
deep_got r s y e = cc

pub taken_from : {T : Type 0} (ts u r : List T) → ts ≡ u ++ r → take (length ts - length r) ts ≡ u
taken_from ts u r e = rw e (taken u r)
