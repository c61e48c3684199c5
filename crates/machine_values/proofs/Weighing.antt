-- The depth of a supplied value from those of its parts.
use Rattle.std.proofs.Common.{Err, List, drop, get_or, length, [], ◌∷◌, ◌++◌, append_assoc, ◌≡◌, ℕ, suc, ◌+◌, ◌<◌, max, min, nat_le, nat_lt, Bool, true, false, cond, refl, sym, ap, ◌∙◌, arith}
use Rattle.std.proofs.lemmas.Bool.Decides.{nat_tests}
use Rattle.std.proofs.lemmas.List.{drop_more}
use Rattle.core_language.specs.Values.{Value, Pair, Arm, depth, is_shallow}
use Rattle.core_language.specs.Computing.{Computed, Done, Sticks, Halts, Deep, and_then, shallow}
use Rattle.machine_values.specs.Troubles.{computed_of, depth_of, nested_of, done_of}
use Rattle.machine_values.specs.declared.computing.Trouble.{Trouble}
use Rattle.machine_values.specs.declared.computing.Trouble.TheVariants as trouble

same_test : (d x : ℕ) → x ≡ min d 257 → nat_le (suc d) 256 ≡ nat_lt x 256
same_test d x is = grind (arith, nat_tests, is)

same_depth : (d x : ℕ) → x ≡ min d 257 → nat_le (suc d) 256 ≡ true → min (suc d) 257 ≡ x + 1
same_depth d x is within = grind (arith, nat_tests, is, within)

nests : (v : Value) (d x : ℕ) → depth v ≡ suc d → x ≡ min d 257 → depth_of (shallow v) ≡ nested_of x
nests v d x deep is = by (nat_le (suc d) 256) refl
  where
    test : is_shallow v ≡ nat_le (suc d) 256
    test = ap (λ n. nat_le n 256) deep

    other : (b : Bool) → Computed ℕ
    other b = depth_of (cond b (Done v) (Sticks Deep))

    by : (b : Bool) → nat_le (suc d) 256 ≡ b → depth_of (shallow v) ≡ nested_of x
    by true within =
        ap (λ b. depth_of (cond b (Done v) (Sticks Deep))) (test ∙ within)
        ∙ ap Done (ap (λ n. min n 257) deep ∙ same_depth d x is within)
        ∙ ap (λ b. cond b (Done (x + 1)) (Sticks Deep)) (sym (sym (same_test d x is) ∙ within))
    by false past =
        ap (λ b. depth_of (cond b (Done v) (Sticks Deep))) (test ∙ past)
        ∙ ap (λ b. cond b (Done (x + 1)) (Sticks Deep)) (sym (sym (same_test d x is) ∙ past))

capped : (a b : ℕ) → max (min a 257) (min b 257) ≡ min (max a b) 257
capped a b = omega arith

pub weighs_pair : (m u : Computed Value) → and_then (and_then (depth_of m) (λ x. and_then (depth_of u) (λ y. Done (max x y)))) nested_of
    ≡ depth_of (and_then m (λ a. and_then u (λ b. shallow (Pair a b))))
weighs_pair (Done a) (Done b) = sym (nests (Pair a b) (max (depth a) (depth b)) (max (min (depth a) 257) (min (depth b) 257)) refl (capped (depth a) (depth b)))
weighs_pair (Done a) (Sticks why) = refl
weighs_pair (Done a) (Halts why) = refl
weighs_pair (Sticks why) u = refl
weighs_pair (Halts why) u = refl

pub weighs_arm : (i : ℕ) (m : Computed Value) → and_then (depth_of m) nested_of ≡ depth_of (and_then m (λ a. shallow (Arm i a)))
weighs_arm i (Done a) = sym (nests (Arm i a) (depth a) (min (depth a) 257) refl refl)
weighs_arm i (Sticks why) = refl
weighs_arm i (Halts why) = refl

pub weighs_done : (m : Computed Value) → done_of (depth_of m) ≡ done_of m
weighs_done (Done a) = refl
weighs_done (Sticks why) = refl
weighs_done (Halts why) = refl

-- whether a first value and the others are there
pub weighs_all : (m : Computed Value) (u : Computed (List Value)) → done_of (and_then m (λ v. and_then u (λ vs. Done (v ∷ vs)))) ≡ and_then (done_of m) (λ _. done_of u)
weighs_all (Done a) (Done vs) = refl
weighs_all (Done a) (Sticks why) = refl
weighs_all (Done a) (Halts why) = refl
weighs_all (Sticks why) u = refl
weighs_all (Halts why) u = refl

-- the first trouble is that of them all
pub stops : (t : Trouble) (m : Computed Value) (u : Computed (List Value)) → computed_of {A = Unit {0}} (Err t) ≡ done_of m
    → computed_of {A = Unit {0}} (Err t) ≡ done_of (and_then m (λ v. and_then u (λ vs. Done (v ∷ vs))))
stops (trouble.Stuck why) m u is = ap (λ c. and_then c (λ _. done_of u)) is ∙ sym (weighs_all m u)
stops (trouble.Halts why) m u is = ap (λ c. and_then c (λ _. done_of u)) is ∙ sym (weighs_all m u)

pub passes : (m : Computed Value) (u : Computed (List Value)) → Done (tt {0}) ≡ done_of m → done_of (and_then m (λ v. and_then u (λ vs. Done (v ∷ vs)))) ≡ done_of u
passes m u is = weighs_all m u ∙ ap (λ c. and_then c (λ _. done_of u)) (sym is)

-- the values so far, one more, and those of the rest
more_made : (v : Value) (vs : List Value) (u : Computed (List Value)) → and_then (and_then u (λ ws. Done (v ∷ ws))) (λ ws. Done (vs ++ ws)) ≡ and_then u (λ ws. Done ((vs ++ v ∷ []) ++ ws))
more_made v vs (Done ws) = ap Done (sym (append_assoc vs (v ∷ []) ws))
more_made v vs (Sticks why) = refl
more_made v vs (Halts why) = refl

pub makes_more : (m : Computed Value) (u : Computed (List Value)) (v : Value) (vs : List Value) → m ≡ Done v
    → and_then (and_then m (λ w. and_then u (λ ws. Done (w ∷ ws)))) (λ ws. Done (vs ++ ws)) ≡ and_then u (λ ws. Done ((vs ++ v ∷ []) ++ ws))
makes_more m u v vs is = ap (λ c. and_then (and_then c (λ w. and_then u (λ ws. Done (w ∷ ws)))) (λ ws. Done (vs ++ ws))) is ∙ more_made v vs u

-- the rest of a list begins with the element that was read
pub next_is : {X : Type 0} (xs : List X) (i : ℕ) (x : X) → i < length xs → x ≡ get_or xs i x → drop i xs ≡ x ∷ drop (i + 1) xs
next_is xs i x lt is = drop_more xs i x lt ∙ ap (λ y. y ∷ drop (i + 1) xs) (sym is)
