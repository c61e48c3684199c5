-- A list that is gone through and loses what fails a test.
use Rattle.std.proofs.Common.{◌≡◌, ℕ, zero, suc, ◌≤◌, List, [], ◌∷◌, ◌++◌, filter, take, drop, length, Bool, true, false, cond, refl, ap, arith}
use Rattle.core_language.specs.Names.{Ident}
use Rattle.machine_values.specs.declared.binds.Bind.{Bind}
use Rattle.machine_values.specs.Reading.{env_of, value_as}

module _ {X : Type 0} (p : X → Bool) where
  -- what was kept so far, and what the test will keep
  abbrev pub sifted : ℕ → List X → List X
  sifted i xs = take i xs ++ filter p (drop i xs)

  pub sift_over : (xs : List X) (i : ℕ) → length xs ≤ i → sifted i xs ≡ xs
  sift_over [] zero le = refl
  sift_over [] (suc i) le = refl
  sift_over (x ∷ xs) zero le = absurd (omega (arith, le))
  sift_over (x ∷ xs) (suc i) le = ap (λ zs. x ∷ zs) (sift_over xs i (omega (arith, le)))

-- the variables that a test of names keeps
pub kept_binds : (test : Ident → Bool) (binds : List Bind) → env_of (filter (λ b. test b.name) binds) ≡ filter (λ b. test b.0) (env_of binds)
kept_binds test [] = refl
kept_binds test (b ∷ bs) = by (test b.name) (kept_binds test bs)
  where
    by : (c : Bool) → env_of (filter (λ b. test b.name) bs) ≡ filter (λ b. test b.0) (env_of bs)
        → env_of (cond c (b ∷ filter (λ b. test b.name) bs) (filter (λ b. test b.name) bs)) ≡ cond c ((b.name, value_as b.value) ∷ filter (λ b. test b.0) (env_of bs)) (filter (λ b. test b.0) (env_of bs))
    by true e = ap (λ zs. (b.name, value_as b.value) ∷ zs) e
    by false e = e
