-- A path that is followed goes the ways that the end goes where the hypotheses are true.
use Rattle.std.proofs.Common.{◌≡◌, ℕ, suc, ◌≤◌, ℤ, pos, neg_ℤ, ◌-ℤ◌, ◌*ℤ◌, ◌≤ℤ◌, ◌<ℤ◌, int_le, Bool, true, false, List, [], ◌∷◌, All, map, length, slice_get, option_to_list, Option, Some, None, Result, Ok, Err, IsOk, refl, sym, subst, arith}
use Rattle.std.specs.List.{list_all, list_any}
use Rattle.std.specs.Ordering.{int_eq}
use Rattle.std.proofs.lemmas.Int.{ints}
use Rattle.std.proofs.lemmas.List.Elements.{All-head}
use Rattle.std.proofs.Math.IntN as Z
use Rattle.std.proofs.Math.Bool.{false≢true}
use Rattle.core_language.specs.Names.{Ident, same}
use Rattle.core_language.specs.Terms.{Part, Term}
use Rattle.core_language.specs.Operands.{Letter, First, Second, Cert}
use Rattle.farkas_check.specs.declared.cert.Row.{Row}
use Rattle.farkas_check.specs.declared.cert.CertFault.{CertFault}
use Rattle.farkas_check.specs.Rows.{linear_part, value_at}
use Rattle.farkas_check.specs.Certificates.{faults, verdict}
use Rattle.farkas_check.proofs.Forms.{entailed}
use Rattle.farkas_check.proofs.Validity.{valid-ok}
use Rattle.farkas_check.proofs.Products.{neg_times}
use Rattle.linear_forms.specs.Terms.{times_of, counted, sum_of, named, by_place, put_of, negated, less, one}
use Rattle.linear_forms.specs.Normal.{names_of}
use Rattle.linear_forms.proofs.Linear.{normal_value}
use Rattle.linear_forms.proofs.Counts.{sum-less}
use Rattle.linear_forms.proofs.Shorts.{all_left, all_right}
use Rattle.protocols.specs.Heads.{argument, way}
use Rattle.protocols.specs.Unfolding.{Setting, asked_row, taken, shown, obligation, NamesOnly}
use Rattle.outline_language.specs.Contexts.{asks_nothing, mentioned}

-- what a parameter has is the value of its argument
pub argument_value : (at : Ident → ℤ) (params : List Ident) (ts : List Term) (x : Ident) → length ts ≡ length params → list_any (λ p. same p x) params ≡ true → named (put_of params ts) (pos 1) at x ≡ argument params (map (sum_of (pos 1) at) ts) x
argument_value at [] ts x l m = absurd (false≢true m)
argument_value at (p ∷ ps) [] x l m = absurd (omega (arith, l))
argument_value at (p ∷ ps) (t ∷ ts) x l m = pick (same p x) refl (λ k. argument_value at ps ts x (omega (arith, l)) k)
  where
    pick : (b : Bool) → same p x ≡ b → (list_any (λ q. same q x) ps ≡ true → named (put_of ps ts) (pos 1) at x ≡ argument ps (map (sum_of (pos 1) at) ts) x) → named (put_of (p ∷ ps) (t ∷ ts)) (pos 1) at x ≡ argument (p ∷ ps) (map (sum_of (pos 1) at) (t ∷ ts)) x
    pick true q again = rw q refl
    pick false q again = let later : list_any (λ q. same q x) ps ≡ true = rw q at m in rw q (again later)

pub sum_only : (u : ℤ) (f g : Ident → ℤ) (P : Ident → Type 0) (t : Term) → All P (names_of t) → ((x : Ident) → P x → f x ≡ g x) → sum_of u f t ≡ sum_of u g t
sum_only u f g P [] h k = refl
sum_only u f g P (p ∷ ps) h k = rw (here p.name (all_left P (option_to_list p.name) (names_of ps) h), sum_only u f g P ps (all_right P (option_to_list p.name) (names_of ps) h) k) refl
  where
    here : (o : Option Ident) → All P (option_to_list o) → counted u f o ≡ counted u g o
    here None a = refl
    here (Some x) a = k x (All-head P x [] a)

-- a term of an equation has one value, by the arguments or by what the parameters have
pub term_value_is : (at : Ident → ℤ) (params : List Ident) (ts : List Term) (t : Term) → length ts ≡ length params → NamesOnly params t → sum_of (pos 1) (named (put_of params ts) (pos 1) at) t ≡ sum_of (pos 1) (argument params (map (sum_of (pos 1) at) ts)) t
term_value_is at params ts t l only = sum_only (pos 1) (named (put_of params ts) (pos 1) at) (argument params (map (sum_of (pos 1) at) ts)) (λ x. list_any (λ p. same p x) params ≡ true) t only (λ x m. argument_value at params ts x l m)

-- ---- rows

no_coefficient : (values : ℕ → ℤ) (cs : List ℤ) → list_all (λ c. int_eq c (pos 0)) cs ≡ true → linear_part values cs ≡ pos 0
no_coefficient values [] h = refl
no_coefficient values (c ∷ cs) h = pick (int_eq c (pos 0)) refl (no_coefficient (λ k. values (suc k)) cs)
  where
    pick : (b : Bool) → int_eq c (pos 0) ≡ b → (list_all (λ c. int_eq c (pos 0)) cs ≡ true → linear_part (λ k. values (suc k)) cs ≡ pos 0) → linear_part values (c ∷ cs) ≡ pos 0
    pick true e again =
        let rest : list_all (λ c. int_eq c (pos 0)) cs ≡ true = rw e at h in
        let zero_is : c ≡ pos 0 = grind (arith, ints) in
        rw (zero_is, again rest) (omega (arith, ints, Z.zero-*ℤ (values 0)))
    pick false e again = let none : false ≡ true = rw e at h in absurd (false≢true none)

at_most_zero : (values : ℕ → ℤ) (row : Row) → asks_nothing row ≡ true → value_at values row ≤ℤ pos 0
at_most_zero values row h = pick (list_all (λ c. int_eq c (pos 0)) row.coefficients) refl
  where
    pick : (b : Bool) → list_all (λ c. int_eq c (pos 0)) row.coefficients ≡ b → value_at values row ≤ℤ pos 0
    pick true e =
        let low : int_le row.constant (pos 0) ≡ true = rw e at h in
        let constant : row.constant ≤ℤ pos 0 = grind (arith, ints) in
        omega (arith, ints, no_coefficient values row.coefficients e)
    pick false e = let none : false ≡ true = rw e at h in absurd (false≢true none)

-- a row whose obligation is met is at most 0
pub met : (s : Setting) (values : ℕ → ℤ) (used more : ℕ) (row : Row) → ((k : ℕ) (cert : Cert) → slice_get s.certs k ≡ Some cert → 1 ≤ cert.divisor) → All (λ r. value_at values r ≤ℤ pos 0) s.hyps → obligation s used row ≡ Ok more → value_at values row ≤ℤ pos 0
met s values used more row divisors hyps h = pick (asks_nothing row) refl
  where
    by : (cert : Cert) → slice_get s.certs used ≡ Some cert → (found : Result (Unit {0}) CertFault) → verdict (faults cert.divisor (map mentioned cert.mentions) s.hyps row) ≡ found → taken used found ≡ Ok more → value_at values row ≤ℤ pos 0
    by cert e (Err fault) v t = absurd cc
    by cert e (Ok x) v t =
        let ok : IsOk (verdict (faults cert.divisor (map mentioned cert.mentions) s.hyps row)) = subst IsOk (sym v) refl in
        entailed cert.divisor (map mentioned cert.mentions) s.hyps row (divisors used cert e) ((valid-ok cert.divisor (map mentioned cert.mentions) s.hyps row).0 ok) values hyps

    with_cert : (o : Option Cert) → slice_get s.certs used ≡ o → shown s.hyps row used o ≡ Ok more → value_at values row ≤ℤ pos 0
    with_cert None e t = absurd cc
    with_cert (Some cert) e t = by cert e (verdict (faults cert.divisor (map mentioned cert.mentions) s.hyps row)) refl t

    pick : (b : Bool) → asks_nothing row ≡ b → value_at values row ≤ℤ pos 0
    pick true e = at_most_zero values row e
    pick false e = let tried : shown s.hyps row used (slice_get s.certs used) ≡ Ok more = rw e at h in with_cert (slice_get s.certs used) refl tried

-- ---- the way

-- the letter whose row is at most 0 is the way that the `if` goes
pub letter_is_way : (s : Setting) (values : ℕ → ℤ) (params : List Ident) (ts : List Term) (letter : Letter) (left right : Term) → length ts ≡ length params → NamesOnly params left → NamesOnly params right → value_at values (asked_row s (put_of params ts) letter left right) ≤ℤ pos 0 → letter ≡ way (argument params (map (sum_of (pos 1) (by_place s.ints values)) ts)) left right
letter_is_way s values params ts letter left right l only_left only_right h = by letter h
  where
    at : Ident → ℤ
    at = by_place s.ints values

    f : Ident → ℤ
    f = named (put_of params ts) (pos 1) at

    g : Ident → ℤ
    g = argument params (map (sum_of (pos 1) at) ts)

    left_is : sum_of (pos 1) f left ≡ sum_of (pos 1) g left
    left_is = term_value_is at params ts left l only_left

    right_is : sum_of (pos 1) f right ≡ sum_of (pos 1) g right
    right_is = term_value_is at params ts right l only_right

    by : (letter : Letter) → value_at values (asked_row s (put_of params ts) letter left right) ≤ℤ pos 0 → letter ≡ way g left right
    by First a =
        let value = normal_value (record { ints = s.ints; vars = put_of params ts }) (less left right) values in
        let low : sum_of (pos 1) g left ≤ℤ sum_of (pos 1) g right = omega (arith, ints, a, value, sum-less (pos 1) f left right, left_is, right_is) in
        let test : int_le (sum_of (pos 1) g left) (sum_of (pos 1) g right) ≡ true = grind (arith, ints) in
        rw test refl
    by Second a =
        let value = normal_value (record { ints = s.ints; vars = put_of params ts }) (one ∷ less right left) values in
        let high : sum_of (pos 1) g right <ℤ sum_of (pos 1) g left = omega (arith, ints, a, value, sum-less (pos 1) f right left, left_is, right_is) in
        let test : int_le (sum_of (pos 1) g left) (sum_of (pos 1) g right) ≡ false = grind (arith, ints) in
        rw test refl
