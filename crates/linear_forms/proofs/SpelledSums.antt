-- The term that is spelled of sums.
use Rattle.std.proofs.Common.{◌≡◌, ◌≢◌, ℤ, pos, negsuc, neg_ℤ, ◌+ℤ◌, ◌*ℤ◌, int_lt, Bool, true, false, ◌&&◌, if◌then◌else◌, List, [], ◌∷◌, ◌++◌, Option, Some, None, unwrap_or, refl, sym, ◌∙◌, ap, arith, All}
use Rattle.std.specs.Ordering.{nat_cmp, int_eq, is_eq}
use Rattle.std.specs.Cmp.Lexicographic.{slice_cmp, texts_ties}
use Rattle.std.specs.declared.cmp.Ordering.TheVariants.{Less}
use Rattle.std.specs.List.{AllByRecursion}
use Rattle.std.specs.List.Sorted.{IsStrictlySortedBy}
use Rattle.std.specs.Map.{lookup, keys_of}
use Rattle.std.specs.BTreeMap.{is_at}
use Rattle.std.proofs.lemmas.List.Elements.{All-nil, All-cons, All-append}
use Rattle.std.proofs.Math.Bool.{false≢true}
use Rattle.std.proofs.lemmas.Map.Keys.{sorted_head, sorted_tail}
use Rattle.std.proofs.lemmas.Bool.Decides.{Decides-int_eq}
use Rattle.std.proofs.lemmas.Int.{ints}
use Rattle.std.proofs.Math.IntN as Z
use Rattle.core_language.specs.Names.{Ident, same}
use Rattle.core_language.specs.Terms.{Part}
use Rattle.linear_forms.specs.Terms.{times_of, counted, sum_of}
use Rattle.linear_forms.specs.NormalTerms.{Counted, signed, named_parts, constant_parts, spelled, one_named, count_of, bare_of, counted_once, nonzero}
use Rattle.linear_forms.proofs.SameNames.{same_is}
use Rattle.linear_forms.proofs.Counts.{sum-append}

times_one : (z : ℤ) → z *ℤ pos 1 ≡ z
unfolding Z.one
times_one z = Z.*ℤ-one z

times-pick : (b : Bool) (n : Option Ident) (z : ℤ) → times_of (if b then record { negative = true; factor = neg_ℤ z; name = n } else record { negative = false; factor = z; name = n }) ≡ z
times-pick true n z = omega (arith, ints)
times-pick false n z = refl

times-signed : (n : Option Ident) (z : ℤ) → times_of (signed n z) ≡ z
times-signed n z = times-pick (int_lt z (pos 0) && int_lt (negsuc 9223372036854775807) z) n z

abbrev name_of : Part → Option Ident
name_of p = p.name

name-signed : (n : Option Ident) (z : ℤ) → (signed n z).name ≡ n
name-signed n z = pick (int_lt z (pos 0) && int_lt (negsuc 9223372036854775807) z)
  where
    pick : (b : Bool) → name_of (if b then record { negative = true; factor = neg_ℤ z; name = n } else record { negative = false; factor = z; name = n }) ≡ n
    pick true = refl
    pick false = refl

pub sum-signed : (u : ℤ) (a : Ident → ℤ) (n : Option Ident) (z : ℤ) → sum_of u a (signed n z ∷ []) ≡ z *ℤ counted u a n
sum-signed u a n z = rw (times-signed n z, name-signed n z) (omega (arith, ints))

-- a name and its sum count what they say, also where they are left out
sum-once : (u : ℤ) (a : Ident → ℤ) (c : Counted) → sum_of u a (named_parts (counted_once c)) ≡ c.1 *ℤ a c.0
sum-once u a c = pick (int_eq c.1 (pos 0)) refl
  where
    pick : (b : Bool) → int_eq c.1 (pos 0) ≡ b → sum_of u a (named_parts (if b then [] else (c ∷ []))) ≡ c.1 *ℤ a c.0
    pick true q = let zero : c.1 ≡ pos 0 = (Decides-int_eq c.1 (pos 0)).0 q in rw zero (sym (Z.zero-*ℤ (a c.0)))
    pick false q = sum-signed u a (Some c.0) c.1

parts-append : (xs ys : List Counted) → named_parts (xs ++ ys) ≡ named_parts xs ++ named_parts ys
parts-append [] ys = refl
parts-append (x ∷ xs) ys = ap (λ l. signed (Some x.0) x.1 ∷ l) (parts-append xs ys)

sum-nonzero : (u : ℤ) (a : Ident → ℤ) (c : Counted) (cs : List Counted) → sum_of u a (named_parts (nonzero (c ∷ cs))) ≡ (c.1 *ℤ a c.0) +ℤ sum_of u a (named_parts (nonzero cs))
sum-nonzero u a c cs = rw (parts-append (counted_once c) (nonzero cs), sum-append u a (named_parts (counted_once c)) (named_parts (nonzero cs)), sum-once u a c) refl

-- a name that is no key isn't counted
absent : (x : Ident) (cs : List Counted) → AllByRecursion (λ y. slice_cmp nat_cmp x y ≡ Less) (keys_of cs) → count_of x (named_parts (nonzero cs)) ≡ pos 0
absent x [] h = refl
absent x (c ∷ cs) h =
    let other : same x c.0 ≡ false = texts_ties x c.0 ∙ ap is_eq h.0 in
    rw (sum-nonzero (pos 0) (one_named x) c cs, other, Z.*ℤ-zero c.1, absent x cs h.1) refl

-- a name counts as often as the sorted list says
pub count-nonzero : (x : Ident) (cs : List Counted) → IsStrictlySortedBy (slice_cmp nat_cmp) (keys_of cs) → count_of x (named_parts (nonzero cs)) ≡ unwrap_or (lookup (is_at (slice_cmp nat_cmp x)) cs) (pos 0)
count-nonzero x [] s = refl
count-nonzero x (c ∷ cs) s = sum-nonzero (pos 0) (one_named x) c cs ∙ pick (same x c.0) (is_eq (slice_cmp nat_cmp x c.0)) refl (sym (texts_ties x c.0)) (sorted_head (slice_cmp nat_cmp) c.0 (keys_of cs) s) (count-nonzero x cs (sorted_tail (slice_cmp nat_cmp) c.0 (keys_of cs) s))
  where
    pick : (b e : Bool) → same x c.0 ≡ b → e ≡ b → AllByRecursion (λ y. slice_cmp nat_cmp c.0 y ≡ Less) (keys_of cs) → count_of x (named_parts (nonzero cs)) ≡ unwrap_or (lookup (is_at (slice_cmp nat_cmp x)) cs) (pos 0) → (c.1 *ℤ (if b then pos 1 else pos 0)) +ℤ count_of x (named_parts (nonzero cs)) ≡ unwrap_or (if e then Some c.1 else lookup (is_at (slice_cmp nat_cmp x)) cs) (pos 0)
    pick true true q k h again = let none : count_of x (named_parts (nonzero cs)) ≡ pos 0 = rw (same_is x c.0 q) (absent c.0 cs h) in rw none (omega (arith, ints, times_one c.1))
    pick false false q k h again = rw again (omega (arith, ints, Z.*ℤ-zero c.1))
    pick true false q k h again = absurd cc
    pick false true q k h again = absurd cc

-- the bare number is the constant
pub bare-named : (cs : List Counted) → bare_of (named_parts cs) ≡ pos 0
bare-named [] = refl
bare-named (c ∷ cs) = omega (arith, ints, sum-append (pos 1) (λ x. pos 0) (signed (Some c.0) c.1 ∷ []) (named_parts cs), sum-signed (pos 1) (λ x. pos 0) (Some c.0) c.1, Z.*ℤ-zero c.1, bare-named cs)

pub sum-constant : (u : ℤ) (a : Ident → ℤ) (cs : List Counted) (z : ℤ) → sum_of u a (constant_parts cs z) ≡ z *ℤ u
sum-constant u a [] z = sum-signed u a None z
sum-constant u a (c ∷ cs) z = pick (int_eq z (pos 0)) refl
  where
    pick : (b : Bool) → int_eq z (pos 0) ≡ b → sum_of u a (if b then [] else (signed None z ∷ [])) ≡ z *ℤ u
    pick true q = rw ((Decides-int_eq z (pos 0)).0 q) (sym (Z.zero-*ℤ u))
    pick false q = sum-signed u a None z

-- what is spelled counts what it says
pub count-spelled : (x : Ident) (cs : List Counted) (z : ℤ) → count_of x (spelled cs z) ≡ count_of x (named_parts cs)
count-spelled x cs z = omega (arith, ints, sum-append (pos 0) (one_named x) (named_parts cs) (constant_parts cs z), sum-constant (pos 0) (one_named x) cs z, Z.*ℤ-zero z)

pub bare-spelled : (cs : List Counted) (z : ℤ) → bare_of (spelled cs z) ≡ z
bare-spelled cs z = omega (arith, ints, sum-append (pos 1) (λ x. pos 0) (named_parts cs) (constant_parts cs z), sum-constant (pos 1) (λ x. pos 0) cs z, bare-named cs, Z.*ℤ-one z)

-- what is left counts, in the same order
pub nonzero-counted : (cs : List Counted) → All (λ c. c.1 ≢ pos 0) (nonzero cs)
nonzero-counted [] = All-nil (λ c. c.1 ≢ pos 0)
nonzero-counted (c ∷ cs) = All-append (λ c. c.1 ≢ pos 0) (counted_once c) (nonzero cs) (pick (int_eq c.1 (pos 0)) refl) (nonzero-counted cs)
  where
    pick : (b : Bool) → int_eq c.1 (pos 0) ≡ b → All (λ (c : Counted). c.1 ≢ pos 0) (if b then [] else (c ∷ []))
    pick true q = All-nil (λ (c : Counted). c.1 ≢ pos 0)
    pick false q = All-cons (λ (c : Counted). c.1 ≢ pos 0) c [] (λ e. false≢true (sym q ∙ (Decides-int_eq c.1 (pos 0)).1 e)) (All-nil (λ (c : Counted). c.1 ≢ pos 0))

below-nonzero : (x : Ident) (cs : List Counted) → AllByRecursion (λ y. slice_cmp nat_cmp x y ≡ Less) (keys_of cs) → AllByRecursion (λ y. slice_cmp nat_cmp x y ≡ Less) (keys_of (nonzero cs))
below-nonzero x [] h = h
below-nonzero x (c ∷ cs) h = pick (int_eq c.1 (pos 0)) h.0 (below-nonzero x cs h.1)
  where
    pick : (b : Bool) → slice_cmp nat_cmp x c.0 ≡ Less → AllByRecursion (λ y. slice_cmp nat_cmp x y ≡ Less) (keys_of (nonzero cs)) → AllByRecursion (λ y. slice_cmp nat_cmp x y ≡ Less) (keys_of ((if b then [] else (c ∷ [])) ++ nonzero cs))
    pick true l rest = rest
    pick false l rest = (l, rest)

pub nonzero-sorted : (cs : List Counted) → IsStrictlySortedBy (slice_cmp nat_cmp) (keys_of cs) → IsStrictlySortedBy (slice_cmp nat_cmp) (keys_of (nonzero cs))
unfolding IsStrictlySortedBy
nonzero-sorted [] s = s
nonzero-sorted (c ∷ cs) s = pick (int_eq c.1 (pos 0)) (below-nonzero c.0 cs s.0) (nonzero-sorted cs s.1)
  where
    pick : (b : Bool) → AllByRecursion (λ y. slice_cmp nat_cmp c.0 y ≡ Less) (keys_of (nonzero cs)) → IsStrictlySortedBy (slice_cmp nat_cmp) (keys_of (nonzero cs)) → IsStrictlySortedBy (slice_cmp nat_cmp) (keys_of ((if b then [] else (c ∷ [])) ++ nonzero cs))
    pick true l rest = rest
    pick false l rest = (l, rest)
