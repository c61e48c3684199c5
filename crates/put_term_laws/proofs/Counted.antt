-- A normal form counts each name as its parts do.
use Rattle.std.proofs.Common.{◌≡◌, ℤ, pos, ◌+ℤ◌, ◌*ℤ◌, Bool, true, false, ◌||◌, if◌then◌else◌, List, [], ◌∷◌, map, Option, Some, None, unwrap_or, refl, sym, ap, ◌∙◌, arith, subst}
use Rattle.std.proofs.lemmas.Int.{ints}
use Rattle.std.proofs.Math.IntN as Z
use Rattle.std.specs.Ordering.{nat_cmp, is_eq}
use Rattle.std.specs.Cmp.Lexicographic.{slice_cmp, texts_ties}
use Rattle.std.specs.Map.{lookup, keys_of}
use Rattle.std.specs.BTreeMap.{is_at}
use Rattle.std.specs.List.Sorted.{IsStrictlySortedBy}
use Rattle.core_language.specs.Names.{Ident, same}
use Rattle.core_language.specs.Terms as core
use Rattle.linear_forms.specs.Terms.{times_of, counted}
use Rattle.linear_forms.specs.NormalTerms.{Counted, nonzero, spelled, one_named, count_of, bare_of}
use Rattle.linear_forms.proofs.SameNames.{same_is}
use Rattle.linear_forms.proofs.Counts.{same_counts}
use Rattle.linear_forms.proofs.SpelledSums.{count-nonzero, count-spelled, bare-spelled, nonzero-counted, nonzero-sorted}
use Rattle.chan_syntax.specs.declared.linear.Part.{Part}
use Rattle.chan_base.specs.declared.spans.Span.{Span}
use Rattle.chan_syntax.specs.Reading.{part_of, term_of}
use Rattle.session_lowering.specs.PutTerms.{with_some, names_in_order, placed, normal_parts, normal}
use Rattle.put_term_laws.specs.PutTerms.{NormalIsSame, NormalIsNormal}
use Rattle.put_term_laws.proofs.InOrder.{in_order, has, has_with}

abbrev counts : List core.Part → List Ident → List Counted
counts sum xs = map (λ x. (x, count_of x sum)) xs

keys_counts : (sum : List core.Part) (xs : List Ident) → keys_of (counts sum xs) ≡ xs
keys_counts sum [] = refl
keys_counts sum (x ∷ xs) = ap (λ ys. x ∷ ys) (keys_counts sum xs)

looked_up : (x : Ident) (sum : List core.Part) (ys : List Ident)
    → unwrap_or (lookup (is_at (slice_cmp nat_cmp x)) (counts sum ys)) (pos 0) ≡ (if has x ys then count_of x sum else pos 0)
looked_up x sum [] = refl
looked_up x sum (y ∷ ys) = pick (same x y) (is_eq (slice_cmp nat_cmp x y)) refl (sym (texts_ties x y)) (looked_up x sum ys)
  where
    pick : (b e : Bool) → same x y ≡ b → e ≡ same x y → unwrap_or (lookup (is_at (slice_cmp nat_cmp x)) (counts sum ys)) (pos 0) ≡ (if has x ys then count_of x sum else pos 0)
        → unwrap_or (if e then Some (count_of y sum) else lookup (is_at (slice_cmp nat_cmp x)) (counts sum ys)) (pos 0) ≡ (if b || has x ys then count_of x sum else pos 0)
    pick true true q k more = ap (λ w. count_of w sum) (sym (same_is x y q))
    pick false false q k more = more
    pick true false q k more = absurd cc
    pick false true q k more = absurd cc

-- a name that doesn't stand there isn't counted
not_there : (x : Ident) (parts : List Part) → has x (names_in_order parts) ≡ false → count_of x (map part_of parts) ≡ pos 0
not_there x [] none = refl
not_there x (p ∷ ps) none = pick p.name none (not_there x ps)
  where
    no_times : (z r : ℤ) → r ≡ pos 0 → (z *ℤ pos 0) +ℤ r ≡ pos 0
    no_times z r is = omega (arith, ints, is, Z.*ℤ-zero z)

    either : (a b : Bool) → a || b ≡ false → (a ≡ false) × (b ≡ false)
    either false false is = (refl, refl)
    either false true is = absurd cc
    either true b is = absurd cc

    by_name : (y : Ident) → (same x y ≡ false) × (has x (names_in_order ps) ≡ false) → (has x (names_in_order ps) ≡ false → count_of x (map part_of ps) ≡ pos 0)
        → (times_of (part_of p) *ℤ (if same x y then pos 1 else pos 0)) +ℤ count_of x (map part_of ps) ≡ pos 0
    by_name y (other, rest) more = ap (λ b. (times_of (part_of p) *ℤ (if b then pos 1 else pos 0)) +ℤ count_of x (map part_of ps)) other ∙ no_times (times_of (part_of p)) (count_of x (map part_of ps)) (more rest)

    pick : (o : Option Ident) → has x (with_some o (names_in_order ps)) ≡ false → (has x (names_in_order ps) ≡ false → count_of x (map part_of ps) ≡ pos 0)
        → (times_of (part_of p) *ℤ counted (pos 0) (one_named x) o) +ℤ count_of x (map part_of ps) ≡ pos 0
    pick None is more = no_times (times_of (part_of p)) (count_of x (map part_of ps)) (more is)
    pick (Some y) is more = by_name y (either (same x y) (has x (names_in_order ps)) (sym (has_with x y (names_in_order ps)) ∙ is)) more

there_or_none : (x : Ident) (parts : List Part) → (if has x (names_in_order parts) then count_of x (map part_of parts) else pos 0) ≡ count_of x (map part_of parts)
there_or_none x parts = pick (has x (names_in_order parts)) refl
  where
    pick : (b : Bool) → has x (names_in_order parts) ≡ b → (if b then count_of x (map part_of parts) else pos 0) ≡ count_of x (map part_of parts)
    pick true is = refl
    pick false is = sym (not_there x parts is)

abbrev its_counts : List Part → List Counted
its_counts parts = counts (map part_of parts) (names_in_order parts)

sorted_keys : (parts : List Part) → IsStrictlySortedBy (slice_cmp nat_cmp) (keys_of (its_counts parts))
sorted_keys parts = subst (IsStrictlySortedBy (slice_cmp nat_cmp)) (sym (keys_counts (map part_of parts) (names_in_order parts))) (in_order parts)

-- places aside nothing of the normal form is changed
unplaced : (parts : List Part) (qs : List core.Part) → map part_of (map (placed parts) qs) ≡ qs
unplaced parts [] = refl
unplaced parts (q ∷ qs) = ap (λ rs. q ∷ rs) (unplaced parts qs)

pub reads_as : (span : Span) (parts : List Part) → term_of (normal span parts) ≡ normal_parts parts
reads_as span parts = unplaced parts (normal_parts parts)

counts_alike : (x : Ident) (parts : List Part) → count_of x (normal_parts parts) ≡ count_of x (map part_of parts)
counts_alike x parts =
    count-spelled x (nonzero (its_counts parts)) (bare_of (map part_of parts)) ∙ count-nonzero x (its_counts parts) (sorted_keys parts)
    ∙ looked_up x (map part_of parts) (names_in_order parts) ∙ there_or_none x parts

pub normal_is_same : NormalIsSame
normal_is_same span parts =
    same_counts (term_of (normal span parts)) (map part_of parts)
    (λ x. ap (count_of x) (reads_as span parts) ∙ counts_alike x parts)
    (ap bare_of (reads_as span parts) ∙ bare-spelled (nonzero (its_counts parts)) (bare_of (map part_of parts)))

pub normal_is_normal : NormalIsNormal
normal_is_normal span parts = record {
  counts = nonzero (its_counts parts);
  constant = bare_of (map part_of parts);
  ordered = nonzero-sorted (its_counts parts) (sorted_keys parts);
  counted = nonzero-counted (its_counts parts);
  spelled = reads_as span parts;
}
