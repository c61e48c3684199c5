-- Sums to which a part is added.
use Rattle.std.proofs.Common.{◌≡◌, ℕ, suc, FitsSigned, ◌-◌, ◌+◌, ◌<◌, ◌≤◌, List, ◌∷◌, length, map, drop, drop-cons, get_or, subst, ◌^◌, ℤ, pos, ◌+ℤ◌, ◌*ℤ◌, Bool, true, false, if◌then◌else◌, Option, Some, None, unwrap_or, unsigned_abs, refl, sym, ap, ◌∙◌, arith, ◌⊎◌, inl, inr}
use Rattle.std.specs.Cmp.Lexicographic.{bytes_decides, slice_cmp}
use Rattle.std.specs.Ordering.{nat_cmp}
use Rattle.std.specs.BTreeMap.{get, Updates}
use Rattle.std.specs.Int.{w128}
use Rattle.std.proofs.lemmas.Int.{ints, fits_signed_from_abs}
use Rattle.std.proofs.lemmas.Cmp.{eq_by_cmp_equiv, nat_list_cmp_total}
use Rattle.std.proofs.lemmas.Map.Text.{is_eq-slice_cmp}
use Rattle.linear_forms.specs.NormalTerms.{count_of, bare_of, one_named}
use Rattle.std.proofs.Math.IntN as Z
use Rattle.core_language.specs.Names.{Ident, same}
use Rattle.core_language.specs.Terms.{Part}
use Rattle.farkas_check.proofs.Sums.{size-add}
use Rattle.linear_forms.specs.Terms.{times_of, counted}
use Rattle.chan_syntax.specs.declared.linear.Part.{Part as Written}
use Rattle.chan_syntax.specs.Reading.{part_of}
use Rattle.narrow_terms.specs.declared.narrowness.Sums.{Sums}
use Rattle.narrow_terms.specs.Sums.{count_in, Adds, IsWithin}

once : (t : ℤ) → t *ℤ pos 1 ≡ t
unfolding Z.one
once t = Z.*ℤ-one t

pub bare_adds : (part : Part) (old new : Sums) (z : ℤ) → part.name ≡ None → new.counts ≡ old.counts → new.constant ≡ old.constant +ℤ z → z ≡ times_of part → Adds part old new
unfolding count_in
bare_adds part old new z name counts constant times = record {
  counts = λ x. rw (counts, name, Z.*ℤ-zero (times_of part)) (omega (arith, ints));
  constant = rw (constant, name, once (times_of part), times) refl;
}

pub named_adds : (part : Part) (old new : Sums) (x : Ident) (z : ℤ) → part.name ≡ Some x → Updates (slice_cmp nat_cmp) old.counts new.counts x (Some z) → z ≡ count_in old x +ℤ times_of part
    → new.constant ≡ old.constant → Adds part old new
unfolding count_in
named_adds part old new x z name updates sum constant = record {
  counts = λ y. rw name (by y (same y x) refl);
  constant = rw (constant, name, Z.*ℤ-zero (times_of part)) (omega (arith, ints));
}
  where
    by : (y : Ident) (b : Bool) → same y x ≡ b
        → unwrap_or (get (slice_cmp nat_cmp) new.counts y) (pos 0) ≡ unwrap_or (get (slice_cmp nat_cmp) old.counts y) (pos 0) +ℤ (times_of part *ℤ one_named y x)
    by y true is =
        let one : y ≡ x = (bytes_decides y x).0 is in
        ap (λ o. unwrap_or o (pos 0)) (ap (get (slice_cmp nat_cmp) new.counts) one ∙ updates.1)
        ∙ sum
        ∙ ap (λ n. unwrap_or (get (slice_cmp nat_cmp) old.counts n) (pos 0) +ℤ times_of part) (sym one)
        ∙ ap (λ t. unwrap_or (get (slice_cmp nat_cmp) old.counts y) (pos 0) +ℤ t) (sym (once (times_of part)) ∙ ap (λ b. times_of part *ℤ (if b then pos 1 else pos 0)) (sym is))
    by y false is =
        ap (λ o. unwrap_or o (pos 0)) (updates.2 y ((eq_by_cmp_equiv nat_list_cmp_total).symm x y ∙ is_eq-slice_cmp y x ∙ is))
        ∙ nothing (unwrap_or (get (slice_cmp nat_cmp) old.counts y) (pos 0))
        ∙ ap (λ b. unwrap_or (get (slice_cmp nat_cmp) old.counts y) (pos 0) +ℤ (times_of part *ℤ (if b then pos 1 else pos 0))) (sym is)
      where
        nothing : (w : ℤ) → w ≡ w +ℤ (times_of part *ℤ pos 0)
        nothing w = rw (Z.*ℤ-zero (times_of part)) (omega (arith, ints))

pub grows_within : (part : Part) (old new : Sums) (size : ℕ) → Adds part old new → unsigned_abs (times_of part) ≤ 2 ^ 63 → IsWithin size old → IsWithin (size + 2 ^ 63) new
grows_within part old new size adds small within = record {
  counts = λ x. rw (adds.counts x) (more (count_in old x) (counted (pos 0) (one_named x) part.name) (within.counts x) (zero_or_one (pos 0) x (inl refl) part.name));
  constant = rw adds.constant (more old.constant (counted (pos 1) (λ y. pos 0) part.name) within.constant (bare part.name));
}
  where
    bare : (n : Option Ident) → (counted (pos 1) (λ y. pos 0) n ≡ pos 0) ⊎ (counted (pos 1) (λ y. pos 0) n ≡ pos 1)
    bare None = inr refl
    bare (Some y) = inl refl

    zero_or_one : (u : ℤ) (x : Ident) → (u ≡ pos 0) ⊎ (u ≡ pos 1) → (n : Option Ident) → (counted u (one_named x) n ≡ pos 0) ⊎ (counted u (one_named x) n ≡ pos 1)
    zero_or_one u x is None = is
    zero_or_one u x is (Some y) = by (same x y)
      where
        by : (b : Bool) → ((if b then pos 1 else pos 0) ≡ pos 0) ⊎ ((if b then pos 1 else pos 0) ≡ pos 1)
        by true = inr refl
        by false = inl refl

    more : (w c : ℤ) → unsigned_abs w ≤ size → (c ≡ pos 0) ⊎ (c ≡ pos 1) → unsigned_abs (w +ℤ (times_of part *ℤ c)) ≤ size + 2 ^ 63
    more w c h (inl zero_is) = rw (zero_is, Z.*ℤ-zero (times_of part)) (omega (arith, ints, h))
    more w c h (inr one_is) = rw (one_is, once (times_of part)) (omega (arith, size-add w (times_of part), h, small))

pub small_times : (part : Part) (z : ℤ) → z ≡ times_of part → unsigned_abs z ≤ 2 ^ 63 → unsigned_abs (times_of part) ≤ 2 ^ 63
small_times part z is small = subst (λ w. unsigned_abs w ≤ 2 ^ 63) is small

pub count_more : (ps : List Written) (i : ℕ) (part : Written) (old new : Sums) (x : Ident) (total : ℤ) → drop i ps ≡ part ∷ drop (i + 1) ps → Adds (part_of part) old new
    → count_in old x +ℤ count_of x (map part_of (drop i ps)) ≡ total → count_in new x +ℤ count_of x (map part_of (drop (i + 1) ps)) ≡ total
count_more ps i part old new x total opened adds h =
    let one = subst (λ (qs : List Written). count_in old x +ℤ count_of x (map part_of qs) ≡ total) opened h in
    omega (arith, ints, adds.counts x, one)

pub constant_more : (ps : List Written) (i : ℕ) (part : Written) (old new : Sums) (total : ℤ) → drop i ps ≡ part ∷ drop (i + 1) ps → Adds (part_of part) old new
    → old.constant +ℤ bare_of (map part_of (drop i ps)) ≡ total → new.constant +ℤ bare_of (map part_of (drop (i + 1) ps)) ≡ total
constant_more ps i part old new total opened adds h =
    let one = subst (λ (qs : List Written). old.constant +ℤ bare_of (map part_of qs) ≡ total) opened h in
    omega (arith, ints, adds.constant, one)

pub opened_at : (ps : List Written) (i : ℕ) (part : Written) → i < length ps → part ≡ get_or ps i part → drop i ps ≡ part ∷ drop (i + 1) ps
opened_at ps i part lt is = let next : i + 1 ≡ suc i = omega arith in rw next (drop-cons ps i part lt ∙ ap (λ p. p ∷ drop (suc i) ps) (sym is))

-- a sum that 128 bits hold
pub sum_fits : (w t z : ℤ) → z ≡ w +ℤ t → unsigned_abs w ≤ 2 ^ 127 - 2 ^ 64 → unsigned_abs t ≤ 2 ^ 63 → FitsSigned w128 z
sum_fits w t z is small few = rw is (fits_signed_from_abs w128 (w +ℤ t) (omega (arith, size-add w t, small, few)))
