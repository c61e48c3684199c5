-- Sums to which a name or a bare number is added.
use Rattle.std.proofs.Common.{◌≡◌, ℕ, ◌+◌, ◌≤◌, ◌^◌, ℤ, pos, ◌+ℤ◌, ◌*ℤ◌, unsigned_abs, Bool, true, false, cond, [], ◌∷◌, ◌++◌, Some, None, unwrap_or, refl, sym, ◌∙◌, ap, arith}
use Rattle.std.specs.Option.{option_map}
use Rattle.std.specs.Ordering.{nat_cmp}
use Rattle.std.specs.Cmp.Lexicographic.{slice_cmp, texts_ties}
use Rattle.std.specs.BTreeMap.{get, Updates}
use Rattle.std.proofs.lemmas.Int.{ints}
use Rattle.std.proofs.Math.IntN as Z
use Rattle.core_language.specs.Names.{Ident, same}
use Rattle.core_language.specs.Terms.{Term}
use Rattle.farkas_check.proofs.Sums.{size-add}
use Rattle.wide_sums.proofs.Sizes.{size-mul}
use Rattle.linear_forms.specs.NormalTerms.{count_of, bare_of, one_named}
use Rattle.linear_forms.specs.Replacing.{counting}
use Rattle.linear_forms.proofs.Counts.{sum-append}
use Rattle.linear_forms.proofs.SameNames.{same_is, same-turned}
use Rattle.substitution.specs.declared.summands.Summand.{Summand}
use Rattle.substitution.specs.declared.summands.Summands.{Summands}
use Rattle.substitution.specs.Sums.{sum_at, HasSums, IsWithin}

times_one : (z : ℤ) → z *ℤ pos 1 ≡ z
unfolding Z.one
times_one z = Z.*ℤ-one z

count-number : (x : Ident) (s : Term) (z : ℤ) → count_of x (s ++ counting z None ∷ []) ≡ count_of x s
count-number x s z = omega (arith, ints, sum-append (pos 0) (one_named x) s (counting z None ∷ []), Z.*ℤ-zero z)

bare-number : (s : Term) (z : ℤ) → bare_of (s ++ counting z None ∷ []) ≡ bare_of s +ℤ z
bare-number s z = omega (arith, ints, sum-append (pos 1) (λ x. pos 0) s (counting z None ∷ []), times_one z)

bare-name : (y : Ident) (s : Term) (z : ℤ) → bare_of (s ++ counting z (Some y) ∷ []) ≡ bare_of s
bare-name y s z = omega (arith, ints, sum-append (pos 1) (λ x. pos 0) s (counting z (Some y) ∷ []), Z.*ℤ-zero z)

count-name : (x y : Ident) (s : Term) (z : ℤ) → count_of x (s ++ counting z (Some y) ∷ []) ≡ count_of x s +ℤ (z *ℤ one_named x y)
count-name x y s z = omega (arith, ints, sum-append (pos 0) (one_named x) s (counting z (Some y) ∷ []))

pub added_number : (old new : Summands) (z : ℤ) → new.named ≡ old.named → new.constant ≡ old.constant +ℤ z → (s : Term) → HasSums old s → HasSums new (s ++ counting z None ∷ [])
added_number old new z e k s h = record {
  counts = λ x. ap (λ m. unwrap_or (option_map (λ v. v.sum) (get (slice_cmp nat_cmp) m x)) (pos 0)) e ∙ h.counts x ∙ sym (count-number x s z);
  constant = k ∙ ap (λ c. c +ℤ z) h.constant ∙ sym (bare-number s z);
}

pub number_within : (old new : Summands) (z : ℤ) (size : ℕ) → new.named ≡ old.named → new.constant ≡ old.constant +ℤ z → unsigned_abs z ≤ 2 ^ 126 → IsWithin size old → IsWithin (size + 2 ^ 126) new
number_within old new z size e k b h = record {
  counts = λ x. let same_sum : sum_at new x ≡ sum_at old x = ap (λ m. unwrap_or (option_map (λ v. v.sum) (get (slice_cmp nat_cmp) m x)) (pos 0)) e in rw same_sum (let w = h.counts x in omega arith);
  constant = rw k (omega (arith, size-add old.constant z, h.constant, b));
}

pub product_size : (w t : ℤ) → unsigned_abs w ≤ 2 ^ 63 → unsigned_abs t ≤ 2 ^ 63 → unsigned_abs (w *ℤ t) ≤ 2 ^ 126
product_size w t h k = omega (arith, size-mul w t (2 ^ 63) (2 ^ 63) h k)

module _ (old mid new : Summands) (y : Ident) (s : Summand) (z : ℤ)
    (others : (x : Ident) → same y x ≡ false → sum_at mid x ≡ sum_at old x)
    (puts : Updates (slice_cmp nat_cmp) mid.named new.named y (Some s))
    (sum_is : s.sum ≡ sum_at old y +ℤ z) where
  at_new : (x : Ident) (b : Bool) → same y x ≡ b → sum_at new x ≡ cond b (sum_at old y +ℤ z) (sum_at old x)
  at_new x true e =
      let found : get (slice_cmp nat_cmp) new.named x ≡ Some s = puts.0 x ∙ ap (λ b. cond b (Some s) (get (slice_cmp nat_cmp) mid.named x)) (sym (texts_ties y x) ∙ e) in
      ap (λ o. unwrap_or (option_map (λ v. v.sum) o) (pos 0)) found ∙ sum_is
  at_new x false e =
      let there : get (slice_cmp nat_cmp) new.named x ≡ get (slice_cmp nat_cmp) mid.named x = puts.0 x ∙ ap (λ b. cond b (Some s) (get (slice_cmp nat_cmp) mid.named x)) (sym (texts_ties y x) ∙ e) in
      ap (λ o. unwrap_or (option_map (λ v. v.sum) o) (pos 0)) there ∙ others x e

  pub added_name : new.constant ≡ old.constant → (t : Term) → HasSums old t → HasSums new (t ++ counting z (Some y) ∷ [])
  added_name k t h = record {
    counts = λ x. each x (same y x) refl;
    constant = k ∙ h.constant ∙ sym (bare-name y t z);
  }
    where
      each : (x : Ident) (b : Bool) → same y x ≡ b → sum_at new x ≡ count_of x (t ++ counting z (Some y) ∷ [])
      each x true e =
          let here : one_named x y ≡ pos 1 = rw (same-turned x y, e) refl in
          let one : sum_at old y ≡ count_of x t = ap (sum_at old) (same_is y x e) ∙ h.counts x in
          at_new x true e ∙ omega (arith, ints, one, count-name x y t z, ap (λ k. z *ℤ k) here, times_one z)
      each x false e =
          let there : one_named x y ≡ pos 0 = rw (same-turned x y, e) refl in
          at_new x false e ∙ omega (arith, ints, h.counts x, count-name x y t z, ap (λ k. z *ℤ k) there, Z.*ℤ-zero z)

  pub name_within : (size : ℕ) → new.constant ≡ old.constant → unsigned_abs z ≤ 2 ^ 126 → IsWithin size old → IsWithin (size + 2 ^ 126) new
  name_within size k b h = record {
    counts = λ x. each x (same y x) refl;
    constant = rw k (let w = h.constant in omega arith);
  }
    where
      each : (x : Ident) (c : Bool) → same y x ≡ c → unsigned_abs (sum_at new x) ≤ size + 2 ^ 126
      each x true e = rw (at_new x true e) (omega (arith, size-add (sum_at old y) z, h.counts y, b))
      each x false e = rw (at_new x false e) (let w = h.counts x in omega arith)

pub looser : (a b : ℕ) (s : Summands) → a ≤ b → IsWithin a s → IsWithin b s
looser a b s l h = record {
  counts = λ x. let w = h.counts x in omega arith;
  constant = let w = h.constant in omega arith;
}

pub one_times : (z : ℤ) → pos 1 *ℤ z ≡ z
one_times z = omega (arith, ints)
