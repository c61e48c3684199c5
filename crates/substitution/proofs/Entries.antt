-- The entries of sums, as the counts of the term that is spelled of them.
use Rattle.std.proofs.Common.{◌≡◌, ℤ, pos, Bool, true, false, ◌&&◌, cond, if◌then◌else◌, List, [], ◌∷◌, ◌++◌, Some, None, unwrap_or, refl, sym, ◌∙◌, ap}
use Rattle.std.specs.Option.{option_map}
use Rattle.std.specs.Ordering.{nat_cmp, int_eq, is_eq}
use Rattle.std.specs.Cmp.Lexicographic.{slice_cmp, texts_ties}
use Rattle.std.specs.declared.cmp.Ordering.TheVariants.{Less}
use Rattle.std.specs.List.{AllByRecursion, list_all}
use Rattle.std.specs.List.Sorted.{IsStrictlySortedBy}
use Rattle.std.specs.Map.{lookup, keys_of}
use Rattle.std.specs.BTreeMap.{is_at}
use Rattle.std.proofs.lemmas.Map.Keys.{sorted_head, sorted_tail}
use Rattle.std.proofs.Math.Bool.{false≢true}
use Rattle.std.proofs.lemmas.List.{append-nil}
use Rattle.core_language.specs.Names.{Ident}
use Rattle.core_language.specs.Terms.{Part, Term}
use Rattle.linear_forms.specs.Normal.{fits}
use Rattle.linear_forms.specs.NormalTerms.{Counted, signed, named_parts, spelled, nonzero, count_of, IsNormal, IsSameSum, NumbersFit}
use Rattle.linear_forms.proofs.Counts.{same_counts}
use Rattle.linear_forms.proofs.SameNames.{same_is, same-self}
use Rattle.linear_forms.proofs.SpelledSums.{count-nonzero, count-spelled, bare-spelled, nonzero-counted, nonzero-sorted}
use Rattle.substitution.specs.declared.summands.Summand.{Summand}
use Rattle.substitution.specs.declared.summands.Summands.{Summands}
use Rattle.substitution.specs.Sums.{sum_at, HasSums, sums_in, entry_fits}

keys-sums : (es : List (Ident × Summand)) → keys_of (sums_in es) ≡ keys_of es
keys-sums [] = refl
keys-sums (e ∷ es) = ap (λ l. e.0 ∷ l) (keys-sums es)

lookup-sums : (x : Ident) (es : List (Ident × Summand)) → lookup (is_at (slice_cmp nat_cmp x)) (sums_in es) ≡ option_map (λ s. s.sum) (lookup (is_at (slice_cmp nat_cmp x)) es)
lookup-sums x [] = refl
lookup-sums x (e ∷ es) = pick (is_at (slice_cmp nat_cmp x) e.0) (lookup-sums x es)
  where
    pick : (b : Bool) → lookup (is_at (slice_cmp nat_cmp x)) (sums_in es) ≡ option_map (λ s. s.sum) (lookup (is_at (slice_cmp nat_cmp x)) es) → cond b (Some e.1.sum) (lookup (is_at (slice_cmp nat_cmp x)) (sums_in es)) ≡ option_map (λ s. s.sum) (cond b (Some e.1) (lookup (is_at (slice_cmp nat_cmp x)) es))
    pick true h = refl
    pick false h = h

-- what a name counts in a list of entries
abbrev sum_in : List (Ident × Summand) → Ident → ℤ
sum_in es x = unwrap_or (option_map (λ s. s.sum) (lookup (is_at (slice_cmp nat_cmp x)) es)) (pos 0)

and_both : (a b : Bool) → (a && b) ≡ true → (a ≡ true) × (b ≡ true)
and_both true b e = (refl, e)
and_both false b e = absurd (false≢true e)

sums_fit : (x : Ident) (es : List (Ident × Summand)) → list_all entry_fits es ≡ true → fits (sum_in es x) ≡ true
sums_fit x [] h = refl
sums_fit x (e ∷ es) h = pick (is_at (slice_cmp nat_cmp x) e.0) (and_both (fits e.1.sum) (list_all entry_fits es) h).0 (sums_fit x es (and_both (fits e.1.sum) (list_all entry_fits es) h).1)
  where
    pick : (b : Bool) → fits e.1.sum ≡ true → fits (sum_in es x) ≡ true → fits (unwrap_or (option_map (λ s. s.sum) (cond b (Some e.1) (lookup (is_at (slice_cmp nat_cmp x)) es))) (pos 0)) ≡ true
    pick true f g = f
    pick false f g = g

-- a key below all others isn't among them
pub absent : (x : Ident) (es : List (Ident × Summand)) → AllByRecursion (λ y. slice_cmp nat_cmp x y ≡ Less) (keys_of es) → lookup (is_at (slice_cmp nat_cmp x)) es ≡ None
absent x [] h = refl
absent x (e ∷ es) h = ap (λ o. cond (is_eq o) (Some e.1) (lookup (is_at (slice_cmp nat_cmp x)) es)) h.0 ∙ absent x es h.1

all_fit : (es : List (Ident × Summand)) → IsStrictlySortedBy (slice_cmp nat_cmp) (keys_of es) → ((x : Ident) → fits (sum_in es x) ≡ true) → list_all entry_fits es ≡ true
all_fit [] s h = refl
all_fit (e ∷ es) s h = rw (first, all_fit es (sorted_tail (slice_cmp nat_cmp) e.0 (keys_of es) s) (λ x. rest x (is_eq (slice_cmp nat_cmp x e.0)) refl)) refl
  where
    first : fits e.1.sum ≡ true
    first = sym (ap (λ b. fits (unwrap_or (option_map (λ s. s.sum) (cond b (Some e.1) (lookup (is_at (slice_cmp nat_cmp e.0)) es))) (pos 0))) (sym (texts_ties e.0 e.0) ∙ same-self e.0)) ∙ h e.0

    rest : (x : Ident) (b : Bool) → is_eq (slice_cmp nat_cmp x e.0) ≡ b → fits (sum_in es x) ≡ true
    rest x true q =
        let one : x ≡ e.0 = same_is x e.0 (texts_ties x e.0 ∙ q) in
        let none : lookup (is_at (slice_cmp nat_cmp x)) es ≡ None = ap (λ y. lookup (is_at (slice_cmp nat_cmp y)) es) one ∙ absent e.0 es (sorted_head (slice_cmp nat_cmp) e.0 (keys_of es) s) in
        ap (λ o. fits (unwrap_or (option_map (λ s. s.sum) o) (pos 0))) none
    rest x false q = sym (ap (λ b. fits (unwrap_or (option_map (λ s. s.sum) (cond b (Some e.1) (lookup (is_at (slice_cmp nat_cmp x)) es))) (pos 0))) q) ∙ h x

-- ---- the constant after the names

pub pushed : (parts : List Part) (cs : List Counted) (z : ℤ) → parts ≡ named_parts cs → (int_eq z (pos 0) ≡ true → parts ≡ []) → parts ++ signed None z ∷ [] ≡ spelled cs z
pushed parts [] z e h = ap (λ l. l ++ signed None z ∷ []) e
pushed parts (c ∷ cs) z e h = ap (λ l. l ++ signed None z ∷ []) e ∙ pick (int_eq z (pos 0)) h
  where
    pick : (b : Bool) → (b ≡ true → parts ≡ []) → named_parts (c ∷ cs) ++ signed None z ∷ [] ≡ named_parts (c ∷ cs) ++ (if b then [] else (signed None z ∷ []))
    pick true h = let none : named_parts (c ∷ cs) ≡ [] = sym e ∙ h refl in absurd cc
    pick false h = refl

pub not_pushed : (parts : List Part) (cs : List Counted) (z : ℤ) → parts ≡ named_parts cs → z ≡ pos 0 → (parts ≡ [] → ⊥) → parts ≡ spelled cs z
not_pushed parts [] z e k h = absurd (h e)
not_pushed parts (c ∷ cs) z e k h = e ∙ rw k (sym (append-nil (named_parts (c ∷ cs))))

-- ---- the term of the sums

module _ (sums : Summands) (ordered : IsStrictlySortedBy (slice_cmp nat_cmp) (keys_of sums.named.entries)) where
  abbrev pub counts : List Counted
  counts = nonzero (sums_in sums.named.entries)

  sorted : IsStrictlySortedBy (slice_cmp nat_cmp) (keys_of (sums_in sums.named.entries))
  sorted = rw (keys-sums sums.named.entries) ordered

  count_is : (x : Ident) (z : ℤ) → count_of x (spelled counts z) ≡ sum_at sums x
  count_is x z = count-spelled x counts z ∙ count-nonzero x (sums_in sums.named.entries) sorted ∙ ap (λ o. unwrap_or o (pos 0)) (lookup-sums x sums.named.entries)

  pub same_sum : (t : Term) → HasSums sums t → IsSameSum (spelled counts sums.constant) t
  same_sum t h = same_counts (spelled counts sums.constant) t (λ x. count_is x sums.constant ∙ h.counts x) (bare-spelled counts sums.constant ∙ h.constant)

  pub is_normal : (z : ℤ) → IsNormal (spelled counts z)
  is_normal z = record {
    counts = counts;
    constant = z;
    ordered = nonzero-sorted (sums_in sums.named.entries) sorted;
    counted = nonzero-counted (sums_in sums.named.entries);
    spelled = refl;
  }

  pub numbers_fit : list_all entry_fits sums.named.entries ≡ true → fits sums.constant ≡ true → (t : Term) → HasSums sums t → NumbersFit t
  numbers_fit all c t h = record {
    counts = λ x. rw (sym (h.counts x)) (sums_fit x sums.named.entries all);
    constant = rw (sym h.constant) c;
  }

  pub name_too_large : list_all entry_fits sums.named.entries ≡ false → (t : Term) → HasSums sums t → NumbersFit t → ⊥
  name_too_large none t h fit =
      false≢true (sym none ∙ all_fit sums.named.entries ordered (λ x. ap fits (h.counts x) ∙ fit.counts x))

  pub constant_too_large : fits sums.constant ≡ false → (t : Term) → HasSums sums t → NumbersFit t → ⊥
  constant_too_large none t h fit = false≢true (sym none ∙ ap fits h.constant ∙ fit.constant)
