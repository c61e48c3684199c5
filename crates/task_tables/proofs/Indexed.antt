-- What the index of a table says of the map that the table is.
use Rattle.std.proofs.Common.{◌≡◌, ◌⊎◌, inl, inr, ◌<◌, ◌+◌, ℕ, Bool, true, false, cond, List, [], ◌∷◌, ◌++◌, length, Option, Some, None, refl, ap, sym, ◌∙◌, arith}
use Rattle.std.specs.List.{slice_get}
use Rattle.std.specs.Ordering.{nat_cmp}
use Rattle.std.specs.Cmp.Lexicographic.{slice_cmp}
use Rattle.std.specs.BTreeMap.{BTreeMap, Updates, is_at}
use Rattle.std.specs.Map.{lookup}
use Rattle.std.specs.BTreeMap as index
use Rattle.std.proofs.lemmas.List.{length_push}
use Rattle.std.specs.FinMap.{from_entries, get}
use Rattle.core_language.specs.Names.{Name, same_name}
use Rattle.machine_rounds.proofs.Rounded.{same-is}
use Rattle.task_tables.specs.Numbered.{IsNumbered, IsTable, rows_of}
use Rattle.task_tables.proofs.Rows.{Differ, beside, got_push, get-push_last, get-push_old, row_absent, row_is, within}

abbrev pub number_in : BTreeMap Name ℕ → Name → Option ℕ
number_in numbers p = index.get (slice_cmp nat_cmp) numbers p

module _ (names : List Name) (numbers : BTreeMap Name ℕ) (is : IsNumbered names numbers) where
  pub differ : Differ names
  differ j k p a b = let both = sym (is.leads j p a) ∙ is.leads k p b in cc

  none_at : (p : Name) → number_in numbers p ≡ None → (k : ℕ) → slice_get names k ≡ Some p → ⊥
  none_at p none k at = let both = sym none ∙ is.leads k p at in cc

  pub index_absent : {X : Type 0} (xs : List X) (p : Name) → number_in numbers p ≡ None → get (from_entries {R = slice_cmp nat_cmp} (rows_of names xs)) p ≡ None
  index_absent xs p none = row_absent names xs p (none_at p none)

  pub index_row : {X : Type 0} (xs : List X) (p : Name) (k : ℕ) (x : X) → number_in numbers p ≡ Some k → slice_get xs k ≡ Some x → get (from_entries {R = slice_cmp nat_cmp} (rows_of names xs)) p ≡ Some x
  index_row xs p k x at row = row_is names xs k p x differ (is.stands p k at) row

  pub index_within : {X : Type 0} (xs : List X) (p : Name) (k : ℕ) → length xs ≡ length names → number_in numbers p ≡ Some k → k < length xs
  index_within xs p k long at = let less = within names k p (is.stands p k at) in omega (arith, less, long)

  -- no number where nothing is found
  pub unnumbered : {X : Type 0} (xs : List X) (p : Name) → length xs ≡ length names → get (from_entries {R = slice_cmp nat_cmp} (rows_of names xs)) p ≡ None → number_in numbers p ≡ None
  unnumbered {X} xs p long none = by (number_in numbers p) refl
    where
      by : (o : Option ℕ) → number_in numbers p ≡ o → o ≡ None
      by None e = refl
      by (Some k) e =
          let (x, row) = beside names xs k p long (is.stands p k e) in
          let both = sym none ∙ index_row xs p k x e row in
          cc

  -- one more name, which has the next number
  pub numbered_more : (later : BTreeMap Name ℕ) (p : Name) → number_in numbers p ≡ None → Updates (slice_cmp nat_cmp) numbers later p (Some (length names)) → IsNumbered (names ++ p ∷ []) later
  numbered_more later p fresh put = record { leads = leads_on; stands = stands_on }
    where
      old : (k : ℕ) (q : Name) (b : Bool) → same_name p q ≡ b → slice_get names k ≡ Some q → cond b (Some (length names)) (number_in numbers q) ≡ Some k
      old k q true e at = let both = sym fresh ∙ ap (number_in numbers) (same-is p q e) ∙ is.leads k q at in cc
      old k q false e at = is.leads k q at

      leads_on : (k : ℕ) (q : Name) → slice_get (names ++ p ∷ []) k ≡ Some q → number_in later q ≡ Some k
      leads_on k q at = by (got_push names p q k at)
        where
          by : (slice_get names k ≡ Some q) ⊎ ((k ≡ length names) × (p ≡ q)) → number_in later q ≡ Some k
          by (inl h) = put.0 q ∙ old k q (same_name p q) refl h
          by (inr (h, same)) = ap (number_in later) (sym same) ∙ put.1 ∙ ap Some (sym h)

      stands_on : (q : Name) (k : ℕ) → number_in later q ≡ Some k → slice_get (names ++ p ∷ []) k ≡ Some q
      stands_on q k at = by (same_name p q) refl (sym (put.0 q) ∙ at)
        where
          by : (b : Bool) → same_name p q ≡ b → cond b (Some (length names)) (number_in numbers q) ≡ Some k → slice_get (names ++ p ∷ []) k ≡ Some q
          by true e h = let same : length names ≡ k = cc in ap (slice_get (names ++ p ∷ [])) (sym same) ∙ get-push_last names p ∙ ap Some (same-is p q e)
          by false e h = get-push_old names p q k (is.stands q k h)

-- one more name and task
pub table_more : {X : Type 0} (names : List Name) (xs : List X) (numbers later : BTreeMap Name ℕ) (p : Name) (x : X) → IsTable names xs numbers → number_in numbers p ≡ None
    → Updates (slice_cmp nat_cmp) numbers later p (Some (length names)) → IsTable (names ++ p ∷ []) (xs ++ x ∷ []) later
table_more names xs numbers later p x is fresh put = record {
  as_many = length_push xs x ∙ ap (λ n. n + 1) is.as_many ∙ sym (length_push names p);
  numbered = numbered_more names numbers is.numbered later p fresh put;
}

-- an index with the same entries
pub numbered_same : (names : List Name) (numbers later : BTreeMap Name ℕ) → later.entries ≡ numbers.entries → IsNumbered names numbers → IsNumbered names later
numbered_same names numbers later same is = record {
  leads = λ k p at. alike p ∙ is.leads k p at;
  stands = λ p k at. is.stands p k (sym (alike p) ∙ at);
}
  where
    alike : (p : Name) → number_in later p ≡ number_in numbers p
    alike p = ap (lookup (is_at (slice_cmp nat_cmp p))) same
