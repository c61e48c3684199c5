-- The names of a table in order, and those of its tasks that go on.
use Rattle.std.proofs.Common.{◌≡◌, ℕ, Bool, true, false, cond, ◌||◌, List, [], ◌∷◌, ◌++◌, append_assoc, filter, map, is_some, Option, Some, None, refl, ap, sym, ◌∙◌}
use Rattle.std.specs.List.{All, slice_get}
use Rattle.std.specs.Ordering.{nat_cmp}
use Rattle.std.specs.Cmp.Lexicographic.{slice_cmp, nat_list_cmp_total}
use Rattle.std.specs.BTreeMap.{BTreeMap, is_at}
use Rattle.std.specs.BTreeMap as index
use Rattle.std.specs.FinMap.{contains_key-keys, entries, entries_sorted, from_entries, get, keys}
use Rattle.std.specs.Map.{lookup}
use Rattle.std.proofs.lemmas.List.Elements.{All-head, All-tail}
use Rattle.std.proofs.lemmas.Map.Lookups.{exact_bytes}
use Rattle.core_language.specs.Names.{Name, NameMap, same_name}
use Rattle.machine_rounds.specs.Sets.{has}
use Rattle.machine_rounds.proofs.Rounded.{keys_ascend}
use Rattle.machine_rounds.proofs.Sorted.{same_sorted}
use Rattle.machine_tasks.specs.declared.tasks.Task.{Task}
use Rattle.task_tables.specs.Numbered.{IsTable, rows_of}
use Rattle.task_tables.specs.Tables.{goes_on, going_in}
use Rattle.task_tables.proofs.Indexed.{index_absent, index_row, number_in}
use Rattle.task_tables.proofs.Rows.{beside}

has-index : (q : Name) (es : List (Name × ℕ)) → has (slice_cmp nat_cmp) (map (λ e. e.0) es) q ≡ is_some (lookup (is_at (slice_cmp nat_cmp q)) es)
has-index q [] = refl
has-index q (e ∷ es) = by (same_name q e.0) (has-index q es)
  where
    by : (b : Bool) → has (slice_cmp nat_cmp) (map (λ d. d.0) es) q ≡ is_some (lookup (is_at (slice_cmp nat_cmp q)) es)
        → (b || has (slice_cmp nat_cmp) (map (λ d. d.0) es) q) ≡ is_some (cond b (Some e.1) (lookup (is_at (slice_cmp nat_cmp q)) es))
    by true h = refl
    by false h = h

-- one more name, or none
pub going_more : (tasks : List Task) (e : Name × ℕ) (copy : Name) (before names all : List Name) (es : List (Name × ℕ)) → before ++ going_in tasks (e ∷ es) ≡ all → copy ≡ e.0
    → goes_on (slice_get tasks e.1) ≡ true → names ≡ before ++ copy ∷ [] → names ++ going_in tasks es ≡ all
going_more tasks e copy before names all es so same runs more =
    let rest = filter (λ (d : Name × ℕ). goes_on (slice_get tasks d.1)) es in
    let first : going_in tasks (e ∷ es) ≡ e.0 ∷ going_in tasks es = ap (λ b. map (λ (d : Name × ℕ). d.0) (cond b (e ∷ rest) rest)) runs in
    ap (λ ns. ns ++ going_in tasks es) more ∙ append_assoc before (copy ∷ []) (going_in tasks es) ∙ ap (λ c. before ++ c ∷ going_in tasks es) same ∙ ap (λ ns. before ++ ns) (sym first) ∙ so

pub going_less : (tasks : List Task) (e : Name × ℕ) (before all : List Name) (es : List (Name × ℕ)) → before ++ going_in tasks (e ∷ es) ≡ all
    → goes_on (slice_get tasks e.1) ≡ false → before ++ going_in tasks es ≡ all
going_less tasks e before all es so ends =
    let rest = filter (λ (d : Name × ℕ). goes_on (slice_get tasks d.1)) es in
    ap (λ b. before ++ map (λ (d : Name × ℕ). d.0) (cond b (e ∷ rest) rest)) (sym ends) ∙ so

module _ (names : List Name) (tasks : List Task) (numbers : BTreeMap Name ℕ) (is : IsTable names tasks numbers) (m : NameMap Task)
    (view : from_entries {R = slice_cmp nat_cmp} (rows_of names tasks) ≡ m) where
  at_number : (q : Name) (o : Option ℕ) → number_in numbers q ≡ o → (is_some o ≡ is_some (get m q)) × ((k : ℕ) → o ≡ Some k → get m q ≡ slice_get tasks k)
  at_number q None e = (
    sym (ap is_some (ap (λ x. get x q) (sym view) ∙ index_absent names numbers is.numbered tasks q e)),
    λ k same. cc,
  )
  at_number q (Some j) e =
      let (t, row) = beside names tasks j q is.as_many (is.numbered.stands q j e) in
      let there : get m q ≡ Some t = ap (λ x. get x q) (sym view) ∙ index_row names numbers is.numbered tasks q j t e row in (
        sym (ap is_some there),
        λ k same. let one : j ≡ k = cc in there ∙ sym row ∙ ap (slice_get tasks) one,
      )

  pub keys_are : index.IsOrdered (slice_cmp nat_cmp) numbers → index.keys numbers ≡ keys m
  keys_are ordered = same_sorted (slice_cmp nat_cmp) nat_list_cmp_total exact_bytes (index.keys numbers) (keys m) ordered (keys_ascend (entries m) (entries_sorted m))
      (λ q. has-index q numbers.entries ∙ (at_number q (number_in numbers q) refl).0 ∙ contains_key-keys m q)

  going_among : (es : List (Name × ℕ)) → All (λ (e : Name × ℕ). number_in numbers e.0 ≡ Some e.1) es → going_in tasks es ≡ filter (λ p. goes_on (get m p)) (map (λ e. e.0) es)
  going_among [] found = refl
  going_among (e ∷ es) found =
      ap (λ b. map (λ (d : Name × ℕ). d.0) (cond b (e ∷ rest) rest)) (ap goes_on (sym ((at_number e.0 (Some e.1) here).1 e.1 refl)))
      ∙ by (goes_on (get m e.0)) (going_among es (All-tail (λ (d : Name × ℕ). number_in numbers d.0 ≡ Some d.1) e es found))
    where
      here : number_in numbers e.0 ≡ Some e.1
      here = All-head (λ (d : Name × ℕ). number_in numbers d.0 ≡ Some d.1) e es found

      rest : List (Name × ℕ)
      rest = filter (λ (d : Name × ℕ). goes_on (slice_get tasks d.1)) es

      mine : List Name
      mine = filter (λ p. goes_on (get m p)) (map (λ d. d.0) es)

      by : (b : Bool) → map (λ (d : Name × ℕ). d.0) rest ≡ mine → map (λ (d : Name × ℕ). d.0) (cond b (e ∷ rest) rest) ≡ cond b (e.0 ∷ mine) mine
      by true h = ap (λ ns. e.0 ∷ ns) h
      by false h = h

  pub going_are : index.IsOrdered (slice_cmp nat_cmp) numbers → All (λ (e : Name × ℕ). number_in numbers e.0 ≡ Some e.1) numbers.entries
      → going_in tasks numbers.entries ≡ filter (λ p. goes_on (get m p)) (keys m)
  going_are ordered found = going_among numbers.entries found ∙ ap (filter (λ p. goes_on (get m p))) (keys_are ordered)
