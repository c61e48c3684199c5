-- Names that differ, and what stands beside each.
use Rattle.std.proofs.Common.{◌≡◌, ◌⊎◌, inl, inr, ◌<◌, ◌+◌, is_some, ℕ, zero, suc, Bool, true, false, cond, List, [], ◌∷◌, ◌++◌, length, Option, Some, None, refl, ap, sym, subst, ◌∙◌, arith}
use Rattle.std.specs.Prelude.{slice_set}
use Rattle.std.specs.List.{slice_get}
use Rattle.std.specs.Ordering.{nat_cmp}
use Rattle.std.specs.Cmp.Lexicographic.{slice_cmp, nat_list_cmp_total}
use Rattle.std.specs.FinMap.{from_entries, from_entries_push, find, get, get-from_entries, get-insert, insert, len, len-empty, len-insert, same_map, slice_cmp-IsAntisymmetric, nat_cmp-IsAntisymmetric}
use Rattle.core_language.specs.Names.{Name, NameMap, same_name}
use Rattle.machine_rounds.proofs.Rounded.{same-is, same-self}
use Rattle.task_tables.specs.Numbered.{rows_of}

-- each name has one number
abbrev pub Differ : List Name → Type 0
Differ names = (j k : ℕ) (p : Name) → slice_get names j ≡ Some p → slice_get names k ≡ Some p → j ≡ k

rest_differ : (n : Name) (ns : List Name) → Differ (n ∷ ns) → Differ ns
rest_differ n ns d j k p a b = let e : suc j ≡ suc k = d (suc j) (suc k) p a b in omega (arith, e)

pub within : {X : Type 0} (xs : List X) (k : ℕ) (x : X) → slice_get xs k ≡ Some x → k < length xs
within [] k x e = cc
within (y ∷ ys) zero x e = omega arith
within (y ∷ ys) (suc k) x e = let less = within ys k x e in omega (arith, less)

-- where there are as many of both, each name has something beside it
pub beside : {X : Type 0} (names : List Name) (xs : List X) (k : ℕ) (p : Name) → length xs ≡ length names → slice_get names k ≡ Some p → (x : X) × (slice_get xs k ≡ Some x)
beside [] xs k p long at = cc
beside (n ∷ ns) [] k p long at = absurd (omega (arith, long))
beside (n ∷ ns) (y ∷ ys) zero p long at = (y, refl)
beside (n ∷ ns) (y ∷ ys) (suc k) p long at = beside ns ys k p (omega (arith, long)) at

module _ {X : Type 0} where
  abbrev table : List Name → List X → NameMap X
  table names xs = from_entries {R = slice_cmp nat_cmp} (rows_of names xs)

  find-row : (names : List Name) (xs : List X) (k : ℕ) (p : Name) (x : X) → Differ names → slice_get names k ≡ Some p → slice_get xs k ≡ Some x
      → find (slice_cmp nat_cmp) p (rows_of names xs) ≡ Some x
  find-row [] xs k p x d at is = cc
  find-row (n ∷ ns) [] k p x d at is = cc
  find-row (n ∷ ns) (y ∷ ys) zero p x d at is =
      let same : n ≡ p = cc in
      let it : y ≡ x = cc in
      ap (λ b. cond b (Some y) (find (slice_cmp nat_cmp) p (rows_of ns ys))) (ap (same_name p) same ∙ same-self p) ∙ ap Some it
  find-row (n ∷ ns) (y ∷ ys) (suc k) p x d at is = by (same_name p n) refl (find-row ns ys k p x (rest_differ n ns d) at is)
    where
      by : (b : Bool) → same_name p n ≡ b → find (slice_cmp nat_cmp) p (rows_of ns ys) ≡ Some x → cond b (Some y) (find (slice_cmp nat_cmp) p (rows_of ns ys)) ≡ Some x
      by true e h = let bad : 0 ≡ suc k = d 0 (suc k) p (ap Some (sym (same-is p n e))) at in absurd (omega (arith, bad))
      by false e h = h

  find-absent : (names : List Name) (xs : List X) (q : Name) → ((k : ℕ) → slice_get names k ≡ Some q → ⊥) → find (slice_cmp nat_cmp) q (rows_of names xs) ≡ None
  find-absent [] xs q none = refl
  find-absent (n ∷ ns) [] q none = refl
  find-absent (n ∷ ns) (y ∷ ys) q none = by (same_name q n) refl (find-absent ns ys q (λ k at. none (suc k) at))
    where
      by : (b : Bool) → same_name q n ≡ b → find (slice_cmp nat_cmp) q (rows_of ns ys) ≡ None → cond b (Some y) (find (slice_cmp nat_cmp) q (rows_of ns ys)) ≡ None
      by true e h = absurd (none 0 (ap Some (sym (same-is q n e))))
      by false e h = h

  find-set : (names : List Name) (xs : List X) (k : ℕ) (p : Name) (new : X) → Differ names → slice_get names k ≡ Some p → length xs ≡ length names → (q : Name)
      → find (slice_cmp nat_cmp) q (rows_of names (slice_set xs k new)) ≡ cond (same_name q p) (Some new) (find (slice_cmp nat_cmp) q (rows_of names xs))
  find-set [] xs k p new d at long q = cc
  find-set (n ∷ ns) [] k p new d at long q = absurd (omega (arith, long))
  find-set (n ∷ ns) (y ∷ ys) zero p new d at long q =
      let same : n ≡ p = cc in
      subst (λ r. cond (same_name q n) (Some new) rest ≡ cond (same_name q r) (Some new) (cond (same_name q n) (Some y) rest)) same (by (same_name q n))
    where
      rest : Option X
      rest = find (slice_cmp nat_cmp) q (rows_of ns ys)

      by : (b : Bool) → cond b (Some new) rest ≡ cond b (Some new) (cond b (Some y) rest)
      by true = refl
      by false = refl
  find-set (n ∷ ns) (y ∷ ys) (suc k) p new d at long q =
      ap (cond (same_name q n) (Some y)) (find-set ns ys k p new (rest_differ n ns d) at (omega (arith, long)) q) ∙ by (same_name q n) (same_name q p) refl refl
    where
      rest : Option X
      rest = find (slice_cmp nat_cmp) q (rows_of ns ys)

      by : (a b : Bool) → same_name q n ≡ a → same_name q p ≡ b → cond a (Some y) (cond b (Some new) rest) ≡ cond b (Some new) (cond a (Some y) rest)
      by true true e f = let bad : 0 ≡ suc k = d 0 (suc k) p (ap Some (sym (same-is q n e) ∙ same-is q p f)) at in absurd (omega (arith, bad))
      by true false e f = refl
      by false true e f = refl
      by false false e f = refl

  rows-push : (names : List Name) (xs : List X) (p : Name) (x : X) → length xs ≡ length names → rows_of (names ++ p ∷ []) (xs ++ x ∷ []) ≡ rows_of names xs ++ (p, x) ∷ []
  rows-push [] [] p x long = refl
  rows-push [] (y ∷ ys) p x long = absurd (omega (arith, long))
  rows-push (n ∷ ns) [] p x long = absurd (omega (arith, long))
  rows-push (n ∷ ns) (y ∷ ys) p x long = ap (λ rs. (n, y) ∷ rs) (rows-push ns ys p x (omega (arith, long)))

  pub row_is : (names : List Name) (xs : List X) (k : ℕ) (p : Name) (x : X) → Differ names → slice_get names k ≡ Some p → slice_get xs k ≡ Some x → get (table names xs) p ≡ Some x
  row_is names xs k p x d at is = get-from_entries nat_list_cmp_total (rows_of names xs) p ∙ find-row names xs k p x d at is

  pub row_absent : (names : List Name) (xs : List X) (q : Name) → ((k : ℕ) → slice_get names k ≡ Some q → ⊥) → get (table names xs) q ≡ None
  row_absent names xs q none = get-from_entries nat_list_cmp_total (rows_of names xs) q ∙ find-absent names xs q none

  pub row_set : (names : List Name) (xs : List X) (k : ℕ) (p : Name) (new : X) → Differ names → slice_get names k ≡ Some p → length xs ≡ length names
      → table names (slice_set xs k new) ≡ insert (table names xs) p new
  row_set names xs k p new d at long = same_map nat_list_cmp_total (slice_cmp-IsAntisymmetric nat_cmp-IsAntisymmetric) _ _ (λ q.
      get-from_entries nat_list_cmp_total (rows_of names (slice_set xs k new)) q ∙ find-set names xs k p new d at long q
      ∙ ap (cond (same_name q p) (Some new)) (sym (get-from_entries nat_list_cmp_total (rows_of names xs) q))
      ∙ sym (get-insert nat_list_cmp_total (table names xs) p new q))

  pub row_added : (names : List Name) (xs : List X) (p : Name) (x : X) → length xs ≡ length names → get (table names xs) p ≡ None
      → table (names ++ p ∷ []) (xs ++ x ∷ []) ≡ insert (table names xs) p x
  row_added names xs p x long fresh =
      ap (from_entries {R = slice_cmp nat_cmp}) (rows-push names xs p x long)
      ∙ from_entries_push nat_list_cmp_total (slice_cmp-IsAntisymmetric nat_cmp-IsAntisymmetric) (rows_of names xs) p x (sym (get-from_entries nat_list_cmp_total (rows_of names xs) p) ∙ fresh)

  pub row_count : (names : List Name) (xs : List X) → Differ names → length xs ≡ length names → len (table names xs) ≡ length names
  row_count [] xs d long = len-empty (slice_cmp nat_cmp) X
  row_count (n ∷ ns) [] d long = absurd (omega (arith, long))
  row_count (n ∷ ns) (y ∷ ys) d long =
      let m = table ns ys in
      let counted : len m ≡ length ns = row_count ns ys (rest_differ n ns d) (omega (arith, long)) in
      len-insert nat_list_cmp_total m n y ∙ ap (λ o. cond (is_some o) (len m) (len m + 1)) (row_absent ns ys n none) ∙ omega (arith, counted)
    where
      none : (k : ℕ) → slice_get ns k ≡ Some n → ⊥
      none k at = let bad : 0 ≡ suc k = d 0 (suc k) n refl at in omega (arith, bad)

-- ---- one more name

pub got_push : {X : Type 0} (xs : List X) (x y : X) (k : ℕ) → slice_get (xs ++ x ∷ []) k ≡ Some y → (slice_get xs k ≡ Some y) ⊎ ((k ≡ length xs) × (x ≡ y))
got_push [] x y zero e = let same : x ≡ y = cc in inr (refl, same)
got_push [] x y (suc k) e = cc
got_push (z ∷ zs) x y zero e = inl e
got_push (z ∷ zs) x y (suc k) e = by (got_push zs x y k e)
  where
    by : (slice_get zs k ≡ Some y) ⊎ ((k ≡ length zs) × (x ≡ y)) → (slice_get zs k ≡ Some y) ⊎ ((suc k ≡ suc (length zs)) × (x ≡ y))
    by (inl h) = inl h
    by (inr (h, same)) = inr (ap suc h, same)

pub get-push_last : {X : Type 0} (xs : List X) (x : X) → slice_get (xs ++ x ∷ []) (length xs) ≡ Some x
get-push_last [] x = refl
get-push_last (y ∷ ys) x = get-push_last ys x

pub get-push_old : {X : Type 0} (xs : List X) (x y : X) (k : ℕ) → slice_get xs k ≡ Some y → slice_get (xs ++ x ∷ []) k ≡ Some y
get-push_old [] x y k e = cc
get-push_old (z ∷ zs) x y zero e = e
get-push_old (z ∷ zs) x y (suc k) e = get-push_old zs x y k e
