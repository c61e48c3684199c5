-- The names of a map, as a list without repeats.
use Rattle.std.proofs.Common.{◌≡◌, Bool, true, false, ◌&&◌, T, List, [], ◌∷◌, map, is_some, refl, sym, ◌∙◌, arith}
use Rattle.std.specs.Ordering.{nat_cmp, is_eq, is_lt}
use Rattle.std.specs.declared.cmp.Ordering.{Ordering}
use Rattle.std.specs.declared.cmp.Ordering.TheVariants.{Less, Equal, Greater}
use Rattle.std.specs.List.{list_any}
use Rattle.std.specs.Cmp.{eq_by_cmp_equiv}
use Rattle.std.specs.Cmp.Lexicographic.{slice_cmp, nat_list_cmp_total}
use Rattle.std.specs.FinMap.{get, entries, entries_sorted, keys, contains_key-keys}
use Rattle.std.specs.FinMap.Entries.{is_sorted, below_all}
use Rattle.graphs.specs.Graph.{count}
use Rattle.graphs.proofs.Live.{Distinct, has}
use Rattle.core_language.specs.Names.{Name, NameMap, same_name}

both_T : (a b : Bool) → T (a && b) → T a × T b
both_T true true h = (tt, tt)
both_T true false h = absurd h
both_T false true h = absurd h
both_T false false h = absurd h

less_apart : (o : Ordering) → T (is_lt o) → is_eq o ≡ false
less_apart Less h = refl
less_apart Equal h = absurd h
less_apart Greater h = absurd h

has_any : (xs : List Name) (q : Name) → has same_name xs q ≡ list_any (same_name q) xs
has_any [] q = refl
has_any (x ∷ xs) q = rw ((eq_by_cmp_equiv nat_list_cmp_total).symm x q, has_any xs q) refl

module _ {X : Type 0} where
  none_tied : (x : Name) (es : List (Name × X)) → T (below_all (slice_cmp nat_cmp) x es) → count (same_name x) (map (λ e. e.0) es) ≡ 0
  none_tied x [] h = refl
  none_tied x (e ∷ es) h = let b = both_T _ _ h in rw (less_apart (slice_cmp nat_cmp x e.0) (b.0)) (omega (arith, none_tied x es (b.1)))

  distinct_entries : (es : List (Name × X)) → T (is_sorted (slice_cmp nat_cmp) es) → Distinct same_name (map (λ e. e.0) es)
  distinct_entries [] h = tt
  distinct_entries (e ∷ es) h = let b = both_T _ _ h in (none_tied e.0 es (b.0), distinct_entries es (b.1))

  pub distinct_keys : (m : NameMap X) → Distinct same_name (keys m)
  distinct_keys m = distinct_entries (entries m) (entries_sorted m)

  pub has-keys : (m : NameMap X) (q : Name) → has same_name (keys m) q ≡ is_some (get m q)
  has-keys m q = has_any (keys m) q ∙ sym (contains_key-keys m q)
