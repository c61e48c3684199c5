-- What the calls of a `BTreeMap` do is what the operations of the finite map that it is read as do.
use Rattle.std.proofs.Common.{◌≡◌, Bool, true, false, cond, List, [], ◌∷◌, map, Option, Some, None, Ordering, Less, Equal, Greater, T, refl, ap, sym, ◌∙◌}
use Rattle.std.specs.Option.{option_map}
use Rattle.std.specs.Ordering.{nat_cmp, eq_by_cmp}
use Rattle.std.specs.Cmp.Lexicographic.{slice_cmp, nat_list_cmp_total}
use Rattle.std.specs.Ordering.{is_eq}
use Rattle.std.proofs.lemmas.Map.Lookups.{exact_bytes}
use Rattle.std.proofs.lemmas.Cmp.{eq_by_cmp_equiv}
use Rattle.std.specs.FinMap.{entries, entries-from_sorted, from_entries, from_sorted, get-from_sorted, is_sorted, keys, get, insert, remove, same_map, get-insert, get-remove, get-from_entries, find, slice_cmp-IsAntisymmetric, nat_cmp-IsAntisymmetric}
use Rattle.std.specs.Map.{lookup}
use Rattle.std.specs.BTreeMap.{BTreeMap, is_at, Updates, get as looked_up}
use Rattle.core_language.specs.Names.{Name}
use Rattle.chan_machine.specs.Reading.{map_of, read_entry}

pub equal_from : (o : Ordering) → is_eq o ≡ true → o ≡ Equal
equal_from Less e = cc
equal_from Equal e = refl
equal_from Greater e = cc

module _ {X Y : Type 0} (f : X → Y) where
  find-read : (q : Name) (es : List (Name × X)) → find (slice_cmp nat_cmp) q (map (read_entry f) es) ≡ option_map f (lookup (is_at (slice_cmp nat_cmp q)) es)
  find-read q [] = refl
  find-read q (e ∷ es) = by (eq_by_cmp (slice_cmp nat_cmp) q e.0) _ _ (find-read q es)
    where
      by : (b : Bool) (x : Option Y) (y : Option X) → x ≡ option_map f y → cond b (Some (f e.1)) x ≡ option_map f (cond b (Some e.1) y)
      by true x y h = refl
      by false x y h = h

  pub get-map_of : (m : BTreeMap Name X) (q : Name) → get (map_of f m) q ≡ option_map f (looked_up (slice_cmp nat_cmp) m q)
  get-map_of m q = get-from_entries nat_list_cmp_total (map (read_entry f) m.entries) q ∙ find-read q m.entries

  pub put-map_of : (m n : BTreeMap Name X) (k : Name) (v : X) → Updates (slice_cmp nat_cmp) m n k (Some v) → map_of f n ≡ insert (map_of f m) k (f v)
  put-map_of m n k v u = same_map nat_list_cmp_total (slice_cmp-IsAntisymmetric nat_cmp-IsAntisymmetric) _ _ (λ q.
      get-map_of n q ∙ ap (option_map f) (u.0 q) ∙ by q (eq_by_cmp (slice_cmp nat_cmp) k q) (eq_by_cmp (slice_cmp nat_cmp) q k) ((eq_by_cmp_equiv nat_list_cmp_total).symm k q)
      ∙ sym (get-insert nat_list_cmp_total (map_of f m) k (f v) q))
    where
      by : (q : Name) (b c : Bool) → b ≡ c → option_map f (cond b (Some v) (looked_up (slice_cmp nat_cmp) m q)) ≡ cond c (Some (f v)) (get (map_of f m) q)
      by q true true e = refl
      by q false false e = sym (get-map_of m q)
      by q true false e = cc
      by q false true e = cc

-- the entries of a list in order
pub entries-in_order : {X : Type 0} (es : List (Name × X)) → T (is_sorted (slice_cmp nat_cmp) es) → entries (from_entries {R = slice_cmp nat_cmp} es) ≡ es
entries-in_order es sorted =
    ap entries (same_map nat_list_cmp_total (slice_cmp-IsAntisymmetric nat_cmp-IsAntisymmetric) (from_entries es) (from_sorted es)
    (λ q. get-from_entries nat_list_cmp_total es q ∙ sym (get-from_sorted (slice_cmp nat_cmp) es q sorted)))
    ∙ entries-from_sorted (slice_cmp nat_cmp) es sorted

pub entries-alone : {X Y : Type 0} (f : X → Y) (m : BTreeMap Name X) (x : X) → m.entries ≡ ([], x) ∷ [] → entries (map_of f m) ≡ ([], f x) ∷ []
entries-alone {X} f m x alone = ap (λ (es : List (Name × X)). entries (from_entries {R = slice_cmp nat_cmp} (map (read_entry f) es))) alone ∙ entries-in_order (([], f x) ∷ []) tt

pub keys-alone : {X Y : Type 0} (f : X → Y) (m : BTreeMap Name X) (x : X) → m.entries ≡ ([], x) ∷ [] → keys (map_of f m) ≡ [] ∷ []
keys-alone {X} {Y} f m x alone = ap (λ (es : List (Name × Y)). map (λ e. e.0) es) (entries-alone f m x alone)

pub keys-none : {X Y : Type 0} (f : X → Y) (m : BTreeMap Name X) → m.entries ≡ [] → keys (map_of f m) ≡ []
keys-none {X} {Y} f m none =
    ap (λ (es : List (Name × X)). keys (from_entries {R = slice_cmp nat_cmp} (map (read_entry f) es))) none
    ∙ ap (λ (es : List (Name × Y)). map (λ e. e.0) es) (entries-in_order [] tt)

module _ {X Y : Type 0} (f : X → Y) where
  pub take-map_of : (m n : BTreeMap Name X) (k : Name) → Updates (slice_cmp nat_cmp) m n k None → map_of f n ≡ remove (map_of f m) k
  take-map_of m n k u = same_map nat_list_cmp_total (slice_cmp-IsAntisymmetric nat_cmp-IsAntisymmetric) _ _ (λ q.
      get-map_of f n q ∙ ap (option_map f) (u.0 q) ∙ by q (eq_by_cmp (slice_cmp nat_cmp) k q) (eq_by_cmp (slice_cmp nat_cmp) q k) ((eq_by_cmp_equiv nat_list_cmp_total).symm k q)
      ∙ sym (get-remove nat_list_cmp_total (map_of f m) k q))
    where
      by : (q : Name) (b c : Bool) → b ≡ c → option_map f (cond b None (looked_up (slice_cmp nat_cmp) m q)) ≡ cond c None (get (map_of f m) q)
      by q true true e = refl
      by q false false e = sym (get-map_of f m q)
      by q true false e = cc
      by q false true e = cc

  -- a value put over one that was there, or the name that was not there taken out again
  pub undone : (m n o : BTreeMap Name X) (k : Name) (v : X) → Updates (slice_cmp nat_cmp) m n k (Some v) → Updates (slice_cmp nat_cmp) n o k (looked_up (slice_cmp nat_cmp) m k) → map_of f o ≡ map_of f m
  undone m n o k v put back = same_map nat_list_cmp_total (slice_cmp-IsAntisymmetric nat_cmp-IsAntisymmetric) _ _ (λ q.
      get-map_of f o q ∙ ap (option_map f) (back.0 q ∙ ap (cond (eq_by_cmp (slice_cmp nat_cmp) k q) (looked_up (slice_cmp nat_cmp) m k)) (put.0 q) ∙ by q (eq_by_cmp (slice_cmp nat_cmp) k q) refl)
      ∙ sym (get-map_of f m q))
    where
      by : (q : Name) (b : Bool) → eq_by_cmp (slice_cmp nat_cmp) k q ≡ b → cond b (looked_up (slice_cmp nat_cmp) m k) (cond b (Some v) (looked_up (slice_cmp nat_cmp) m q)) ≡ looked_up (slice_cmp nat_cmp) m q
      by q true e = ap (looked_up (slice_cmp nat_cmp) m) (exact_bytes k q (equal_from (slice_cmp nat_cmp k q) e))
      by q false e = refl
