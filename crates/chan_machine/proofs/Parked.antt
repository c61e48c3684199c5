-- Who waits after a list is taken out, and after one is put; and who joined.
use Rattle.std.proofs.Common.{◌≡◌, ℕ, zero, suc, drop, Bool, true, false, cond, not, ◌&&◌, ◌||◌, List, [], ◌∷◌, ◌++◌, map, is_some, Option, Some, None, refl, ap, sym, subst, ◌∙◌}
use Rattle.std.specs.Ordering.{nat_cmp}
use Rattle.std.specs.Cmp.Lexicographic.{slice_cmp}
use Rattle.std.specs.Global.{Vec}
use Rattle.std.specs.List.{list_any}
use Rattle.std.specs.Map.{lookup}
use Rattle.std.specs.BTreeMap.{BTreeMap, Updates, get, is_at, keys}
use Rattle.std.proofs.lemmas.Cmp.{eq_by_cmp_equiv, nat_list_cmp_total}
use Rattle.std.proofs.lemmas.List.{map-append}
use Rattle.std.proofs.lemmas.List.Folds.{list_any-append}
use Rattle.std.proofs.lemmas.Map.Lookups.{exact_bytes}
use Rattle.machine_rounds.proofs.Sorted.{equal_from}
use Rattle.machine_rounds.specs.Sets.{has}
use Rattle.core_language.specs.Names.{Name, same_name}
use Rattle.chan_machine.specs.declared.runs.Seat.{Seat}
use Rattle.chan_machine.specs.Parking.{is_joined, is_one, names_of, seats, waits}

pub same-is : (a b : Name) → same_name a b ≡ true → a ≡ b
same-is a b e = exact_bytes a b (equal_from (slice_cmp nat_cmp a b) e)

pub same-symm : (a b : Name) → same_name a b ≡ same_name b a
same-symm = (eq_by_cmp_equiv nat_list_cmp_total).symm

pub same-self : (a : Name) → same_name a a ≡ true
same-self = (eq_by_cmp_equiv nat_list_cmp_total).refl

pub names-push : (xs : List Seat) (s : Seat) → names_of (xs ++ s ∷ []) ≡ names_of xs ++ s.name ∷ []
names-push xs s = map-append (λ (x : Seat). x.name) xs (s ∷ [])

pub any-push : (q name : Name) (xs : List Name) → list_any (same_name q) (xs ++ name ∷ []) ≡ (list_any (same_name q) xs || same_name q name)
any-push q name xs = list_any-append (same_name q) xs (name ∷ []) ∙ ap (λ b. list_any (same_name q) xs || b) (last (same_name q name))
  where
    last : (b : Bool) → (b || false) ≡ b
    last true = refl
    last false = refl

module _ (m n : BTreeMap Name (Vec Seat)) (k : Name) where
  pub waits-taken : Updates (slice_cmp nat_cmp) m n k None → (c q : Name) → waits n c q ≡ (waits m c q && not (same_name c k))
  waits-taken u c q = ap (λ o. is_one o q) (u.0 c) ∙ by (same_name k c) (same_name c k) (same-symm k c) (get (slice_cmp nat_cmp) m c)
    where
      by : (a b : Bool) → a ≡ b → (o : Option (Vec Seat)) → is_one (cond a None o) q ≡ (is_one o q && not b)
      by true true e o = no (is_one o q)
        where
          no : (x : Bool) → false ≡ (x && false)
          no true = refl
          no false = refl
      by false false e o = yes (is_one o q)
        where
          yes : (x : Bool) → x ≡ (x && true)
          yes true = refl
          yes false = refl
      by true false e o = cc
      by false true e o = cc

  pub waits-put : (v : Vec Seat) → Updates (slice_cmp nat_cmp) m n k (Some v) → (c q : Name) → waits n c q ≡ cond (same_name c k) (seats v.items q) (waits m c q)
  waits-put v u c q = ap (λ o. is_one o q) (u.0 c) ∙ by (same_name k c) (same_name c k) (same-symm k c) (get (slice_cmp nat_cmp) m c)
    where
      by : (a b : Bool) → a ≡ b → (o : Option (Vec Seat)) → is_one (cond a (Some v) o) q ≡ cond b (seats v.items q) (is_one o q)
      by true true e o = refl
      by false false e o = refl
      by true false e o = cc
      by false true e o = cc

-- one more name at k: the list is taken out of m, and with the name at its end put into what is left
pub waits-parked : (m t n : BTreeMap Name (Vec Seat)) (k name : Name) (v : Vec Seat) → Updates (slice_cmp nat_cmp) m t k None → Updates (slice_cmp nat_cmp) t n k (Some v)
    → ((q : Name) → seats v.items q ≡ (waits m k q || same_name q name)) → (c q : Name) → waits n c q ≡ (waits m c q || (same_name c k && same_name q name))
waits-parked m t n k name v taken put is c q = waits-put t n k v put c q ∙ by (same_name c k) refl
  where
    off : (x : Bool) → (x && true) ≡ (x || false)
    off true = refl
    off false = refl

    by : (b : Bool) → same_name c k ≡ b → cond b (seats v.items q) (waits t c q) ≡ (waits m c q || (b && same_name q name))
    by true e = is q ∙ ap (λ x. waits m x q || same_name q name) (sym (same-is c k e))
    by false e = waits-taken m t k taken c q ∙ ap (λ b. waits m c q && not b) e ∙ off (waits m c q)

pub waits-parked-at : (m t n : BTreeMap Name (Vec Seat)) (k k' : Name) (seat : Seat) (old v : Vec Seat) → k' ≡ k → Updates (slice_cmp nat_cmp) m t k None → Updates (slice_cmp nat_cmp) t n k' (Some v)
    → v.items ≡ old.items ++ seat ∷ [] → ((q : Name) → seats old.items q ≡ waits m k q) → (c q : Name) → waits n c q ≡ (waits m c q || (same_name c k && same_name q seat.name))
waits-parked-at m t n k k' seat old v is_k taken put pushed is = waits-parked m t n k seat.name v taken (subst (λ x. Updates (slice_cmp nat_cmp) t n x (Some v)) is_k put)
    (λ q. ap (λ xs. seats xs q) pushed ∙ ap (λ ns. has (slice_cmp nat_cmp) ns q) (names-push old.items seat) ∙ any-push q seat.name (names_of old.items) ∙ ap (λ b. b || same_name q seat.name) (is q))

-- ---- who joined

pub joined-put : (m n : BTreeMap Name ℕ) (k : Name) (v : ℕ) → Updates (slice_cmp nat_cmp) m n k (Some v) → (q : Name) → is_joined n q ≡ cond (same_name k q) true (is_joined m q)
joined-put m n k v u q = ap is_some (u.0 q) ∙ by (same_name k q)
  where
    by : (b : Bool) → is_some (cond b (Some v) (get (slice_cmp nat_cmp) m q)) ≡ cond b true (is_joined m q)
    by true = refl
    by false = refl

pub joined-step : (m n : BTreeMap Name ℕ) (s : Seat) (xs ys : List Seat) → Updates (slice_cmp nat_cmp) m n s.name (Some s.number) → ys ≡ s ∷ xs
    → (q : Name) → (is_joined n q || seats xs q) ≡ (is_joined m q || seats ys q)
joined-step m n s xs ys u e q =
    ap (λ b. b || seats xs q) (joined-put m n s.name s.number u q) ∙ by (same_name s.name q) (same_name q s.name) (same-symm s.name q) (is_joined m q) (seats xs q)
    ∙ ap (λ zs. is_joined m q || seats zs q) (sym e)
  where
    by : (a b : Bool) → a ≡ b → (x y : Bool) → (cond a true x || y) ≡ (x || (b || y))
    by true true e true y = refl
    by true true e false y = refl
    by false false e x y = refl
    by true false e x y = cc
    by false true e x y = cc

-- the names of those that joined
pub joined-keys : (m : BTreeMap Name ℕ) (q : Name) → has (slice_cmp nat_cmp) (keys m) q ≡ is_joined m q
joined-keys m q = among m.entries
  where
    among : (es : List (Name × ℕ)) → has (slice_cmp nat_cmp) (map (λ e. e.0) es) q ≡ is_some (lookup (is_at (slice_cmp nat_cmp q)) es)
    among [] = refl
    among (e ∷ es) = by (same_name q e.0) (among es)
      where
        by : (b : Bool) → has (slice_cmp nat_cmp) (map (λ d. d.0) es) q ≡ is_some (lookup (is_at (slice_cmp nat_cmp q)) es)
            → (b || has (slice_cmp nat_cmp) (map (λ d. d.0) es) q) ≡ is_some (cond b (Some e.1) (lookup (is_at (slice_cmp nat_cmp q)) es))
        by true h = refl
        by false h = h

pub nobody-joined : (m : BTreeMap Name ℕ) → m.entries ≡ [] → (q : Name) → is_joined m q ≡ false
nobody-joined m none q = ap (λ (es : List (Name × ℕ)). is_some (lookup (is_at (slice_cmp nat_cmp q)) es)) none

pub other_way : (a b : Bool) → (a || b) ≡ (b || a)
other_way true true = refl
other_way true false = refl
other_way false true = refl
other_way false false = refl

-- the task of a seat of the list is one of its names
pub among : (i : ℕ) (xs : List Seat) (s : Seat) (later : List Seat) → drop i xs ≡ s ∷ later → seats xs s.name ≡ true
among zero xs s later e = ap (λ zs. seats zs s.name) e ∙ ap (λ b. b || seats later s.name) (same-self s.name)
among (suc i) [] s later e = cc
among (suc i) (x ∷ xs) s later e = by (same_name s.name x.name) (among i xs s later e)
  where
    by : (b : Bool) → seats xs s.name ≡ true → (b || seats xs s.name) ≡ true
    by true h = refl
    by false h = h
