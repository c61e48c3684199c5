-- Counts over the uses of a configuration when a holder's uses change.
use Rattle.std.proofs.Common.{◌≡◌, ◌≢◌, ◌+◌, ◌≤◌, Bool, true, false, cond, not, ◌&&◌, List, [], ◌∷◌, map, filter, refl, ap, arith}
use Rattle.std.proofs.lemmas.Bool.{false_from_ne_true}
use Rattle.std.specs.Ordering.{is_eq}
use Rattle.std.proofs.lemmas.Cmp.{tied_itself}
use Rattle.std.specs.Cmp.Lexicographic.{nat_list_cmp_total}
use Rattle.std.proofs.lemmas.Map.Views.{tells_apart}
use Rattle.std.proofs.lemmas.Map.Lookups.{exact_bytes}
use Rattle.graphs.specs.Graph.{count, Node, same_node}
use Rattle.graphs.proofs.Counts.{count-map, count-filter, count_cases, count_agree}
use Rattle.graphs.proofs.Live.{node-is, node-self}
use Rattle.core_language.specs.Names.{Name, same_name}
use Rattle.outline_language.specs.Equations.{Concrete}
use Rattle.good_configurations.specs.Values.{Use}
use Rattle.good_configurations.specs.Uses.{Uses, Holds}

pub name-is : (a b : Name) → same_name a b ≡ true → a ≡ b
name-is a b e = tells_apart exact_bytes a b e

pub name-self : (a : Name) → same_name a a ≡ true
name-self a = ap is_eq (tied_itself nat_list_cmp_total a)

abbrev pub same_holder : Node Name → Node Name → Bool
same_holder a b = same_node same_name a b

pub holder-is : (a b : Node Name) → same_holder a b ≡ true → a ≡ b
holder-is a b e = node-is same_name name-is name-self a b e

pub holder-self : (a : Node Name) → same_holder a a ≡ true
holder-self a = node-self same_name name-is name-self a

pub differ_name : (a b : Name) → a ≢ b → same_name a b ≡ false
differ_name a b h = false_from_ne_true (same_name a b) (λ e. h (name-is a b e))

pub differ_holder : (a b : Node Name) → a ≢ b → same_holder a b ≡ false
differ_holder a b h = false_from_ne_true (same_holder a b) (λ e. h (holder-is a b e))

abbrev pub Test : Type 0
Test = Node Name × Name × Concrete → Bool

abbrev pub held_by : Node Name → List Use → Uses
held_by n us = map (λ u. (n, u.0, u.1)) us

abbrev pub without : Node Name → Uses → Uses
without n all = filter (λ u. not (same_holder n u.0)) all

pub count-held_by : (f : Test) (n : Node Name) (us : List Use) → count f (held_by n us) ≡ count (λ u. f (n, u.0, u.1)) us
count-held_by f n us = count-map f (λ u. (n, u.0, u.1)) us

count-without : (f : Test) (n : Node Name) (all : Uses) → count f (without n all) + count (λ u. same_holder n u.0 && f u) all ≡ count f all
count-without f n all = omega (arith, count-filter f (λ u. not (same_holder n u.0)) all, count_cases (λ u. same_holder n u.0) f all)

-- the uses are those of a holder and those of the others
pub count_all : (f : Test) (n : Node Name) (us : List Use) (all : Uses) → Holds n us all → count f all ≡ count f (without n all) + count (λ u. f (n, u.0, u.1)) us
count_all f n us all holds = omega (arith, count-without f n all, holds (λ u. f (n, u.0, u.1)), count_agree (λ u. same_holder n u.0 && f u) (λ u. same_holder n u.0 && f (n, u.1, u.2)) (λ u. at u (same_holder n u.0) refl) all)
  where
    at : (u : Node Name × Name × Concrete) (v : Bool) → same_holder n u.0 ≡ v → (v && f u) ≡ (v && f (n, u.1, u.2))
    at u true e = let p : n ≡ u.0 = holder-is n u.0 e in rw p refl
    at u false e = refl

pub none_without : (q : Use → Bool) (n : Node Name) (all : Uses) → count (λ u. same_holder n u.0 && q (u.1, u.2)) (without n all) ≡ 0
none_without q n all = omega (arith, count-without (λ u. same_holder n u.0 && q (u.1, u.2)) n all, count_agree (λ u. same_holder n u.0 && (same_holder n u.0 && q (u.1, u.2))) (λ u. same_holder n u.0 && q (u.1, u.2)) (λ u. twice (same_holder n u.0) (q (u.1, u.2))) all)
  where
    twice : (a b : Bool) → (a && (a && b)) ≡ (a && b)
    twice true b = refl
    twice false b = refl

pub count_false : {X : Type 0} (p : X → Bool) → ((x : X) → p x ≡ false) → (xs : List X) → count p xs ≡ 0
count_false p h [] = refl
count_false p h (x ∷ xs) = rw (h x) (omega (arith, count_false p h xs))

-- a test that differs only where another passes, which none does
pub count_except : {X : Type 0} (bad p q : X → Bool) (xs : List X) → count bad xs ≡ 0 → ((x : X) → bad x ≡ false → p x ≡ q x) → count p xs ≡ count q xs
count_except bad p q [] none same = refl
count_except bad p q (x ∷ xs) none same = go (bad x) refl none (λ e. count_except bad p q xs e same)
  where
    go : (b : Bool) → bad x ≡ b → cond b 1 0 + count bad xs ≡ 0 → (count bad xs ≡ 0 → count p xs ≡ count q xs) → cond (p x) 1 0 + count p xs ≡ cond (q x) 1 0 + count q xs
    go true e none ih = absurd (omega arith)
    go false e none ih = rw (same x e) (omega (arith, ih (omega arith)))

-- where some pass, one is a member
pub member : {X : Type 0} (p : X → Bool) (xs : List X) → 1 ≤ count p xs → (x : X) × (p x ≡ true) × ((f : X → Bool) → cond (f x) 1 0 ≤ count f xs)
member p [] h = absurd (omega arith)
member p (x ∷ xs) h = go (p x) refl h (member p xs)
  where
    go : (b : Bool) → p x ≡ b → 1 ≤ cond b 1 0 + count p xs → (1 ≤ count p xs → (x : _) × (p x ≡ true) × ((f : _ → Bool) → cond (f x) 1 0 ≤ count f xs)) → (y : _) × (p y ≡ true) × ((f : _ → Bool) → cond (f y) 1 0 ≤ cond (f x) 1 0 + count f xs)
    go true e h ih = (x, e, λ f. omega arith)
    go false e h ih = more (ih (omega arith))
      where
        more : (y : _) × (p y ≡ true) × ((f : _ → Bool) → cond (f y) 1 0 ≤ count f xs) → (y : _) × (p y ≡ true) × ((f : _ → Bool) → cond (f y) 1 0 ≤ cond (f x) 1 0 + count f xs)
        more (y, e, le) = (y, e, λ f. omega (arith, le f))

module _ (n : Node Name) (us us' : List Use) (all : Uses) (holds : Holds n us all) where
  -- the holder has other uses now, which are among those it had
  pub others_held : (m : Node Name) (q : Use → Bool) → m ≢ n → count (λ u. same_holder m u.0 && q (u.1, u.2)) all ≡ count (λ u. same_holder m u.0 && q (u.1, u.2)) (without n all)
  others_held m q apart = omega (arith, count_all (λ u. same_holder m u.0 && q (u.1, u.2)) n us all holds, count_false (λ (u : Use). same_holder m n && q u) (λ u. rw (differ_holder m n apart) refl) us)
