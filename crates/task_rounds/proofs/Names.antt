-- Names of tasks and channels, and maps by name.
use Rattle.std.proofs.Common.{◌≡◌, ℕ, Bool, true, false, cond, [], ◌∷◌, Option, Some, None, refl, sym, ap, subst, ◌∙◌}
use Rattle.std.specs.Cmp.Lexicographic.{nat_list_cmp_total}
use Rattle.std.specs.FinMap.{get, insert, remove, get-insert, get-remove}
use Rattle.std.proofs.lemmas.Bool.{false_from_ne_true}
use Rattle.core_language.specs.Names.{Name, NameMap, child, same_name}
use Rattle.machine_rounds.proofs.Rounded.{same-is}

pub differ : (a b : Name) → (a ≡ b → ⊥) → same_name a b ≡ false
differ a b h = false_from_ne_true (same_name a b) (λ e. h (same-is a b e))

-- a name tells the task that made it and the number of its fork
pub child-is : (p q : Name) (j k : ℕ) → child p j ≡ child q k → (p ≡ q) × (j ≡ k)
child-is [] [] j k e = let number : j ≡ k = cc in (refl, number)
child-is [] (y ∷ []) j k e = let bad : ⊥ = cc in absurd bad
child-is [] (y ∷ z ∷ q) j k e = let bad : ⊥ = cc in absurd bad
child-is (x ∷ []) [] j k e = let bad : ⊥ = cc in absurd bad
child-is (x ∷ z ∷ p) [] j k e = let bad : ⊥ = cc in absurd bad
child-is (x ∷ p) (y ∷ q) j k e =
    let first : x ≡ y = cc in
    let rest : child p j ≡ child q k = cc in
    let (names, numbers) = child-is p q j k rest in
    (first_and_rest first names, numbers)
  where
    first_and_rest : x ≡ y → p ≡ q → x ∷ p ≡ y ∷ q
    first_and_rest e f = cc

module _ {X : Type 0} (m : NameMap X) (p : Name) (x : X) (Goal : Option X → Type 0) (q : Name) where
  -- what holds where the map was changed, and where it wasn't
  pub by_name : (q ≡ p → Goal (Some x)) → (same_name q p ≡ false → Goal (get m q)) → Goal (get (insert m p x) q)
  by_name here there = subst Goal (sym (get-insert nat_list_cmp_total m p x q)) (by (same_name q p) refl)
    where
      by : (b : Bool) → same_name q p ≡ b → Goal (cond b (Some x) (get m q))
      by true e = here (same-is q p e)
      by false e = there e

module _ {X : Type 0} (m : NameMap X) (p : Name) (Goal : Option X → Type 0) (q : Name) where
  pub by_removed : (q ≡ p → Goal None) → (same_name q p ≡ false → Goal (get m q)) → Goal (get (remove m p) q)
  by_removed here there = subst Goal (sym (get-remove nat_list_cmp_total m p q)) (by (same_name q p) refl)
    where
      by : (b : Bool) → same_name q p ≡ b → Goal (cond b None (get m q))
      by true e = here (same-is q p e)
      by false e = there e

pub put_here : {X : Type 0} (m : NameMap X) (k : Name) (v : X) (q : Name) → same_name q k ≡ true → get (insert m k v) q ≡ Some v
put_here m k v q e = get-insert nat_list_cmp_total m k v q ∙ ap (λ b. cond b (Some v) (get m q)) e

pub put_elsewhere : {X : Type 0} (m : NameMap X) (k : Name) (v : X) (q : Name) → same_name q k ≡ false → get (insert m k v) q ≡ get m q
put_elsewhere m k v q e = get-insert nat_list_cmp_total m k v q ∙ ap (λ b. cond b (Some v) (get m q)) e

pub drop_here : {X : Type 0} (m : NameMap X) (k q : Name) → same_name q k ≡ true → get (remove m k) q ≡ None
drop_here m k q e = get-remove nat_list_cmp_total m k q ∙ ap (λ b. cond b None (get m q)) e
