-- Places of names among binders, and the new names of binders.
use Rattle.std.proofs.Common.{◌≡◌, ◌≢◌, ◌⊎◌, inl, inr, ℕ, zero, suc, ◌+◌, ◌<◌, ◌≤◌, Bool, true, false, ◌||◌, List, [], ◌∷◌, length, Option, Some, None, option_map, refl, sym, ◌∙◌, ap, arith}
use Rattle.std.specs.List.{list_any}
use Rattle.core_language.specs.Names.{Ident, same}
use Rattle.linear_forms.specs.Terms.{IntVar}
use Rattle.linear_forms.specs.Substitution.{place_of, Scoped, puts}
use Rattle.linear_forms.specs.Replacing.{new_name, IsShort, AreSafe}
use Rattle.linear_forms.proofs.SameNames.{same_is, same-self}

pub differ : (x y : Ident) → length x ≢ length y → same x y ≡ false
differ x y h = pick (same x y) refl
  where
    pick : (b : Bool) → same x y ≡ b → same x y ≡ false
    pick true q = absurd (h (ap length (same_is x y q)))
    pick false q = q

pub apart : (x y : Ident) → x ≢ y → same x y ≡ false
apart x y h = pick (same x y) refl
  where
    pick : (b : Bool) → same x y ≡ b → same x y ≡ false
    pick true q = absurd (h (same_is x y q))
    pick false q = q

-- the name at a place
abbrev pub name_at : List Ident → ℕ → Option Ident
name_at [] i = None
name_at (y ∷ ys) zero = Some y
name_at (y ∷ ys) (suc i) = name_at ys i

next_of : (o : Option ℕ) (i : ℕ) → option_map suc o ≡ Some i → (j : ℕ) × (o ≡ Some j) × (i ≡ suc j)
next_of None i e = absurd cc
next_of (Some j) i e = (j, refl, cc)

pub name_at-place : (ys : List Ident) (x : Ident) (i : ℕ) → place_of ys x ≡ Some i → name_at ys i ≡ Some x
name_at-place [] x i e = absurd cc
name_at-place (y ∷ ys) x i e = pick (same y x) refl (name_at-place ys x)
  where
    pick : (b : Bool) → same y x ≡ b → ((j : ℕ) → place_of ys x ≡ Some j → name_at ys j ≡ Some x) → name_at (y ∷ ys) i ≡ Some x
    pick true q again =
        let first : Some 0 ≡ Some i = rw q at e in
        let here : i ≡ 0 = cc in
        rw (here, same_is y x q) refl
    pick false q again =
        let later : option_map suc (place_of ys x) ≡ Some i = rw q at e in
        let found = next_of (place_of ys x) i later in
        rw found.2 (again found.0 found.1)

-- a new name is a name that is kept, or one that is longer than all that are kept
abbrev pub IsNew : ℕ → ℕ → Ident → Ident → Type 0
IsNew most around x z = (z ≡ x) ⊎ (suc most ≤ length z) × (length z < suc most + around)

pub found_new : (most : ℕ) (put : List IntVar) (terms : List Scoped) (n : ℕ) (ys zs : List Ident) (x : Ident) (i : ℕ) → AreSafe most put terms n ys zs → IsShort most x → place_of ys x ≡ Some i → (z : Ident) × (new_name ys zs x ≡ Some z) × (place_of zs z ≡ Some i) × IsNew most (length ys + n) x z
found_new most put terms n [] zs x i safe short e = absurd cc
found_new most put terms n (y ∷ ys) [] x i safe short e = absurd safe
found_new most put terms n (y ∷ ys) (z ∷ zs) x i (head, rest) short e = pick (same y x) refl (λ j. found_new most put terms n ys zs x j rest short)
  where
    grown : (w : Ident) → IsNew most (length ys + n) x w → IsNew most (suc (length ys) + n) x w
    grown w (inl q) = inl q
    grown w (inr (a, b)) = inr (a, omega arith)

    other : (w : Ident) → same y x ≡ false → IsNew most (length ys + n) x w → same z w ≡ false
    other w q (inl is) = by head.1
      where
        by : ((z ≡ y) × (list_any (puts put y) terms ≡ false) ⊎ (length z ≡ suc most + (length ys + n))) → same z w ≡ false
        by (inl (kept, none)) = rw (kept, is) q
        by (inr long) = rw is (differ z x (λ l. omega arith))
    other w q (inr (a, b)) = by head.1
      where
        by : ((z ≡ y) × (list_any (puts put y) terms ≡ false) ⊎ (length z ≡ suc most + (length ys + n))) → same z w ≡ false
        by (inl (kept, none)) = rw kept (differ y w (λ l. let s = head.0 in omega arith))
        by (inr long) = differ z w (λ l. omega arith)

    pick : (b : Bool) → same y x ≡ b → ((j : ℕ) → place_of ys x ≡ Some j → (w : Ident) × (new_name ys zs x ≡ Some w) × (place_of zs w ≡ Some j) × IsNew most (length ys + n) x w) → (w : Ident) × (new_name (y ∷ ys) (z ∷ zs) x ≡ Some w) × (place_of (z ∷ zs) w ≡ Some i) × IsNew most (suc (length ys) + n) x w
    pick true q again =
        let first : Some 0 ≡ Some i = rw q at e in
        (z, rw q refl, rw (same-self z) first, by head.1)
      where
        by : ((z ≡ y) × (list_any (puts put y) terms ≡ false) ⊎ (length z ≡ suc most + (length ys + n))) → IsNew most (suc (length ys) + n) x z
        by (inl (kept, none)) = inl (kept ∙ same_is y x q)
        by (inr long) = inr (omega arith, omega arith)
    pick false q again =
        let later : option_map suc (place_of ys x) ≡ Some i = rw q at e in
        let found = next_of (place_of ys x) i later in
        let new = again found.0 found.1 in
        (new.0, rw q new.1, rw (other new.0 q new.3, new.2) (ap Some (sym found.2)), grown new.0 new.3)

pub no_new : (ys zs : List Ident) (x : Ident) → place_of ys x ≡ None → new_name ys zs x ≡ None
no_new [] zs x e = refl
no_new (y ∷ ys) [] x e = refl
no_new (y ∷ ys) (z ∷ zs) x e = pick (same y x) refl (no_new ys zs x)
  where
    pick : (b : Bool) → same y x ≡ b → (place_of ys x ≡ None → new_name ys zs x ≡ None) → new_name (y ∷ ys) (z ∷ zs) x ≡ None
    pick true q again = let found : ◌≡◌ {A = Option ℕ} (Some 0) None = rw q at e in absurd cc
    pick false q again = let none : option_map suc (place_of ys x) ≡ None = rw q at e in rw q (again (nowhere (place_of ys x) none))
      where
        nowhere : (o : Option ℕ) → option_map suc o ≡ None → o ≡ None
        nowhere None h = refl
        nowhere (Some j) h = absurd cc

-- a short name is inside the new binders only where it is that of a binder which is kept
pub stays_free : (most : ℕ) (put : List IntVar) (terms : List Scoped) (n : ℕ) (ys zs : List Ident) (w : Ident) → AreSafe most put terms n ys zs → IsShort most w → ((y : Ident) → list_any (λ v. same v y) ys ≡ true → list_any (puts put y) terms ≡ false → same y w ≡ false) → place_of zs w ≡ None
stays_free most put terms n [] [] w safe short h = refl
stays_free most put terms n [] (z ∷ zs) w safe short h = absurd safe
stays_free most put terms n (y ∷ ys) [] w safe short h = absurd safe
stays_free most put terms n (y ∷ ys) (z ∷ zs) w (head, rest) short h =
    rw (by head.1, stays_free most put terms n ys zs w rest short (λ v m. h v (later v m))) refl
  where
    later : (v : Ident) → list_any (λ u. same u v) ys ≡ true → list_any (λ u. same u v) (y ∷ ys) ≡ true
    later v m = pick (same y v)
      where
        pick : (b : Bool) → (b || list_any (λ u. same u v) ys) ≡ true
        pick true = refl
        pick false = m

    first : list_any (λ u. same u y) (y ∷ ys) ≡ true
    first = rw (same-self y) refl

    by : ((z ≡ y) × (list_any (puts put y) terms ≡ false) ⊎ (length z ≡ suc most + (length ys + n))) → same z w ≡ false
    by (inl (kept, none)) = rw kept (h y first none)
    by (inr long) = differ z w (λ l. omega arith)

-- the same binders are safe for fewer terms
pub safe_for : (most : ℕ) (put : List IntVar) (terms others : List Scoped) (n : ℕ) (ys zs : List Ident) → ((y : Ident) → list_any (puts put y) terms ≡ false → list_any (puts put y) others ≡ false) → AreSafe most put terms n ys zs → AreSafe most put others n ys zs
safe_for most put terms others n [] [] h safe = tt
safe_for most put terms others n [] (z ∷ zs) h safe = safe
safe_for most put terms others n (y ∷ ys) [] h safe = safe
safe_for most put terms others n (y ∷ ys) (z ∷ zs) h (head, rest) = ((head.0, by head.1), safe_for most put terms others n ys zs h rest)
  where
    by : ((z ≡ y) × (list_any (puts put y) terms ≡ false) ⊎ (length z ≡ suc most + (length ys + n))) → ((z ≡ y) × (list_any (puts put y) others ≡ false) ⊎ (length z ≡ suc most + (length ys + n)))
    by (inl (kept, none)) = inl (kept, h y none)
    by (inr long) = inr long
