-- What an index tells of the names of a list.
use Rattle.std.proofs.Common.{◌≡◌, ℕ, zero, suc, ◌≤◌, Bool, true, false, true≢false, cond, List, [], ◌∷◌, ◌++◌, length, take, Option, Some, None, is_some, refl, sym, ap, ◌∙◌, subst, arith, BTreeMap, ◌⊎◌, inl, inr, ⊎_elim}
use Rattle.std.specs.Cmp.Lexicographic.{bytes_decides, slice_cmp}
use Rattle.std.specs.Ordering.{nat_cmp}
use Rattle.std.specs.BTreeMap.{get, is_at, Updates}
use Rattle.std.specs.Option.{option_map}
use Rattle.std.specs.List.{slice_get}
use Rattle.std.proofs.lemmas.Option.{none-some, same_Some, slice_get_within}
use Rattle.std.proofs.lemmas.Map.Text.{is_eq-slice_cmp}
use Rattle.core_language.specs.Names.{Ident, same}
use Rattle.form_faults.specs.Scopes.{found}
use Rattle.form_faults.specs.Indexed.{place_of, IsIndexed}

-- two names that compare equal are one
same_name : (a b : Ident) → is_at (slice_cmp nat_cmp a) b ≡ true → a ≡ b
same_name a b is = (bytes_decides a b).0 (sym (is_eq-slice_cmp a b) ∙ is)

module _ {E : Type 0} (name : E → Ident) where
  -- the element at a place, by which a name is found
  abbrev Stands : List E → Ident → ℕ → Type 0
  Stands es x i = (e : E) × (slice_get es i ≡ Some e) × (name e ≡ x)

  pub placed : (es : List E) (x : Ident) (i : ℕ) → place_of name es x ≡ Some i → Stands es x i
  placed [] x i is = absurd (none-some i is)
  placed (e ∷ es) x i is = by (same (name e) x) refl (placed es x) (place_of name es x) refl is
    where
      by : (b : Bool) → same (name e) x ≡ b → ((j : ℕ) → place_of name es x ≡ Some j → Stands es x j) → (o : Option ℕ) → place_of name es x ≡ o
          → cond b (Some 0) (option_map suc o) ≡ Some i → Stands (e ∷ es) x i
      by true here more o at is = subst (Stands (e ∷ es) x) (same_Some 0 i is) (e, refl, (bytes_decides (name e) x).0 here)
      by false here more None at is = absurd (none-some i is)
      by false here more (Some j) at is = let (d, there, named) = more j at in subst (Stands (e ∷ es) x) (same_Some (suc j) i is) (d, there, named)

  pub stands : (es : List E) (x : Ident) (p : ℕ) (e : E) → slice_get es p ≡ Some e → name e ≡ x → (i : ℕ) × (place_of name es x ≡ Some i)
  stands [] x p e at named = absurd (none-some e at)
  stands (d ∷ es) x zero e at named =
      let is : same (name d) x ≡ true = (bytes_decides (name d) x).1 (ap name (same_Some d e at) ∙ named) in
      (0, ap (λ b. cond b (Some 0) (option_map suc (place_of name es x))) is)
  stands (d ∷ es) x (suc p) e at named = by (same (name d) x) refl (stands es x p e at named)
    where
      by : (b : Bool) → same (name d) x ≡ b → (i : ℕ) × (place_of name es x ≡ Some i) → (i : ℕ) × (cond b (Some 0) (option_map suc (place_of name es x)) ≡ Some i)
      by true is more = (0, refl)
      by false is (i, at) = (suc i, ap (option_map suc) at)

  -- a place of a name in a longer list
  pub placed_more : (es : List E) (e : E) (x : Ident) (i : ℕ) → place_of name (es ++ e ∷ []) x ≡ Some i → (place_of name es x ≡ Some i) ⊎ ((place_of name es x ≡ None) × (i ≡ length es) × (name e ≡ x))
  placed_more [] e x i is = by (same (name e) x) refl is
    where
      by : (b : Bool) → same (name e) x ≡ b → cond b (Some 0) None ≡ Some i → (place_of name [] x ≡ Some i) ⊎ ((place_of name [] x ≡ None) × (i ≡ 0) × (name e ≡ x))
      by true here is = inr (refl, sym (same_Some 0 i is), (bytes_decides (name e) x).0 here)
      by false here is = absurd (none-some i is)
  placed_more (d ∷ es) e x i is = by (same (name d) x) (place_of name (es ++ e ∷ []) x) refl (placed_more es e x) is
    where
      by : (b : Bool) (o : Option ℕ) → place_of name (es ++ e ∷ []) x ≡ o
          → ((j : ℕ) → place_of name (es ++ e ∷ []) x ≡ Some j → (place_of name es x ≡ Some j) ⊎ ((place_of name es x ≡ None) × (j ≡ length es) × (name e ≡ x)))
          → cond b (Some 0) (option_map suc o) ≡ Some i
          → (cond b (Some 0) (option_map suc (place_of name es x)) ≡ Some i) ⊎ ((cond b (Some 0) (option_map suc (place_of name es x)) ≡ None) × (i ≡ suc (length es)) × (name e ≡ x))
      by true o at more is = inl is
      by false None at more is = absurd (none-some i is)
      by false (Some j) at more is = ⊎_elim
          (λ old. inl (ap (option_map suc) old ∙ is))
          (λ new. inr (ap (option_map suc) new.0, sym (same_Some (suc j) i is) ∙ ap suc new.1, new.2))
          (more j at)

  module _ {X : Type 0} (what : E → X) where
    pub found_none : (es : List E) (x : Ident) → place_of name es x ≡ None → found name what es x ≡ None
    found_none [] x is = refl
    found_none (e ∷ es) x is = by (same (name e) x) (found_none es x) (place_of name es x) refl is
      where
        by : (b : Bool) → (place_of name es x ≡ None → found name what es x ≡ None) → (o : Option ℕ) → place_of name es x ≡ o
            → cond b (Some 0) (option_map suc o) ≡ None → cond b (Some (what e)) (found name what es x) ≡ None
        by true more o at is = absurd (none-some 0 (sym is))
        by false more None at is = more at
        by false more (Some j) at is = absurd (none-some (suc j) (sym is))

    pub found_at : (es : List E) (x : Ident) (i : ℕ) (e : E) → place_of name es x ≡ Some i → slice_get es i ≡ Some e → found name what es x ≡ Some (what e)
    found_at [] x i e is at = absurd (none-some i is)
    found_at (d ∷ es) x i e is at = by (same (name d) x) (found_at es x) (place_of name es x) refl i is at
      where
        by : (b : Bool) → ((j : ℕ) (f : E) → place_of name es x ≡ Some j → slice_get es j ≡ Some f → found name what es x ≡ Some (what f)) → (o : Option ℕ) → place_of name es x ≡ o
            → (k : ℕ) → cond b (Some 0) (option_map suc o) ≡ Some k → slice_get (d ∷ es) k ≡ Some e → cond b (Some (what d)) (found name what es x) ≡ Some (what e)
        by true more o was k is here = ap (λ f. Some (what f)) (same_Some d e (subst (λ n. slice_get (d ∷ es) n ≡ Some e) (sym (same_Some 0 k is)) here))
        by false more None was k is here = absurd (none-some k is)
        by false more (Some j) was k is here = more j e was (subst (λ n. slice_get (d ∷ es) n ≡ Some e) (sym (same_Some (suc j) k is)) here)

    pub found_new : (es : List E) (x : Ident) (i : ℕ) → is_some (found name what es x) ≡ false → place_of name es x ≡ Some i → ⊥
    found_new es x i new is =
        let (e, at, named) = placed es x i is in
        true≢false (sym (ap is_some (found_at es x i e is at)) ∙ new)

    pub found_known : (es : List E) (x : Ident) → is_some (found name what es x) ≡ true → place_of name es x ≡ None → ⊥
    found_known es x known is = true≢false (sym known ∙ ap is_some (found_none es x is))

    module _ (es : List E) (index : BTreeMap Ident ℕ) (x : Ident) (indexed : IsIndexed name es index) where
      -- what the index says decides
      pub missing : ((i : ℕ) → place_of name es x ≡ Some i → ⊥) → None ≡ found name what es x
      missing none = by (place_of name es x) refl
        where
          by : (o : Option ℕ) → place_of name es x ≡ o → None ≡ found name what es x
          by None is = sym (found_none es x is)
          by (Some i) is = absurd (none i is)

      pub unindexed : get (slice_cmp nat_cmp) index x ≡ None → None ≡ found name what es x
      unindexed none = missing (λ i is. none-some i (sym none ∙ indexed x i is))

      pub past : (p : ℕ) → get (slice_cmp nat_cmp) index x ≡ Some p → length es ≤ p → None ≡ found name what es x
      past p at long = missing (λ i is.
          let (e, there, named) = placed es x i is in
          let one : i ≡ p = same_Some i p (sym (indexed x i is) ∙ at) in
          absurd (omega (arith, one, long, slice_get_within es i e there)))

      pub other : (p : ℕ) (e : E) → get (slice_cmp nat_cmp) index x ≡ Some p → slice_get es p ≡ Some e → (name e ≡ x → ⊥) → None ≡ found name what es x
      other p e at here differs = missing (λ i is.
          let (d, there, named) = placed es x i is in
          let one : i ≡ p = same_Some i p (sym (indexed x i is) ∙ at) in
          let same_one : d ≡ e = same_Some d e (sym there ∙ subst (λ n. slice_get es n ≡ Some e) (sym one) here) in
          differs (ap name (sym same_one) ∙ named))

      pub here : (p : ℕ) (e : E) → get (slice_cmp nat_cmp) index x ≡ Some p → slice_get es p ≡ Some e → name e ≡ x → Some (what e) ≡ found name what es x
      here p e at there named =
          let (i, is) = stands es x p e there named in
          let one : i ≡ p = same_Some i p (sym (indexed x i is) ∙ at) in
          sym (found_at es x i e is (subst (λ n. slice_get es n ≡ Some e) (sym one) there))

  -- a name without a place is put into the index
  pub stays : (es : List E) (old new : BTreeMap Ident ℕ) (x : Ident) (p : ℕ) → IsIndexed name es old → ((i : ℕ) → place_of name es x ≡ Some i → ⊥)
      → Updates (slice_cmp nat_cmp) old new x (Some p) → IsIndexed name es new
  stays es old new x p indexed fresh updates y i is = by (is_at (slice_cmp nat_cmp x) y) refl
    where
      by : (b : Bool) → is_at (slice_cmp nat_cmp x) y ≡ b → get (slice_cmp nat_cmp) new y ≡ Some i
      by true at = absurd (fresh i (subst (λ z. place_of name es z ≡ Some i) (sym (same_name x y at)) is))
      by false at = updates.0 y ∙ ap (λ b. cond b (Some p) (get (slice_cmp nat_cmp) old y)) at ∙ indexed y i is

  pub grows : (es : List E) (old new : BTreeMap Ident ℕ) (e : E) → IsIndexed name es old → ((i : ℕ) → place_of name es (name e) ≡ Some i → ⊥)
      → Updates (slice_cmp nat_cmp) old new (name e) (Some (length es)) → IsIndexed name (es ++ e ∷ []) new
  grows es old new e indexed fresh updates y i is = ⊎_elim
      (λ before. stays es old new (name e) (length es) indexed fresh updates y i before)
      (λ last. let (none, end, named) = last in ap (get (slice_cmp nat_cmp) new) (sym named) ∙ updates.1 ∙ ap Some (sym end))
      (placed_more es e y i is)

  pub grows_again : (es : List E) (index : BTreeMap Ident ℕ) (e : E) → IsIndexed name es index → (place_of name es (name e) ≡ None → ⊥) → IsIndexed name (es ++ e ∷ []) index
  grows_again es index e indexed known y i is = ⊎_elim
      (λ before. indexed y i before)
      (λ last. let (none, end, named) = last in absurd (known (ap (place_of name es) named ∙ none)))
      (placed_more es e y i is)

  -- a shorter list keeps the places
  pub shorter : (es : List E) (m : ℕ) (x : Ident) (i : ℕ) → place_of name (take m es) x ≡ Some i → place_of name es x ≡ Some i
  shorter [] zero x i is = is
  shorter [] (suc m) x i is = is
  shorter (e ∷ es) zero x i is = absurd (none-some i is)
  shorter (e ∷ es) (suc m) x i is = by (same (name e) x) (place_of name (take m es) x) refl (shorter es m x) is
    where
      by : (b : Bool) (o : Option ℕ) → place_of name (take m es) x ≡ o → ((j : ℕ) → place_of name (take m es) x ≡ Some j → place_of name es x ≡ Some j)
          → cond b (Some 0) (option_map suc o) ≡ Some i → cond b (Some 0) (option_map suc (place_of name es x)) ≡ Some i
      by true o at more is = is
      by false None at more is = absurd (none-some i is)
      by false (Some j) at more is = ap (option_map suc) (more j at) ∙ is
