-- What an index tells of the place of a name.
use Rattle.std.proofs.Common.{◌≡◌, ℕ, suc, ◌<◌, ◌≤◌, true, true≢false, if◌then◌else◌, List, [], ◌∷◌, ◌++◌, length, Option, Some, None, is_some, refl, sym, ap, ◌∙◌, subst, arith, BTreeMap}
use Rattle.std.specs.Cmp.Lexicographic.{slice_cmp}
use Rattle.std.specs.Ordering.{nat_cmp}
use Rattle.std.specs.BTreeMap.{get, Updates}
use Rattle.std.specs.Option.{option_map}
use Rattle.std.specs.List.{slice_get}
use Rattle.std.proofs.lemmas.Option.{none-some, same_Some, slice_get_within}
use Rattle.core_language.specs.Names.{Ident, same}
use Rattle.linear_forms.specs.Substitution.{place_of}
use Rattle.form_faults.specs.Indexed.{IsIndexed}
use Rattle.form_faults.specs.Indexed as places
use Rattle.form_faults.proofs.Places.{placed, stands, stays, grows, grows_again}

abbrev itself : Ident → Ident
itself x = x

-- the place in an index is the place of the definitions
one_place : (xs : List Ident) (x : Ident) → places.place_of (λ (y : Ident). y) xs x ≡ place_of xs x
one_place [] x = refl
one_place (y ∷ ys) x = ap (λ (o : Option ℕ). if same y x then Some 0 else option_map suc o) (one_place ys x)

-- a name that has a place stands there
pub stands_there : (xs : List Ident) (x : Ident) (i : ℕ) → place_of xs x ≡ Some i → slice_get xs i ≡ Some x
stands_there xs x i is =
    let (y, there, named) = placed itself xs x i (one_place xs x ∙ is) in
    there ∙ ap Some named

pub place_within : (xs : List Ident) (x : Ident) (i : ℕ) → place_of xs x ≡ Some i → i < length xs
place_within xs x i is = slice_get_within xs i x (stands_there xs x i is)

module _ (xs : List Ident) (index : BTreeMap Ident ℕ) (x : Ident) (indexed : IsIndexed (λ (y : Ident). y) xs index) where
  missing : ((i : ℕ) → places.place_of (λ (y : Ident). y) xs x ≡ Some i → ⊥) → None ≡ place_of xs x
  missing none = by (places.place_of (λ (y : Ident). y) xs x) refl
    where
      by : (o : Option ℕ) → places.place_of (λ (y : Ident). y) xs x ≡ o → None ≡ place_of xs x
      by None is = sym is ∙ one_place xs x
      by (Some i) is = absurd (none i is)

  pub unindexed : get (slice_cmp nat_cmp) index x ≡ None → None ≡ place_of xs x
  unindexed none = missing (λ i is. none-some i (sym none ∙ indexed x i is))

  pub past : (p : ℕ) → get (slice_cmp nat_cmp) index x ≡ Some p → length xs ≤ p → None ≡ place_of xs x
  past p at long = missing (λ i is.
      let (y, there, named) = placed itself xs x i is in
      let one : i ≡ p = same_Some i p (sym (indexed x i is) ∙ at) in
      absurd (omega (arith, one, long, slice_get_within xs i y there)))

  pub other : (p : ℕ) (y : Ident) → get (slice_cmp nat_cmp) index x ≡ Some p → slice_get xs p ≡ Some y → (y ≡ x → ⊥) → None ≡ place_of xs x
  other p y at here differs = missing (λ i is.
      let (z, there, named) = placed itself xs x i is in
      let one : i ≡ p = same_Some i p (sym (indexed x i is) ∙ at) in
      let same_one : z ≡ y = same_Some z y (sym there ∙ subst (λ n. slice_get xs n ≡ Some y) (sym one) here) in
      differs (sym same_one ∙ named))

  pub here : (p : ℕ) (y : Ident) → get (slice_cmp nat_cmp) index x ≡ Some p → slice_get xs p ≡ Some y → y ≡ x → Some p ≡ place_of xs x
  here p y at there named =
      let (i, is) = stands itself xs x p y there named in
      let one : i ≡ p = same_Some i p (sym (indexed x i is) ∙ at) in
      ap Some (sym one) ∙ sym is ∙ one_place xs x

-- ---- a name more

fresh : (xs : List Ident) (x : Ident) → place_of xs x ≡ None → (i : ℕ) → places.place_of (λ (y : Ident). y) xs x ≡ Some i → ⊥
fresh xs x none i is = none-some i (sym none ∙ sym (one_place xs x) ∙ is)

pub index_stays : (xs : List Ident) (old new : BTreeMap Ident ℕ) (x : Ident) (p : ℕ) → IsIndexed (λ (y : Ident). y) xs old → place_of xs x ≡ None
    → Updates (slice_cmp nat_cmp) old new x (Some p) → IsIndexed (λ (y : Ident). y) xs new
index_stays xs old new x p indexed none updates = stays itself xs old new x p indexed (fresh xs x none) updates

pub index_grows : (xs : List Ident) (old new : BTreeMap Ident ℕ) (x : Ident) → IsIndexed (λ (y : Ident). y) xs old → place_of xs x ≡ None
    → Updates (slice_cmp nat_cmp) old new x (Some (length xs)) → IsIndexed (λ (y : Ident). y) (xs ++ x ∷ []) new
index_grows xs old new x indexed none updates = grows itself xs old new x indexed (fresh xs x none) updates

pub index_knows : (xs : List Ident) (index : BTreeMap Ident ℕ) (x : Ident) → IsIndexed (λ (y : Ident). y) xs index → is_some (place_of xs x) ≡ true
    → IsIndexed (λ (y : Ident). y) (xs ++ x ∷ []) index
index_knows xs index x indexed known =
    grows_again itself xs index x indexed (λ none. true≢false (sym known ∙ ap is_some (sym (one_place xs x) ∙ none)))
