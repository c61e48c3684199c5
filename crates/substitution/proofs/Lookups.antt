-- Binders and terms by their names.
use Rattle.std.specs.List.{list_any}
use Rattle.std.proofs.lemmas.List.Folds.{list_any-append}
use Rattle.linear_forms.specs.Normal.{names_of}
use Rattle.chan_syntax.specs.Reading.{term_of}
use Rattle.std.proofs.Common.{◌≡◌, ◌||◌, ◌++◌, sym, ◌∙◌, ap, ℕ, suc, Bool, true, false, if◌then◌else◌, List, [], ◌∷◌, map, find, Option, Some, None, option_map, is_none, refl}
use Rattle.core_language.specs.Names.{Ident, same}
use Rattle.linear_forms.specs.Substitution.{place_of, put_names}
use Rattle.linear_forms.specs.Replacing.{new_name}
use Rattle.substitution.specs.declared.scope.Binder.{Binder}
use Rattle.substitution.specs.declared.scope.Put.{Put}
use Rattle.substitution.specs.Scopes.{put_in, before_of, after_of}

pub new_name_found : (scope : List Binder) (x : Ident) → new_name (before_of scope) (after_of scope) x ≡ option_map (λ b. b.made) (find (λ b. same b.name x) scope)
new_name_found [] x = refl
new_name_found (b ∷ bs) x = pick (same b.name x) (new_name_found bs x)
  where
    pick : (t : Bool) → new_name (before_of bs) (after_of bs) x ≡ option_map (λ b. b.made) (find (λ b. same b.name x) bs) → (if t then Some b.made else new_name (before_of bs) (after_of bs) x) ≡ option_map (λ b. b.made) (if t then Some b else find (λ b. same b.name x) bs)
    pick true e = refl
    pick false e = e

pub place_found : (scope : List Binder) (x : Ident) → is_none (place_of (before_of scope) x) ≡ is_none (find (λ b. same b.name x) scope)
place_found [] x = refl
place_found (b ∷ bs) x = pick (same b.name x) (place_of (before_of bs) x) (place_found bs x)
  where
    pick : (t : Bool) (o : Option ℕ) → is_none o ≡ is_none (find (λ b. same b.name x) bs) → is_none (if t then Some 0 else option_map suc o) ≡ is_none (if t then Some b else find (λ b. same b.name x) bs)
    pick true o e = refl
    pick false None e = e
    pick false (Some i) e = e

-- terms by their names
pub find_put : (put : List Put) (x : Ident) → find (λ v. same v.name x) (map put_in put) ≡ option_map put_in (find (λ v. same v.name x) put)
find_put [] x = refl
find_put (v ∷ vs) x = pick (same v.name x) (find_put vs x)
  where
    pick : (t : Bool) → find (λ v. same v.name x) (map put_in vs) ≡ option_map put_in (find (λ v. same v.name x) vs) → (if t then Some (put_in v) else find (λ v. same v.name x) (map put_in vs)) ≡ option_map put_in (if t then Some v else find (λ v. same v.name x) vs)
    pick true e = refl
    pick false e = e

pub names_found : (put : List Put) (x w : Ident) (v : Put) → find (λ v. same v.name x) put ≡ Some v → put_names (map put_in put) x w ≡ list_any (λ z. same z w) (names_of (term_of v.term))
names_found [] x w v e = absurd cc
names_found (u ∷ us) x w v e = pick (same u.name x) refl (names_found us x w v)
  where
    pick : (b : Bool) → same u.name x ≡ b → (find (λ v. same v.name x) us ≡ Some v → put_names (map put_in us) x w ≡ list_any (λ z. same z w) (names_of (term_of v.term))) → put_names (map put_in (u ∷ us)) x w ≡ list_any (λ z. same z w) (names_of (term_of v.term))
    pick true q again = let found : Some u ≡ Some v = rw q at e in let is : u ≡ v = cc in rw (q, is) refl
    pick false q again = let more : find (λ v. same v.name x) us ≡ Some v = rw q at e in rw q (again more)

pub names_absent : (put : List Put) (x w : Ident) → find (λ v. same v.name x) put ≡ None → put_names (map put_in put) x w ≡ false
names_absent [] x w e = refl
names_absent (u ∷ us) x w e = pick (same u.name x) refl (names_absent us x w)
  where
    pick : (b : Bool) → same u.name x ≡ b → (find (λ v. same v.name x) us ≡ None → put_names (map put_in us) x w ≡ false) → put_names (map put_in (u ∷ us)) x w ≡ false
    pick true q again = let found : Some u ≡ None = rw q at e in absurd cc
    pick false q again = let none : find (λ v. same v.name x) us ≡ None = rw q at e in rw q (again none)

-- a test of two lists joined
pub either_then : {X : Type 0} (f : X → Bool) (xs ys : List X) (b : Bool) → b ≡ list_any f xs → b ≡ true → b ≡ list_any f (xs ++ ys)
either_then f xs ys b e t = t ∙ sym (list_any-append f xs ys ∙ ap (λ c. c || list_any f ys) (sym e ∙ t))

pub either_else : {X : Type 0} (f : X → Bool) (xs ys : List X) (b c : Bool) → b ≡ list_any f xs → b ≡ false → c ≡ list_any f ys → c ≡ list_any f (xs ++ ys)
either_else f xs ys b c e n d = d ∙ sym (list_any-append f xs ys ∙ ap (λ a. a || list_any f ys) (sym e ∙ n))
