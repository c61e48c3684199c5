-- The binders of a resource, one by one.
use Rattle.std.proofs.Common.{◌≡◌, ℕ, suc, ◌+◌, ◌<◌, List, [], ◌∷◌, ◌++◌, take, get_or, length, sym, ◌∙◌, ap, subst}
use Rattle.std.proofs.lemmas.List.{map-append, take_more}
use Rattle.core_language.specs.Names.{Ident}
use Rattle.linear_forms.specs.Terms.{IntVar}
use Rattle.linear_forms.specs.Substitution.{Each, Scoped}
use Rattle.linear_forms.specs.Replacing.{IsSafe, AreSafe}
use Rattle.linear_forms.proofs.Rebuilt.{each_more, safe_more}
use Rattle.substitution.specs.declared.scope.Binder.{Binder}
use Rattle.substitution.specs.Scopes.{before_of, after_of}

before_append : (group : List Binder) (b : Binder) → before_of (group ++ b ∷ []) ≡ before_of group ++ b.name ∷ []
before_append group b = map-append (λ (b : Binder). b.name) group (b ∷ [])

after_append : (group : List Binder) (b : Binder) → after_of (group ++ b ∷ []) ≡ after_of group ++ b.made ∷ []
after_append group b = map-append (λ (b : Binder). b.made) group (b ∷ [])

pub before_next : (names : List Ident) (i : ℕ) (name : Ident) (group more : List Binder) (b : Binder) → i < length names → get_or names i name ≡ name → more ≡ group ++ b ∷ [] → b.name ≡ name → before_of group ≡ take i names → before_of more ≡ take (i + 1) names
before_next names i name group more b l e m n h =
    ap before_of m ∙ before_append group b ∙ rw (h, n) (sym (take_more names i name l ∙ ap (λ x. take i names ++ x ∷ []) e))

pub safe_next : (most : ℕ) (put : List IntVar) (terms : List Scoped) (k n : ℕ) (group more : List Binder) (b : Binder) → k ≡ suc n → more ≡ group ++ b ∷ [] → AreSafe most put terms k (before_of group) (after_of group) → IsSafe most put terms n b.name b.made → AreSafe most put terms n (before_of more) (after_of more)
safe_next most put terms k n group more b e m h s =
    let here : AreSafe most put terms (suc n) (before_of group) (after_of group) = subst (λ (j : ℕ). AreSafe most put terms j (before_of group) (after_of group)) e h in
    rw (m, before_append group b, after_append group b) (safe_more most put terms n (before_of group) (after_of group) b.name b.made here s)

pub renamed_next : (R : Ident → Ident → Type 0) (names : List Ident) (i : ℕ) (name : Ident) (group more : List Binder) (b : Binder) → i < length names → get_or names i name ≡ name → more ≡ group ++ b ∷ [] → Each R (take i names) (after_of group) → R name b.made → Each R (take (i + 1) names) (after_of more)
renamed_next R names i name group more b l e m h r =
    let left : take i names ++ name ∷ [] ≡ take (i + 1) names = sym (take_more names i name l ∙ ap (λ x. take i names ++ x ∷ []) e) in
    rw (m, after_append group b) (subst (λ xs. Each R xs (after_of group ++ b.made ∷ [])) left (each_more R (take i names) (after_of group) name b.made h r))
