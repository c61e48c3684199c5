-- The protocols of the cases are well formed.
use Rattle.std.proofs.Common.{◌≡◌, ℕ, Bool, true, false, ◌&&◌, ◌||◌, nat_eq, List, [], ◌∷◌, ◌++◌, All, length, Option, Some, None, refl, sym, ◌∙◌, ap, subst}
use Rattle.std.specs.List.{list_all, list_any}
use Rattle.std.proofs.lemmas.Bool.{eqb-true}
use Rattle.std.proofs.Math.Bool.{false≢true}
use Rattle.std.proofs.lemmas.List.Elements.{All-nil, All-cons}
use Rattle.core_language.specs.Names.{Ident, same}
use Rattle.core_language.specs.Terms.{Term}
use Rattle.core_language.specs.Resources.{Ref, Proto}
use Rattle.linear_forms.specs.Normal.{names_of}
use Rattle.linear_forms.proofs.SameNames.{same_is, same-turned}
use Rattle.linear_forms.specs.Substitution.{Scoped}
use Rattle.protocols.specs.Duals.{message_of, branches_of}
use Rattle.outline_language.specs.Equations.{proto_named}
use Rattle.protocols.specs.Unfolding.{NamesOnly, NamesUnder, branch_terms, message_terms, HasArity, AreFormed}
use Rattle.protocol_tests.specs.Examples.{Stop, examples}

-- ---- tests that compute

both : (a b : Bool) → (a && b) ≡ true → (a ≡ true) × (b ≡ true)
both true b e = (refl, e)
both false b e = absurd (false≢true e)

all_from : {X : Type 0} (f : X → Bool) (P : X → Type 0) (xs : List X) → ((x : X) → f x ≡ true → P x) → list_all f xs ≡ true → All P xs
all_from f P [] k e = All-nil P
all_from f P (x ∷ xs) k e = let two = both (f x) (list_all f xs) e in All-cons P x xs (k x two.0) (all_from f P xs k two.1)

-- what holds of all protocols holds of the one with a name
test_at : (f : Proto → Bool) (x : Ident) (ps : List Proto) (p : Proto) → list_all f ps ≡ true → proto_named x ps ≡ Some p → (f p ≡ true) × (same p.name x ≡ true)
test_at f x [] p h e = absurd cc
test_at f x (q ∷ qs) p h e = pick (same q.name x) refl (test_at f x qs p (both (f q) (list_all f qs) h).1)
  where
    pick : (b : Bool) → same q.name x ≡ b → (proto_named x qs ≡ Some p → (f p ≡ true) × (same p.name x ≡ true)) → (f p ≡ true) × (same p.name x ≡ true)
    pick true g again =
        let here : Some q ≡ Some p = rw g at e in
        let is : q ≡ p = cc in
        (subst (λ (r : Proto). f r ≡ true) is (both (f q) (list_all f qs) h).0, subst (λ (r : Proto). same r.name x ≡ true) is g)
    pick false g again = let later : proto_named x qs ≡ Some p = rw g at e in again later

abbrev names_only : List Ident → Term → Bool
names_only params term = list_all (λ x. list_any (λ p. same p x) params) (names_of term)

names_are : (params : List Ident) (term : Term) → names_only params term ≡ true → NamesOnly params term
names_are params term e = all_from (λ x. list_any (λ p. same p x) params) (λ x. list_any (λ p. same p x) params ≡ true) (names_of term) (λ x f. f) e

abbrev as_many : ℕ → Option Proto → Bool
as_many count None = true
as_many count (Some p) = nat_eq count (length p.params)

abbrev has_arity : Ref → Bool
has_arity ref = as_many (length ref.args) (proto_named ref.name examples)

arity_is : (ref : Ref) → has_arity ref ≡ true → HasArity examples ref
arity_is ref e p f = let many : nat_eq (length ref.args) (length p.params) ≡ true = sym (ap (as_many (length ref.args)) f) ∙ e in eqb-true (length ref.args) (length p.params) many

-- ---- the protocols

abbrev branch_is_named : Proto → Bool
branch_is_named p = list_all (names_only p.params) (branch_terms p.equation)

abbrev message_is_named : Proto → Bool
message_is_named p = list_all (λ (s : Scoped). names_only (s.binders ++ p.params) s.term) (message_terms (message_of p.equation))

abbrev branches_have_arity : Proto → Bool
branches_have_arity p = list_all has_arity (branches_of p.equation)

pub formed : AreFormed examples
formed = record {
  named = λ x p e. all_from (names_only p.params) (NamesOnly p.params) (branch_terms p.equation) (names_are p.params) (test_at branch_is_named x examples p refl e).0;
  scoped = λ x p e. all_from (λ (s : Scoped). names_only (s.binders ++ p.params) s.term) (NamesUnder p.params) (message_terms (message_of p.equation)) (λ s f. names_are (s.binders ++ p.params) s.term f) (test_at message_is_named x examples p refl e).0;
  arity = λ x p e. all_from has_arity (HasArity examples) (branches_of p.equation) arity_is (test_at branches_have_arity x examples p refl e).0;
}

-- ---- an end at one argument

abbrev one_or_stop : Proto → Bool
one_or_stop p = nat_eq 1 (length p.params) || same Stop p.name

-- it has its arity, unless it is `Stop`
one_argument : (r : Ref) (t : Term) → r.args ≡ t ∷ [] → same Stop r.name ≡ false → HasArity examples r
one_argument r t args other p e = ap length args ∙ by (nat_eq 1 (length p.params)) refl
  where
    found : (one_or_stop p ≡ true) × (same p.name r.name ≡ true)
    found = test_at one_or_stop r.name examples p refl e

    by : (b : Bool) → nat_eq 1 (length p.params) ≡ b → 1 ≡ length p.params
    by true f = eqb-true 1 (length p.params) f
    by false f =
        let stop : same Stop p.name ≡ true = rw f at found.0 in
        let here : same Stop r.name ≡ true = rw (sym (same_is p.name r.name found.1)) stop in
        absurd (false≢true (sym other ∙ here))

pub from_arity : (name : Ident) (r : Ref) (t : Term) → r.name ≡ name → r.args ≡ t ∷ [] → same name Stop ≡ false → HasArity examples r
from_arity name r t is args other = one_argument r t args (rw is (same-turned Stop name ∙ other))
