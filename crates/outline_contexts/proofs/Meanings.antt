-- Names of terms that are integers, and meanings, one after the other.
use Rattle.std.proofs.Common.{◌≡◌, ℕ, ◌+◌, ◌<◌, Bool, true, false, ◌&&◌, List, [], ◌∷◌, ◌++◌, length, drop, get_or, map, refl, sym, ap, ◌∙◌, subst, Result, Ok, Err, append-nil, append_assoc}
use Rattle.std.specs.List.{list_all}
use Rattle.std.specs.Option.{option_to_list}
use Rattle.std.proofs.lemmas.List.Folds.{list_all-append}
use Rattle.core_language.specs.Names.{Ident}
use Rattle.core_language.specs.Terms.{Part, Term}
use Rattle.linear_forms.specs.Normal.{names_of}
use Rattle.outline_language.specs.LinearForms.{LinearForm}
use Rattle.outline_language.specs.Contexts.{Why, Context, and_then, meaning, meanings}
use Rattle.nameless_forms.specs.declared.faults.FormFault.{FormFault}
use Rattle.nameless_forms.specs.Faults.{IsTooLarge}
use Rattle.outline_obligations.specs.Reasons.{IsReason, fault_of}
use Rattle.outline_obligations.proofs.Reasons.{reason_to, too_large}
use Rattle.outline_obligations.proofs.Steps.{drop_here}

-- the names of the first part, and of the others
names_all : (test : Ident → Bool) (p : Part) (ps : Term) → list_all test (names_of (p ∷ ps)) ≡ (list_all test (names_of (p ∷ [])) && list_all test (names_of ps))
names_all test p ps =
    list_all-append test (option_to_list p.name) (names_of ps)
    ∙ ap (λ xs. list_all test xs && list_all test (names_of ps)) (sym (append-nil (option_to_list p.name)))

module _ {X : Type 0} (test : Ident → Bool) (part : X → Part) (xs : List X) (i : ℕ) (x : X) (lt : i < length xs) (is : x ≡ get_or xs i x) where
  split : list_all test (names_of (map part (drop i xs))) ≡ (list_all test (names_of (part x ∷ [])) && list_all test (names_of (map part (drop (i + 1) xs))))
  split = ap (λ ys. list_all test (names_of (map part ys))) (drop_here xs i x lt is) ∙ names_all test (part x) (map part (drop (i + 1) xs))

  pub name_fails : list_all test (names_of (part x ∷ [])) ≡ false → list_all test (names_of (map part (drop i xs))) ≡ false
  name_fails none = split ∙ ap (λ b. b && list_all test (names_of (map part (drop (i + 1) xs)))) none

  pub name_passes : list_all test (names_of (part x ∷ [])) ≡ true → list_all test (names_of (map part (drop i xs))) ≡ list_all test (names_of (map part (drop (i + 1) xs)))
  name_passes all = split ∙ ap (λ b. b && list_all test (names_of (map part (drop (i + 1) xs)))) all

-- meanings behind some that are there
abbrev pub behind : List LinearForm → Result (List LinearForm) Why → Result (List LinearForm) Why
behind forms r = and_then r (λ rest. Ok (forms ++ rest))

pub behind_nothing : (r : Result (List LinearForm) Why) → behind [] r ≡ r
behind_nothing (Ok forms) = refl
behind_nothing (Err w) = refl

behind_one : (forms : List LinearForm) (form : LinearForm) (r : Result (List LinearForm) Why)
    → behind forms (and_then r (λ rest. Ok (form ∷ rest))) ≡ behind (forms ++ form ∷ []) r
behind_one forms form (Ok rest) = ap Ok (sym (append_assoc forms (form ∷ []) rest))
behind_one forms form (Err w) = refl

pub behind_end : (forms : List LinearForm) (r : Result (List LinearForm) Why) → r ≡ Ok [] → behind forms r ≡ Ok forms
behind_end forms r is = ap (behind forms) is ∙ ap Ok (append-nil forms)

module _ {X : Type 0} (ctx : Context) (term : X → Term) (xs : List X) (i : ℕ) (x : X) (lt : i < length xs) (is : x ≡ get_or xs i x) (forms : List LinearForm) where
  first : behind forms (meanings ctx (map term (drop i xs))) ≡ behind forms (meanings ctx (term x ∷ map term (drop (i + 1) xs)))
  first = ap (λ ys. behind forms (meanings ctx (map term ys))) (drop_here xs i x lt is)

  pub one_meant : (form : LinearForm) → meaning ctx (term x) ≡ Ok form
      → behind forms (meanings ctx (map term (drop i xs))) ≡ behind (forms ++ form ∷ []) (meanings ctx (map term (drop (i + 1) xs)))
  one_meant form ok =
      first
      ∙ ap (λ r. behind forms (and_then r (λ f. and_then (meanings ctx (map term (drop (i + 1) xs))) (λ rest. Ok (f ∷ rest))))) ok
      ∙ behind_one forms form (meanings ctx (map term (drop (i + 1) xs)))

  pub none_meant : (w : Why) → meaning ctx (term x) ≡ Err w → behind forms (meanings ctx (map term (drop i xs))) ≡ Err w
  none_meant w err = first ∙ ap (λ r. behind forms (and_then r (λ f. and_then (meanings ctx (map term (drop (i + 1) xs))) (λ rest. Ok (f ∷ rest))))) err

-- what is too large is the reason of all that is it
pub too_large_as : {A : Type 0} (answer whole : Result A Why) → whole ≡ answer → (f : FormFault) → IsTooLarge answer f → IsReason whole (fault_of f)
too_large_as {A} answer whole same f large = subst (λ (r : Result A Why). IsReason r (fault_of f)) (sym same) (too_large answer f large)

pub too_large_to : {A B : Type 0} (first : Result A Why) (whole : Result B Why) → ((w : Why) → first ≡ Err w → whole ≡ Err w)
    → (f : FormFault) → IsTooLarge first f → IsReason whole (fault_of f)
too_large_to first whole to f large = reason_to first whole to (fault_of f) (too_large first f large)
