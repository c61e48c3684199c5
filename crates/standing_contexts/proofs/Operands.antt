-- Operands come to the same where variables that are named have the same values; and what a frame keeps.
use Rattle.standing_contexts.specs.Places.{Agree}
use Rattle.std.proofs.Common.{◌≡◌, ℕ, ℤ, pos, ◌*ℤ◌, Bool, true, false, ◌||◌, if◌then◌else◌, List, [], ◌∷◌, ◌++◌, filter, Option, Some, None, refl, ap, sym, subst, ◌∙◌}
use Rattle.std.proofs.lemmas.Bool.{eq-eqb}
use Rattle.core_language.specs.Names.{Ident, same}
use Rattle.core_language.specs.Terms.{Part, Term}
use Rattle.core_language.specs.Operands.{Supply}
use Rattle.core_language.specs.Operands as supply
use Rattle.core_language.specs.Programs.{Body}
use Rattle.core_language.specs.Values.{Value}
use Rattle.core_language.specs.Values as value
use Rattle.core_language.specs.Computing.{Limits, Computed, Done, Env, value_of, and_then, as_int, checked, product, joined, sum_from, sum_of, is_one, bare_part, bare_name, known, shallow, term_value, supplied, all_supplied}
use Rattle.core_language.specs.Configurations.{is_name, in_term, in_supply, in_supplies, names, kept}
use Rattle.core_language.specs.Acts.{bound}
use Rattle.outline_values.proofs.Answers.{one_some, none_some}
use Rattle.outline_values.proofs.Shapes.{same-is}

pub either_left : (a b : Bool) → a ≡ true → (a || b) ≡ true
either_left true b e = refl
either_left false b e = cc

pub either_right : (a b : Bool) → b ≡ true → (a || b) ≡ true
either_right true b e = refl
either_right false b e = e

pub same-self : (x : List ℕ) → same x x ≡ true
same-self [] = refl
same-self (x ∷ xs) = rw (eq-eqb x x refl) (same-self xs)

module _ (limits : Limits) (env F : Env) where
  pub sum-agrees : (term : Term) (total : ℤ) → Agree (λ x. in_term x term) env F → sum_from limits env total term ≡ sum_from limits F total term
  sum-agrees [] total h = refl
  sum-agrees (p ∷ ps) total h = go (p.name) (λ x e. h x (either_left (is_name x p.name) (in_term x ps) e)) (λ z. sum-agrees ps z (λ x e. h x (either_right (is_name x p.name) (in_term x ps) e)))
    where
      go : (o : Option Ident) → ((x : Ident) → is_name x o ≡ true → value_of env x ≡ value_of F x) → ((z : ℤ) → sum_from limits env z ps ≡ sum_from limits F z ps)
          → and_then (product limits env p.factor o) (λ z. and_then (checked limits (joined p.negative total z)) (λ next. sum_from limits env next ps)) ≡ and_then (product limits F p.factor o) (λ z. and_then (checked limits (joined p.negative total z)) (λ next. sum_from limits F next ps))
      go None here ih = then_same (product limits F p.factor None) ih
        where
          then_same : (c : Computed ℤ) → ((z : ℤ) → sum_from limits env z ps ≡ sum_from limits F z ps) → and_then c (λ z. and_then (checked limits (joined p.negative total z)) (λ next. sum_from limits env next ps)) ≡ and_then c (λ z. and_then (checked limits (joined p.negative total z)) (λ next. sum_from limits F next ps))
          then_same c ih = ap (λ f. and_then c (λ z. and_then (checked limits (joined p.negative total z)) f)) (λ i next. ih next i)
      go (Some x) here ih = ap (λ v. and_then (and_then (as_int v) (λ z. checked limits (p.factor *ℤ z))) (λ z. and_then (checked limits (joined p.negative total z)) (λ next. sum_from limits env next ps))) (here x (same-self x))
          ∙ ap (λ f. and_then (and_then (as_int (value_of F x)) (λ z. checked limits (p.factor *ℤ z))) (λ z. and_then (checked limits (joined p.negative total z)) f)) (λ i next. ih next i)

  pub bare-in : (term : Term) (x : Ident) → bare_name term ≡ Some x → in_term x term ≡ true
  bare-in [] x e = cc
  bare-in (p ∷ q ∷ ps) x e = cc
  bare-in (p ∷ []) x e = either_left (is_name x p.name) false (by (p.negative) (p.name) e)
    where
      by : (b : Bool) (o : Option Ident) → bare_part b (p.factor) o ≡ Some x → is_name x o ≡ true
      by true o e = none_some e
      by false None e = one (is_one (p.factor)) e
        where
          one : (b : Bool) → (if b then None else None) ≡ Some x → false ≡ true
          one true e = none_some e
          one false e = none_some e
      by false (Some y) e = one (is_one (p.factor)) e
        where
          one : (b : Bool) → (if b then Some y else None) ≡ Some x → same x y ≡ true
          one true e = subst (λ z. same x z ≡ true) (sym (one_some e)) (same-self x)
          one false e = none_some e

  pub supplied-agrees : (s : Supply) → Agree (λ x. in_supply x s) env F → supplied limits env s ≡ supplied limits F s
  supplied-agrees supply.Unit h = refl
  supplied-agrees (supply.Pair s t) h =
      ap (λ c. and_then c (λ a. and_then (supplied limits env t) (λ b. shallow (value.Pair a b)))) (supplied-agrees s (λ x e. h x (either_left (in_supply x s) (in_supply x t) e)))
      ∙ ap (λ c. and_then (supplied limits F s) (λ a. and_then c (λ b. shallow (value.Pair a b)))) (supplied-agrees t (λ x e. h x (either_right (in_supply x s) (in_supply x t) e)))
  supplied-agrees (supply.Arm i s) h = ap (λ c. and_then c (λ a. shallow (value.Arm i a))) (supplied-agrees s h)
  supplied-agrees (supply.Sum term) h = go (bare_name term) refl
    where
      go : (o : Option Ident) → bare_name term ≡ o → term_value limits env term o ≡ term_value limits F term o
      go None e = ap (λ c. and_then c (λ z. Done (value.Int z))) (sum-agrees term (pos 0) h)
      go (Some x) e = ap known (h x (bare-in term x e))

  pub all_supplied-agrees : (ss : List Supply) → Agree (λ x. in_supplies x ss) env F → all_supplied limits env ss ≡ all_supplied limits F ss
  all_supplied-agrees [] h = refl
  all_supplied-agrees (s ∷ ss) h =
      ap (λ c. and_then c (λ v. and_then (all_supplied limits env ss) (λ vs. Done (v ∷ vs)))) (supplied-agrees s (λ x e. h x (either_left (in_supply x s) (in_supplies x ss) e)))
      ∙ ap (λ c. and_then (supplied limits F s) (λ v. and_then c (λ vs. Done (v ∷ vs)))) (all_supplied-agrees ss (λ x e. h x (either_right (in_supply x s) (in_supplies x ss) e)))

-- ---- what a frame keeps

pub kept-value : (rest : Body) (env : Env) (x : Ident) → names rest x ≡ true → value_of (kept rest env) x ≡ value_of env x
kept-value rest [] x e = refl
kept-value rest (b ∷ bs) x e = go (names rest b.0) refl (same b.0 x) refl (kept-value rest bs x e)
  where
    go : (t : Bool) → names rest b.0 ≡ t → (r : Bool) → same b.0 x ≡ r → value_of (kept rest bs) x ≡ value_of bs x → value_of (if t then (b ∷ kept rest bs) else kept rest bs) x ≡ (if r then Some b.1 else value_of bs x)
    go true t true r ih = rw r refl
    go true t false r ih = rw r ih
    go false t true r ih = let z : names rest x ≡ false = ap (names rest) (sym (same-is b.0 x r)) ∙ t in cc
    go false t false r ih = ih

-- one more variable
abbrev or_new : Ident → Value → Ident → Option Value → Option Value
or_new x v y (Some u) = Some u
or_new x v y None = if same x y then Some v else None

appended : (G : Env) (x : Ident) (v : Value) (y : Ident) → value_of (G ++ (x, v) ∷ []) y ≡ or_new x v y (value_of G y)
appended [] x v y = refl
appended (b ∷ G) x v y = go (same b.0 y) (appended G x v y)
  where
    go : (t : Bool) → value_of (G ++ (x, v) ∷ []) y ≡ or_new x v y (value_of G y) → (if t then Some b.1 else value_of (G ++ (x, v) ∷ []) y) ≡ or_new x v y (if t then Some b.1 else value_of G y)
    go true ih = refl
    go false ih = ih

pub bound-value : (env F : Env) (x : Ident) (v : Value) (y : Ident) → value_of env y ≡ value_of F y → value_of (bound env x v) y ≡ value_of (bound F x v) y
bound-value env F x v y h = appended env x v y ∙ ap (or_new x v y) h ∙ sym (appended F x v y)
