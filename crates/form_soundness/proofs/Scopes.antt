-- Lists of names that have all variables of a scope.
use Rattle.std.proofs.Common.{◌≡◌, Bool, true, false, ◌||◌, List, [], ◌∷◌, ◌++◌, map, refl, sym, ap, ◌∙◌, subst}
use Rattle.std.specs.List.{list_any}
use Rattle.std.proofs.lemmas.Bool.{or_right}
use Rattle.core_language.specs.Names.{Ident, same}
use Rattle.core_language.specs.Programs as core
use Rattle.chan_syntax.specs.declared.operands.Pat.{Pat}
use Rattle.chan_syntax.specs.declared.linear.Bound.{Bound}
use Rattle.chan_syntax.specs.declared.resources.Param.{Param}
use Rattle.form_faults.specs.declared.sorts.Known.{Known}
use Rattle.form_faults.specs.Scopes.{Binder, bind, bind_all}
use Rattle.form_faults.specs.Resources.{header_scope}
use Rattle.form_faults.specs.Operands.{pat_binders}
use Rattle.core_programs.specs.Bodies.{param_of}
use Rattle.frame_laws.proofs.Variables.{IsVariable, binds, was_variable, binds-integers, of_header}

-- the name is one of the list
abbrev pub Has : List Ident → Ident → Type 0
Has xs x = list_any (λ y. same y x) xs ≡ true

-- the list has each variable of the scope
abbrev pub Covers : List Known → List Ident → Type 0
Covers scope xs = (x : Ident) → IsVariable scope x → Has xs x

has_before : (xs ys : List Ident) (x : Ident) → Has xs x → Has (xs ++ ys) x
has_before [] ys x has = cc
has_before (z ∷ xs) ys x has = by (same z x) (list_any (λ y. same y x) xs) (list_any (λ y. same y x) (xs ++ ys)) (has_before xs ys x) has
  where
    by : (t a b : Bool) → (a ≡ true → b ≡ true) → t || a ≡ true → t || b ≡ true
    by true a b more is = refl
    by false a b more is = more is

has_after : (xs ys : List Ident) (x : Ident) → Has ys x → Has (xs ++ ys) x
has_after [] ys x has = has
has_after (z ∷ xs) ys x has = or_right (same z x) (list_any (λ y. same y x) (xs ++ ys)) (has_after xs ys x has)

-- behind the names of binders that bind the variable of one more name
pub covers_more : (bs : List Binder) (scope : List Known) (xs ys : List Ident) → ((x : Ident) → binds bs x ≡ true → Has ys x) → Covers scope xs → Covers (bind_all scope bs) (xs ++ ys)
covers_more bs scope xs ys bound covers x is = by (binds bs x) refl
  where
    by : (t : Bool) → binds bs x ≡ t → Has (xs ++ ys) x
    by true new = has_after xs ys x (bound x new)
    by false old = has_before xs ys x (covers x (was_variable bs scope x old is))

pattern_has : (pat : Pat) (x : Ident) → binds (pat_binders pat) x ≡ true → Has (pat.name ∷ []) x
pattern_has pat x is = sym (ap (λ b. same pat.name x || b) (binds-integers pat.names pat.names_spans x)) ∙ is

pub covers_pattern : (pat : Pat) (scope : List Known) (xs : List Ident) → Covers scope xs → Covers (bind_all scope (pat_binders pat)) (xs ++ pat.name ∷ [])
covers_pattern pat scope xs covers = covers_more (pat_binders pat) scope xs (pat.name ∷ []) (pattern_has pat) covers

bind_both : (bs cs : List Binder) (scope : List Known) → bind_all scope (bs ++ cs) ≡ bind_all (bind_all scope bs) cs
unfolding bind_all
bind_both [] cs scope = refl
bind_both (b ∷ bs) cs scope = bind_both bs cs (bind scope b.name b.sort)

pub covers_patterns : (first second : Pat) (scope : List Known) (xs : List Ident) → Covers scope xs
    → Covers (bind_all scope (pat_binders first ++ pat_binders second)) ((xs ++ first.name ∷ []) ++ second.name ∷ [])
covers_patterns first second scope xs covers =
    subst (λ (known : List Known). Covers known ((xs ++ first.name ∷ []) ++ second.name ∷ [])) (sym (bind_both (pat_binders first) (pat_binders second) scope))
    (covers_pattern second (bind_all scope (pat_binders first)) (xs ++ first.name ∷ []) (covers_pattern first scope xs covers))

-- ---- headers

params_have : (ps : List core.Param) (x : Ident) → list_any (λ (p : core.Param). same p.name x) ps ≡ true → Has (map (λ p. p.name) ps) x
params_have [] x is = cc
params_have (p ∷ ps) x is = by (same p.name x) (list_any (λ (q : core.Param). same q.name x) ps) (list_any (λ y. same y x) (map (λ q. q.name) ps)) (params_have ps x) is
  where
    by : (t a b : Bool) → (a ≡ true → b ≡ true) → t || a ≡ true → t || b ≡ true
    by true a b more is = refl
    by false a b more is = more is

-- the variables of a header are its parameters
pub covers_header : (bound : Bound) (params : List Param) → Covers (header_scope bound params) (map (λ p. p.name) (map param_of params))
covers_header bound params x is = params_have (map param_of params) x (of_header bound params x is)
