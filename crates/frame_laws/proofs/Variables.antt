-- Which names a scope has as variables.
use Rattle.std.proofs.Common.{◌≡◌, Bool, true, false, cond, is_some, ◌&&◌, ◌||◌, true≢false, List, [], ◌∷◌, ◌++◌, map, Option, Some, None, ◌⊎◌, inl, inr, ⊎_elim, refl, sym, ap, ◌∙◌}
use Rattle.std.specs.List.{list_any}
use Rattle.std.proofs.lemmas.Bool.{or_left, or_right, or_from, or_parts, and_from}
use Rattle.core_language.specs.Names.{Ident, same}
use Rattle.core_language.specs.Programs as core
use Rattle.chan_base.specs.declared.spans.Span.{Span}
use Rattle.chan_syntax.specs.declared.linear.Bound.{Bound}
use Rattle.chan_syntax.specs.declared.operands.Pat.{Pat}
use Rattle.chan_syntax.specs.declared.resources.Param.{Param}
use Rattle.form_faults.specs.declared.sorts.Sort.{Sort}
use Rattle.form_faults.specs.declared.sorts.Sort.TheVariants as sort
use Rattle.form_faults.specs.declared.sorts.Naming.TheVariants as naming
use Rattle.form_faults.specs.declared.sorts.Known.{Known}
use Rattle.form_faults.specs.Scopes.{sort_of, allows, is_usable, unscoped, Binder, bind, bind_all, binders}
use Rattle.form_faults.specs.Terms.{bound_binders, bound_scope}
use Rattle.form_faults.specs.Resources.{params_scope, header_scope}
use Rattle.form_faults.specs.Operands.{pat_binders}
use Rattle.core_programs.specs.Bodies.{param_of}
use Rattle.frame_laws.proofs.Tests.{same_is, faultless}

-- the name may stand where a variable is used
abbrev pub IsVariable : List Known → Ident → Type 0
IsVariable scope x = is_usable naming.Variables (sort_of scope x) ≡ true

pub named_variable : (scope : List Known) (x : Ident) (span : Span) → unscoped naming.Variables scope x span ≡ [] → IsVariable scope x
unfolding unscoped
named_variable scope x span none = faultless (is_usable naming.Variables (sort_of scope x)) _ [] none

-- ---- names that are bound

-- some binder binds the name as a variable
abbrev pub binds : List Binder → Ident → Bool
binds [] x = false
binds (b ∷ bs) x = (allows naming.Variables b.sort && same b.name x) || binds bs x

pushed : (scope : List Known) (k : Known) (x : Ident) → IsVariable (scope ++ k ∷ []) x → IsVariable scope x ⊎ (allows naming.Variables k.sort && same k.name x ≡ true)
unfolding sort_of
pushed [] k x = by (same k.name x)
  where
    by : (t : Bool) → is_usable naming.Variables (cond t (Some k.sort) None) ≡ true → (false ≡ true) ⊎ (allows naming.Variables k.sort && t ≡ true)
    by true is = inr (and_from (allows naming.Variables k.sort) true is refl)
    by false is = inl is
pushed (s ∷ scope) k x = by (same s.name x) (sort_of (scope ++ k ∷ []) x) (sort_of scope x) (pushed scope k x)
  where
    by : (t : Bool) (a b : Option Sort) → (is_usable naming.Variables a ≡ true → (is_usable naming.Variables b ≡ true) ⊎ (allows naming.Variables k.sort && same k.name x ≡ true))
        → is_usable naming.Variables (cond t (Some s.sort) a) ≡ true
        → (is_usable naming.Variables (cond t (Some s.sort) b) ≡ true) ⊎ (allows naming.Variables k.sort && same k.name x ≡ true)
    by true a b more is = inl is
    by false a b more is = more is

bound_variable : (scope : List Known) (y : Ident) (its : Sort) (x : Ident) → IsVariable (bind scope y its) x → IsVariable scope x ⊎ (allows naming.Variables its && same y x ≡ true)
unfolding bind
bound_variable scope y its x = by (is_some (sort_of scope y))
  where
    by : (t : Bool) → IsVariable (cond t scope (scope ++ record { name = y; sort = its } ∷ [])) x → IsVariable scope x ⊎ (allows naming.Variables its && same y x ≡ true)
    by true is = inl is
    by false is = pushed scope (record { name = y; sort = its }) x is

-- what the binders don't bind was a variable before them
pub was_variable : (bs : List Binder) (scope : List Known) (x : Ident) → binds bs x ≡ false → IsVariable (bind_all scope bs) x → IsVariable scope x
unfolding bind_all
was_variable [] scope x none is = is
was_variable (b ∷ bs) scope x none is =
    let both = or_parts (allows naming.Variables b.sort && same b.name x) (binds bs x) none in
    ⊎_elim
    (λ old. old)
    (λ new. absurd (true≢false (sym new ∙ both.0)))
    (bound_variable scope b.name b.sort x (was_variable bs (bind scope b.name b.sort) x both.1 is))

pub binds-integers : (names : List Ident) (spans : List Span) (x : Ident) → binds (binders sort.Integer names spans) x ≡ false
unfolding binders
binds-integers [] spans x = refl
binds-integers (n ∷ ns) [] x = binds-integers ns [] x
binds-integers (n ∷ ns) (s ∷ ss) x = binds-integers ns ss x

-- a pattern binds its own name alone
pub binds-pattern : (pat : Pat) (x : Ident) → same pat.name x ≡ false → binds (pat_binders pat) x ≡ false
binds-pattern pat x other = or_from (same pat.name x) (binds (binders sort.Integer pat.names pat.names_spans) x) other (binds-integers pat.names pat.names_spans x)

pub binds-append : (bs cs : List Binder) (x : Ident) → binds bs x ≡ false → binds cs x ≡ false → binds (bs ++ cs) x ≡ false
binds-append [] cs x first second = second
binds-append (b ∷ bs) cs x first second =
    let both = or_parts (allows naming.Variables b.sort && same b.name x) (binds bs x) first in
    or_from (allows naming.Variables b.sort && same b.name x) (binds (bs ++ cs) x) both.0 (binds-append bs cs x both.1 second)

-- ---- the scope of a header

of_params : (params : List Param) (scope : List Known) (x : Ident) → IsVariable (params_scope scope params) x
    → IsVariable scope x ⊎ (list_any (λ (p : core.Param). same p.name x) (map param_of params) ≡ true)
unfolding params_scope
of_params [] scope x is = inl is
of_params (p ∷ ps) scope x is = ⊎_elim
    (λ before. ⊎_elim (λ old. inl old) (λ new. inr (or_left (same p.name x) _ new)) (bound_variable scope p.name sort.Variable x before))
    (λ after. inr (or_right (same p.name x) _ after))
    (of_params ps (bind scope p.name sort.Variable) x is)

no_variable : (x : Ident) → IsVariable [] x → ⊥
unfolding sort_of
no_variable x is = cc

-- the variables of a header are its parameters
pub of_header : (bound : Bound) (params : List Param) (x : Ident) → IsVariable (header_scope bound params) x → list_any (λ (p : core.Param). same p.name x) (map param_of params) ≡ true
unfolding header_scope bound_scope
of_header bound params x is = ⊎_elim
    (λ before. absurd (no_variable x (was_variable (bound_binders bound) [] x (binds-integers bound.names bound.names_spans x) before)))
    (λ among. among)
    (of_params params (bound_scope [] bound) x is)

-- ---- names in scope

keeps_name : (scope : List Known) (k : Known) (x : Ident) → is_some (sort_of scope x) ≡ true → is_some (sort_of (scope ++ k ∷ []) x) ≡ true
unfolding sort_of
keeps_name [] k x is = cc
keeps_name (s ∷ scope) k x is = by (same s.name x) (sort_of scope x) (sort_of (scope ++ k ∷ []) x) (keeps_name scope k x) is
  where
    by : (t : Bool) (a b : Option Sort) → (is_some a ≡ true → is_some b ≡ true) → is_some (cond t (Some s.sort) a) ≡ true → is_some (cond t (Some s.sort) b) ≡ true
    by true a b more is = refl
    by false a b more is = more is

adds_name : (scope : List Known) (k : Known) (x : Ident) → same k.name x ≡ true → is_some (sort_of (scope ++ k ∷ []) x) ≡ true
unfolding sort_of
adds_name [] k x is = ap (λ t. is_some (cond t (Some k.sort) None)) is
adds_name (s ∷ scope) k x is = by (same s.name x) (sort_of (scope ++ k ∷ []) x) (adds_name scope k x is)
  where
    by : (t : Bool) (a : Option Sort) → is_some a ≡ true → is_some (cond t (Some s.sort) a) ≡ true
    by true a more = refl
    by false a more = more

-- a name that is in scope stays there
pub still_in_scope : (scope : List Known) (y : Ident) (its : Sort) (x : Ident) → is_some (sort_of scope x) ≡ true → is_some (sort_of (bind scope y its) x) ≡ true
unfolding bind
still_in_scope scope y its x is = by (is_some (sort_of scope y))
  where
    by : (t : Bool) → is_some (sort_of (cond t scope (scope ++ record { name = y; sort = its } ∷ [])) x) ≡ true
    by true = is
    by false = keeps_name scope (record { name = y; sort = its }) x is

-- a name that is bound is in scope
pub now_in_scope : (scope : List Known) (y : Ident) (its : Sort) (x : Ident) → same y x ≡ true → is_some (sort_of (bind scope y its) x) ≡ true
unfolding bind
now_in_scope scope y its x is = by (is_some (sort_of scope y)) refl
  where
    by : (t : Bool) → is_some (sort_of scope y) ≡ t → is_some (sort_of (cond t scope (scope ++ record { name = y; sort = its } ∷ [])) x) ≡ true
    by true known = ap (λ z. is_some (sort_of scope z)) (sym (same_is y x is)) ∙ known
    by false known = adds_name scope (record { name = y; sort = its }) x is
