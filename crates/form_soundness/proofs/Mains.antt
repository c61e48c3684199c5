-- The function `main` of a program of form takes nothing and gives the unit.
use Rattle.std.proofs.Common.{◌≡◌, codes, Bool, true, false, cond, is_some, ◌&&◌, ◌||◌, List, [], ◌∷◌, map, Option, Some, refl, ap, ◌∙◌}
use Rattle.std.specs.List.{list_any}
use Rattle.std.proofs.lemmas.Bool.{and_parts}
use Rattle.core_language.specs.Names.{same}
use Rattle.core_language.specs.Programs.{Function, function_named}
use Rattle.core_language.specs.Endings.{is_nil}
use Rattle.chan_syntax.specs.declared.linear.Bound.{Bound}
use Rattle.chan_syntax.specs.declared.resources.Shape.{Shape, Unit, Int, End, Pair', Sum'}
use Rattle.chan_syntax.specs.Reading.{limit_of, bound_of, shape_of}
use Rattle.core_language.specs.Resources as written
use Rattle.form_faults.specs.declared.faults.Ill.{Ill}
use Rattle.form_faults.specs.declared.sorts.Sort.TheVariants as sort
use Rattle.form_faults.specs.declared.sorts.Known.{Known}
use Rattle.form_faults.specs.Scopes.{sort_of, bind, twice, twice_all}
use Rattle.core_programs.specs.declared.nodes.Node.{Node}
use Rattle.core_programs.specs.declared.nodes.Func.{Func}
use Rattle.core_programs.specs.Bodies.{param_of, function_of}
use Rattle.core_programs.specs.Passes.{func_names, is_unbound, is_unit, is_main, no_main}
use Rattle.frame_laws.proofs.Tests.{same_is, either, faultless, none_left, none_right}
use Rattle.frame_laws.proofs.Variables.{still_in_scope, now_in_scope}
use Rattle.outline_language.specs.Rules.{is_bare_unit}
use Rattle.outline_values.specs.Formed.{MainFormed}

-- ---- empty lists

nothing_in : {A B : Type 0} (f : A → B) (xs : List A) → is_nil xs ≡ true → map f xs ≡ []
nothing_in f [] is = refl
nothing_in f (x ∷ xs) is = cc

nothing : {A : Type 0} (xs : List A) → is_nil xs ≡ true → xs ≡ []
nothing [] is = refl
nothing (x ∷ xs) is = cc

-- ---- one function of a name

-- a name that is in scope and is bound is a fault
again : (known : Bool) (ill : Ill) → known ≡ true → cond known (ill ∷ []) [] ≡ [] → ⊥
again true ill is none = cc
again false ill is none = cc

-- no second function is `main`
no_second : (fs : List Func) (scope : List Known) → is_some (sort_of scope (codes "main")) ≡ true → twice_all scope (func_names fs) ≡ [] → list_any is_main fs ≡ true → ⊥
unfolding twice_all twice
no_second [] scope known none some = cc
no_second (f ∷ fs) scope known none some =
    let here = twice scope f.name f.name_span in
    let there = twice_all (bind scope f.name sort.Variable) (func_names fs) in
    either (is_main f) (list_any is_main fs)
    (λ is.
    let named = same_is f.name (codes "main") (and_parts (same f.name (codes "main")) _ is).0 in
    again (is_some (sort_of scope f.name)) _ (ap (λ x. is_some (sort_of scope x)) named ∙ known) (none_left here there none))
    (no_second fs (bind scope f.name sort.Variable) (still_in_scope scope f.name sort.Variable (codes "main") known) (none_right here there none))
    some

-- ---- main

unit_bare : (bound : Bound) (shape : Shape) → is_nil bound.names ≡ true → is_nil bound.limits ≡ true → is_unit shape ≡ true → is_bare_unit (written.Binds (bound_of bound) (shape_of shape)) ≡ true
unit_bare bound Unit names limits unit =
    ap (λ xs. is_nil xs && is_nil (map limit_of bound.limits)) (nothing bound.names names) ∙ ap is_nil (nothing_in limit_of bound.limits limits)
unit_bare bound (Int term) names limits unit = cc
unit_bare bound (End ref) names limits unit = cc
unit_bare bound (Pair' _ first _ second) names limits unit = cc
unit_bare bound (Sum' _ arms) names limits unit = cc

main_formed : (nodes : List Node) (g : Func) → is_unbound g.bound && (is_nil g.params && (is_unbound g.result.bound && is_unit g.result.shape)) ≡ true → MainFormed (function_of nodes g)
main_formed nodes g bare =
    let header = and_parts (is_unbound g.bound) _ bare in
    let rest = and_parts (is_nil g.params) _ header.1 in
    let result = and_parts (is_unbound g.result.bound) (is_unit g.result.shape) rest.1 in
    let binders = and_parts (is_nil g.bound.names) (is_nil g.bound.limits) header.0 in
    let others = and_parts (is_nil g.result.bound.names) (is_nil g.result.bound.limits) result.0 in
    record {
      ints = nothing g.bound.names binders.0;
      limits = nothing_in limit_of g.bound.limits binders.1;
      params = nothing_in param_of g.params rest.0;
      result = unit_bare g.result.bound g.result.shape others.0 others.1 result.1;
    }

-- the first function `main` takes nothing and gives the unit
pub main_found : (nodes : List Node) (fs : List Func) (scope : List Known) → twice_all scope (func_names fs) ≡ [] → list_any is_main fs ≡ true
    → (f : Function) × (function_named (codes "main") (map (function_of nodes) fs) ≡ Some f) × MainFormed f
unfolding twice_all
main_found nodes [] scope none some = cc
main_found nodes (g ∷ gs) scope none some =
    by (same g.name (codes "main")) (function_named (codes "main") (map (function_of nodes) gs)) refl
    (main_found nodes gs (bind scope g.name sort.Variable) there) some
  where
    there : twice_all (bind scope g.name sort.Variable) (func_names gs) ≡ []
    there = none_right (twice scope g.name g.name_span) (twice_all (bind scope g.name sort.Variable) (func_names gs)) none

    others : Bool
    others = is_unbound g.bound && (is_nil g.params && (is_unbound g.result.bound && is_unit g.result.shape))

    by : (t : Bool) (o : Option Function) → same g.name (codes "main") ≡ t → (list_any is_main gs ≡ true → (f : Function) × (o ≡ Some f) × MainFormed f)
        → (t && others) || list_any is_main gs ≡ true → (f : Function) × (cond t (Some (function_of nodes g)) o ≡ Some f) × MainFormed f
    by true o named more some = (
      function_of nodes g,
      refl,
      either others (list_any is_main gs) (main_formed nodes g)
          (λ second. absurd (no_second gs (bind scope g.name sort.Variable) (now_in_scope scope g.name sort.Variable (codes "main") named) there second))
          some,
    )
    by false o named more some = more some

pub has_main : (fs : List Func) → no_main fs ≡ [] → list_any is_main fs ≡ true
unfolding no_main
has_main fs none = faultless (list_any is_main fs) _ [] none
