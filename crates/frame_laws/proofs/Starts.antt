-- The start of a well-formed program fits it: the function `main` has no parameters, and needs no variable.
use Rattle.std.proofs.Common.{◌≡◌, codes, Bool, true, false, cond, is_some, ◌&&◌, ◌||◌, if◌then◌else◌, true≢false, List, [], ◌∷◌, map, Option, Some, None, refl, sym, ap, ◌∙◌, subst}
use Rattle.std.specs.List.{list_any}
use Rattle.std.specs.Ordering.{nat_cmp}
use Rattle.std.specs.Cmp.Lexicographic.{slice_cmp}
use Rattle.std.specs.FinMap.{get, empty, get-empty}
use Rattle.std.proofs.lemmas.Bool.{and_parts}
use Rattle.core_language.specs.Names.{Name, main, same}
use Rattle.core_language.specs.Programs.{Function, function_named, main_function}
use Rattle.core_language.specs.Programs as core
use Rattle.core_language.specs.Endings.{is_nil}
use Rattle.core_language.specs.Configurations.{Task, started}
use Rattle.form_faults.specs.declared.faults.Ill.{Ill}
use Rattle.form_faults.specs.declared.sorts.Sort.TheVariants as sort
use Rattle.form_faults.specs.declared.sorts.Known.{Known}
use Rattle.form_faults.specs.Scopes.{sort_of, bind, twice, twice_all}
use Rattle.chan_syntax.specs.declared.resources.Param.{Param}
use Rattle.core_programs.specs.declared.nodes.Node.{Node}
use Rattle.core_programs.specs.declared.nodes.Func.{Func}
use Rattle.core_programs.specs.declared.nodes.Parts.{Parts}
use Rattle.core_programs.specs.Bodies.{param_of, function_of, program_of}
use Rattle.core_programs.specs.Passes.{proto_names, func_names, is_unbound, is_unit, is_main, no_main}
use Rattle.core_programs.specs.Form.{IsFormed}
use Rattle.frame_laws.specs.Fits.{Fits}
use Rattle.frame_laws.specs.Laws.{FitsItsStart}
use Rattle.frame_laws.proofs.Tests.{same_is, either, faultless, none_left, none_right}
use Rattle.frame_laws.proofs.Variables.{still_in_scope, now_in_scope}
use Rattle.frame_laws.proofs.Nodes.{body_of}
use Rattle.frame_laws.proofs.Steps.{put_fits}

-- a name that is in scope and is bound is a fault
again : (known : Bool) (ill : Ill) → known ≡ true → (if known then ill ∷ [] else []) ≡ [] → ⊥
again true ill is none = cc
again false ill is none = cc

bare_params : (ps : List Param) → is_nil ps ≡ true → map param_of ps ≡ []
bare_params [] is = refl
bare_params (p ∷ ps) is = cc

-- no second function is `main`
no_second : (fs : List Func) (scope : List Known) → is_some (sort_of scope (codes "main")) ≡ true → twice_all scope (func_names fs) ≡ [] → list_any is_main fs ≡ true → ⊥
unfolding twice_all twice
no_second [] scope known none some = cc
no_second (f ∷ fs) scope known none some =
    let here = twice scope f.name f.name_span in
    let there = twice_all (bind scope f.name sort.Variable) (func_names fs) in
    either (is_main f) (list_any is_main fs)
    (λ is.
    let named = same_is f.name (codes "main") (and_parts (same f.name (codes "main")) _ is).0 in
    again (is_some (sort_of scope f.name)) _ (ap (λ x. is_some (sort_of scope x)) named ∙ known) (none_left here there none))
    (no_second fs (bind scope f.name sort.Variable) (still_in_scope scope f.name sort.Variable (codes "main") known) (none_right here there none))
    some

-- the first function `main` has no parameters
main_bare : (nodes : List Node) (fs : List Func) (scope : List Known) (f : Function) → twice_all scope (func_names fs) ≡ [] → list_any is_main fs ≡ true
    → function_named (codes "main") (map (function_of nodes) fs) ≡ Some f → f.params ≡ []
unfolding twice_all
main_bare nodes [] scope f none some is = cc
main_bare nodes (g ∷ gs) scope f none some is =
    by (same g.name (codes "main")) (function_named (codes "main") (map (function_of nodes) gs)) refl
    (main_bare nodes gs (bind scope g.name sort.Variable) f there) some is
  where
    there : twice_all (bind scope g.name sort.Variable) (func_names gs) ≡ []
    there = none_right (twice scope g.name g.name_span) (twice_all (bind scope g.name sort.Variable) (func_names gs)) none

    others : Bool
    others = is_unbound g.bound && (is_nil g.params && (is_unbound g.result.bound && is_unit g.result.shape))

    by : (t : Bool) (o : Option Function) → same g.name (codes "main") ≡ t → (list_any is_main gs ≡ true → o ≡ Some f → f.params ≡ [])
        → (t && others) || list_any is_main gs ≡ true → cond t (Some (function_of nodes g)) o ≡ Some f → f.params ≡ []
    by true o named more some is =
        let made : function_of nodes g ≡ f = cc in
        subst (λ (h : Function). h.params ≡ []) made
        (either others (list_any is_main gs)
        (λ bare. bare_params g.params (and_parts (is_nil g.params) _ (and_parts (is_unbound g.bound) _ bare).1).0)
        (λ second. absurd (no_second gs (bind scope g.name sort.Variable) (now_in_scope scope g.name sort.Variable (codes "main") named) there second))
        some)
    by false o named more some is = more some is

has_main : (fs : List Func) → no_main fs ≡ [] → list_any is_main fs ≡ true
unfolding no_main
has_main fs none = faultless (list_any is_main fs) _ [] none

main_fits : (parts : Parts) → IsFormed parts → Fits parts (started (main_function (program_of parts)))
main_fits parts formed = by (main_function (program_of parts)) refl
  where
    none : twice_all [] (func_names parts.funcs) ≡ []
    none = none_right (twice_all [] (proto_names parts.protos)) (twice_all [] (func_names parts.funcs)) formed.form.0

    by : (o : Option Function) → main_function (program_of parts) ≡ o → Fits parts (started o)
    by None is = tt
    by (Some f) is =
        let (stands, scoped) = body_of parts formed (codes "main") f is in
        let bare = main_bare parts.nodes parts.funcs [] f none (has_main parts.funcs formed.form.1.1.1.1) is in
        (stands, λ x need. absurd (true≢false (sym (scoped x need) ∙ ap (list_any (λ (p : core.Param). same p.name x)) bare)), tt)

no_task : (parts : Parts) (q : Name) (u : Task) → get {X = Task} {R = slice_cmp nat_cmp} empty q ≡ Some u → Fits parts u.place
no_task parts q u got = let both = sym (get-empty (slice_cmp nat_cmp) q) ∙ got in let bad : ⊥ = cc in absurd bad

pub fits_its_start : FitsItsStart
fits_its_start parts formed = put_fits parts empty main _ (main_fits parts formed) (no_task parts)
