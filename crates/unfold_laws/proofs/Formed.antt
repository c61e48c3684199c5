-- The protocols of a program of form are well formed.
use Rattle.std.proofs.Common.{◌≡◌, ℕ, Bool, true, false, nat_eq, if◌then◌else◌, List, [], ◌∷◌, ◌++◌, All, map, flat_map, length, Option, Some, None, refl, sym, ap, ◌∙◌, subst}
use Rattle.std.proofs.lemmas.List.{length-map}
use Rattle.std.proofs.lemmas.List.Elements.{All-nil, All-cons, All-append}
use Rattle.std.proofs.lemmas.Bool.{eqb-true}
use Rattle.core_language.specs.Names.{Ident, same}
use Rattle.core_language.specs.Resources as resource
use Rattle.linear_forms.specs.Substitution.{scoped, terms_of_limit, terms_of_shape, terms_of_res, terms_of_resources}
use Rattle.chan_base.specs.declared.spans.Span.{Span}
use Rattle.chan_syntax.specs.declared.linear.Bound.{Bound}
use Rattle.chan_syntax.specs.declared.resources.Ref.{Ref}
use Rattle.chan_syntax.specs.declared.resources.Shape.{Shape, Unit, Int, End, Pair', Sum', Row_of-Res, end_of-Res, more_of-Res}
use Rattle.chan_syntax.specs.declared.resources.Res.{Res}
use Rattle.chan_syntax.specs.declared.resources.Equation.{Equation}
use Rattle.chan_syntax.specs.declared.resources.Equation.TheVariants as equation
use Rattle.chan_syntax.specs.declared.resources.Proto.{Proto}
use Rattle.chan_syntax.specs.Reading.{term_of, limit_of, ref_of, shape_of, res_in, resources_in, res_of, equation_of, proto_of}
use Rattle.form_faults.specs.declared.faults.IllKind.TheVariants as kind
use Rattle.form_faults.specs.declared.sorts.Sort.TheVariants as sort
use Rattle.form_faults.specs.declared.sorts.Known.{Known}
use Rattle.form_faults.specs.declared.signatures.Signature.{Signature}
use Rattle.form_faults.specs.Faults.{of_name}
use Rattle.form_faults.specs.Scopes.{bind_all, twice_all, names_past}
use Rattle.form_faults.specs.Terms.{fixed_term_faults, fixed_terms_faults, bound_scope, bound_faults, count_of, counted, use_faults, fixed_ref_faults}
use Rattle.form_faults.specs.Resources.{shape_faults, res_in_faults, row_faults, res_faults, unless_shallow, are_shallow, next_faults, message_faults, branch_faults, equation_faults, proto_binders, proto_faults}
use Rattle.core_programs.specs.declared.nodes.Parts.{Parts}
use Rattle.core_programs.specs.Passes.{proto_signatures, protos_faults, funcs_faults, func_signatures}
use Rattle.core_programs.specs.Form.{HasForm}
use Rattle.protocols.specs.Duals.{message_of, branches_of}
use Rattle.outline_language.specs.Equations.{dual_written, with_end, proto_named}
use Rattle.protocols.specs.Unfolding.{NamesOnly, NamesUnder, branch_terms, message_terms, HasArity, AreFormed}
use Rattle.unfold_laws.specs.References.{IsKnown}
use Rattle.unfold_laws.proofs.Clean.{none_left, none_right, none_of_one, IsIn, Within, names_within, bound_within, term_named, terms_named, limits_named, bound_limits, all_scoped}

-- ---- references

counted_same : (o : Option ℕ) (name : Ident) (span : Span) (count : ℕ) → counted o name span count ≡ [] → o ≡ Some count
counted_same None name span count none = absurd (none_of_one _ none)
counted_same (Some its) name span count none = pick (nat_eq its count) refl none
  where
    pick : (b : Bool) → nat_eq its count ≡ b → (if b then [] else of_name kind.Arity name span) ≡ [] → Some its ≡ Some count
    pick true q e = ap Some (eqb-true its count q)
    pick false q e = absurd (none_of_one _ e)

-- the protocol that a count is from
named_count : (protos : List Proto) (name : Ident) (count : ℕ) → count_of (proto_signatures protos) name ≡ Some count
    → (proto : resource.Proto) × (proto_named name (map proto_of protos) ≡ Some proto) × (count ≡ length proto.params)
unfolding count_of
named_count [] name count is = cc
named_count (p ∷ ps) name count is = pick (same p.name name) is (named_count ps name count)
  where
    pick : (b : Bool) → (if b then Some (length p.params) else count_of (proto_signatures ps) name) ≡ Some count
        → (count_of (proto_signatures ps) name ≡ Some count → (proto : resource.Proto) × (proto_named name (map proto_of ps) ≡ Some proto) × (count ≡ length proto.params))
        → (proto : resource.Proto) × ((if b then Some (proto_of p) else proto_named name (map proto_of ps)) ≡ Some proto) × (count ≡ length proto.params)
    pick true e again = let same_count : length p.params ≡ count = cc in (proto_of p, refl, sym same_count)
    pick false e again = again e

-- a use without faults is of a protocol that is there
pub use_known : (protos : List Proto) (ref : Ref) → use_faults (proto_signatures protos) ref.name ref.name_span (length ref.args) ≡ [] → IsKnown (map proto_of protos) (ref_of ref)
unfolding use_faults
use_known protos ref none =
    let counts = counted_same (count_of (proto_signatures protos) ref.name) ref.name ref.name_span (length ref.args) none in
    let (proto, named, is) = named_count protos ref.name (length ref.args) counts in
    (proto, named, length-map ref.args term_of ∙ is)

pub fixed_ref_known : (protos : List Proto) (scope : List Known) (ref : Ref) → fixed_ref_faults (proto_signatures protos) scope ref ≡ [] → IsKnown (map proto_of protos) (ref_of ref)
unfolding fixed_ref_faults
fixed_ref_known protos scope ref none =
    use_known protos ref (none_left (use_faults (proto_signatures protos) ref.name ref.name_span (length ref.args)) (fixed_terms_faults scope ref.args) none)

same_proto : (o : Option resource.Proto) (p q : resource.Proto) → o ≡ Some p → o ≡ Some q → p ≡ q
same_proto o p q e f = cc

pub known_arity : (protos : List resource.Proto) (ref : resource.Ref) → IsKnown protos ref → HasArity protos ref
known_arity protos ref (p, named, is) = λ q also. is ∙ ap (λ (r : resource.Proto). length r.params) (same_proto (proto_named ref.name protos) p q named also)

-- ---- terms of resources

module _ (protos : List Signature) (params : List Ident) where
  ref_terms : (outer : List Ident) (scope : List Known) (ref : Ref) → Within (IsIn (outer ++ params)) scope → fixed_ref_faults protos scope ref ≡ []
      → All (NamesOnly (outer ++ params)) (ref_of ref).args
  unfolding fixed_ref_faults
  ref_terms outer scope ref within none =
      terms_named (IsIn (outer ++ params)) scope within ref.args (none_right (use_faults protos ref.name ref.name_span (length ref.args)) (fixed_terms_faults scope ref.args) none)

  bound_terms : (outer : List Ident) (scope : List Known) (bound : Bound) → Within (IsIn (outer ++ params)) scope → bound_faults scope bound ≡ []
      → All (NamesUnder params) (scoped (bound.names ++ outer) (flat_map terms_of_limit (map limit_of bound.limits)))
  bound_terms outer scope bound within none =
      all_scoped params (bound.names ++ outer) (flat_map terms_of_limit (map limit_of bound.limits))
      (limits_named (IsIn ((bound.names ++ outer) ++ params)) (bound_scope scope bound) (bound_within bound.names outer params scope bound refl within) bound.limits (bound_limits scope bound none))

  mutual
    unfolding shape_faults res_in_faults

    pub shape_named : (outer : List Ident) (scope : List Known) (shape : Shape) → Within (IsIn (outer ++ params)) scope → shape_faults protos scope shape ≡ []
        → All (NamesUnder params) (terms_of_shape outer (shape_of shape))
    shape_named outer scope Unit within none = All-nil (NamesUnder params)
    shape_named outer scope (Int term) within none =
        all_scoped params outer (term_of term ∷ [])
        (All-cons (NamesOnly (outer ++ params)) (term_of term) [] (term_named (IsIn (outer ++ params)) scope within term none) (All-nil (NamesOnly (outer ++ params))))
    shape_named outer scope (End ref) within none = all_scoped params outer (ref_of ref).args (ref_terms outer scope ref within none)
    shape_named outer scope (Pair' _ first _ second) within none =
        let one = res_in_faults protos scope first in
        let two = res_in_faults protos scope second in
        All-append (NamesUnder params) (terms_of_res outer (res_in first)) (terms_of_res outer (res_in second)) (row_named outer scope first within (none_left one two none)) (row_named outer scope second within (none_right one two none))
    shape_named outer scope (Sum' _ arms) within none = rows_named outer scope arms within none

    row_named : {m : _} (outer : List Ident) (scope : List Known) (row : Row_of-Res m) → Within (IsIn (outer ++ params)) scope → res_in_faults protos scope row ≡ []
        → All (NamesUnder params) (terms_of_res outer (res_in row))
    row_named outer scope end_of-Res within none = All-nil (NamesUnder params)
    row_named outer scope (more_of-Res bound shape rest) within none =
        let binds = bound_faults scope bound in
        let inner = shape_faults protos (bound_scope scope bound) shape in
        All-append (NamesUnder params) (scoped (bound.names ++ outer) (flat_map terms_of_limit (map limit_of bound.limits))) (terms_of_shape (bound.names ++ outer) (shape_of shape))
        (bound_terms outer scope bound within (none_left binds inner none))
        (shape_named (bound.names ++ outer) (bound_scope scope bound) shape (bound_within bound.names outer params scope bound refl within) (none_right binds inner none))

    rows_named : {m : _} (outer : List Ident) (scope : List Known) (row : Row_of-Res m) → Within (IsIn (outer ++ params)) scope → row_faults protos scope row ≡ []
        → All (NamesUnder params) (terms_of_resources outer (resources_in row))
    rows_named outer scope end_of-Res within none = All-nil (NamesUnder params)
    rows_named outer scope (more_of-Res bound shape rest) within none =
        let binds = bound_faults scope bound in
        let inner = shape_faults protos (bound_scope scope bound) shape in
        let others = row_faults protos scope rest in
        let clean = none_left (binds ++ inner) others none in
        All-append (NamesUnder params) (scoped (bound.names ++ outer) (flat_map terms_of_limit (map limit_of bound.limits)) ++ terms_of_shape (bound.names ++ outer) (shape_of shape)) (terms_of_resources outer (resources_in rest))
        (All-append (NamesUnder params) (scoped (bound.names ++ outer) (flat_map terms_of_limit (map limit_of bound.limits))) (terms_of_shape (bound.names ++ outer) (shape_of shape))
        (bound_terms outer scope bound within (none_left binds inner clean))
        (shape_named (bound.names ++ outer) (bound_scope scope bound) shape (bound_within bound.names outer params scope bound refl within) (none_right binds inner clean)))
        (rows_named outer scope rest within (none_right (binds ++ inner) others none))

  -- ---- terms of equations

  res_clean : (scope : List Known) (res : Res) → res_faults protos scope res ≡ [] → (bound_faults scope res.bound ≡ []) × (shape_faults protos (bound_scope scope res.bound) res.shape ≡ [])
  unfolding res_faults
  res_clean scope res none =
      let binds = bound_faults scope res.bound in
      let inner = shape_faults protos (bound_scope scope res.bound) res.shape in
      (none_left binds inner none, none_right binds inner none)

  module _ (scope : List Known) (within : Within (IsIn params) scope) where
    inside : (res : Res) → Within (IsIn ((res.bound.names ++ []) ++ params)) (bound_scope scope res.bound)
    inside res = bound_within res.bound.names [] params scope res.bound refl within

    plain_named : (res : Res) → res_faults protos scope res ≡ [] → All (NamesUnder params) (terms_of_res [] (res_of res))
    plain_named res none =
        let clean = res_clean scope res none in
        All-append (NamesUnder params) (scoped (res.bound.names ++ []) (flat_map terms_of_limit (map limit_of res.bound.limits))) (terms_of_shape (res.bound.names ++ []) (shape_of res.shape))
        (bound_terms [] scope res.bound within clean.0)
        (shape_named (res.bound.names ++ []) (bound_scope scope res.bound) res.shape (inside res) clean.1)

    ended_named : (res : Res) (end : resource.Ref) → res_faults protos scope res ≡ [] → All (NamesOnly ((res.bound.names ++ []) ++ params)) end.args
        → All (NamesUnder params) (terms_of_res [] (with_end (res_of res) (Some end)))
    ended_named res end none these =
        let clean = res_clean scope res none in
        let first = terms_of_shape (res.bound.names ++ []) (shape_of res.shape) in
        let second = scoped (res.bound.names ++ []) end.args in
        All-append (NamesUnder params) (scoped (res.bound.names ++ []) (flat_map terms_of_limit (map limit_of res.bound.limits))) (first ++ second)
        (bound_terms [] scope res.bound within clean.0)
        (All-append (NamesUnder params) first second
        (shape_named (res.bound.names ++ []) (bound_scope scope res.bound) res.shape (inside res) clean.1)
        (all_scoped params (res.bound.names ++ []) end.args these))

    next_named : (res : Res) (ref : Ref) → next_faults protos (bound_scope scope res.bound) (Some ref) ≡ [] → All (NamesOnly ((res.bound.names ++ []) ++ params)) (ref_of ref).args
    unfolding next_faults
    next_named res ref none = ref_terms (res.bound.names ++ []) (bound_scope scope res.bound) ref (inside res) none

    message_clean : (res : Res) (next : Option Ref) → message_faults protos scope res next ≡ [] → (res_faults protos scope res ≡ []) × (next_faults protos (bound_scope scope res.bound) next ≡ [])
    unfolding message_faults
    message_clean res next none =
        let sent = res_faults protos scope res in
        let on = next_faults protos (bound_scope scope res.bound) next in
        (none_left sent on none, none_right sent on none)

    pub messages_named : (e : Equation) → equation_faults protos scope e ≡ [] → All (NamesUnder params) (message_terms (message_of (equation_of e)))
    unfolding equation_faults
    messages_named (equation.Send res None) none = plain_named res (message_clean res None none).0
    messages_named (equation.Send res (Some ref)) none =
        let clean = message_clean res (Some ref) none in
        ended_named res (dual_written (ref_of ref)) clean.0 (next_named res ref clean.1)
    messages_named (equation.Recv res None) none = plain_named res (message_clean res None none).0
    messages_named (equation.Recv res (Some ref)) none =
        let clean = message_clean res (Some ref) none in
        ended_named res (ref_of ref) clean.0 (next_named res ref clean.1)
    messages_named equation.Close none = All-nil (NamesUnder params)
    messages_named equation.Wait none = All-nil (NamesUnder params)
    messages_named (equation.Branch left right this other) none = All-nil (NamesUnder params)

    pub branches_named : (e : Equation) → equation_faults protos scope e ≡ [] → All (NamesOnly params) (branch_terms (equation_of e))
    unfolding equation_faults branch_faults
    branches_named (equation.Send res next) none = All-nil (NamesOnly params)
    branches_named (equation.Recv res next) none = All-nil (NamesOnly params)
    branches_named equation.Close none = All-nil (NamesOnly params)
    branches_named equation.Wait none = All-nil (NamesOnly params)
    branches_named (equation.Branch left right this other) none =
        let one = fixed_term_faults scope left in
        let two = fixed_term_faults scope right in
        let three = fixed_ref_faults protos scope this in
        let four = fixed_ref_faults protos scope other in
        let after_one = none_right one (two ++ (three ++ four)) none in
        let after_two = none_right two (three ++ four) after_one in
        All-cons (NamesOnly params) (term_of left) (term_of right ∷ (ref_of this).args ++ (ref_of other).args)
        (term_named (IsIn params) scope within left (none_left one (two ++ (three ++ four)) none))
        (All-cons (NamesOnly params) (term_of right) ((ref_of this).args ++ (ref_of other).args)
        (term_named (IsIn params) scope within right (none_left two (three ++ four) after_one))
        (All-append (NamesOnly params) (ref_of this).args (ref_of other).args
        (ref_terms [] scope this within (none_left three four after_two))
        (ref_terms [] scope other within (none_right three four after_two))))

-- ---- protocols

pub equation_clean : (protos : List Signature) (p : Proto) → proto_faults protos p ≡ [] → equation_faults protos (bind_all [] (proto_binders p)) p.equation ≡ []
unfolding proto_faults
equation_clean protos p none =
    let shallow = unless_shallow (are_shallow p.equation) p.name_span in
    let names = twice_all [] (proto_binders p) in
    let many = names_past 16 (proto_binders p) in
    let whole = equation_faults protos (bind_all [] (proto_binders p)) p.equation in
    none_right many whole (none_right names (many ++ whole) (none_right shallow (names ++ (many ++ whole)) none))

branches_arity : (table : List Proto) (scope : List Known) (e : Equation) → equation_faults (proto_signatures table) scope e ≡ [] → All (HasArity (map proto_of table)) (branches_of (equation_of e))
unfolding equation_faults branch_faults
branches_arity table scope (equation.Send res next) none = All-nil (HasArity (map proto_of table))
branches_arity table scope (equation.Recv res next) none = All-nil (HasArity (map proto_of table))
branches_arity table scope equation.Close none = All-nil (HasArity (map proto_of table))
branches_arity table scope equation.Wait none = All-nil (HasArity (map proto_of table))
branches_arity table scope (equation.Branch left right this other) none =
    let one = fixed_term_faults scope left in
    let two = fixed_term_faults scope right in
    let three = fixed_ref_faults (proto_signatures table) scope this in
    let four = fixed_ref_faults (proto_signatures table) scope other in
    let refs = none_right two (three ++ four) (none_right one (two ++ (three ++ four)) none) in
    All-cons (HasArity (map proto_of table)) (ref_of this) (ref_of other ∷ []) (known_arity (map proto_of table) (ref_of this) (fixed_ref_known table scope this (none_left three four refs)))
    (All-cons (HasArity (map proto_of table)) (ref_of other) [] (known_arity (map proto_of table) (ref_of other) (fixed_ref_known table scope other (none_right three four refs)))
    (All-nil (HasArity (map proto_of table))))

-- a protocol that is named has no fault
pub named_clean : (protos : List Signature) (ps : List Proto) (x : Ident) (proto : resource.Proto) → protos_faults protos ps ≡ [] → proto_named x (map proto_of ps) ≡ Some proto
    → (p : Proto) × (proto_of p ≡ proto) × (proto_faults protos p ≡ [])
unfolding protos_faults
named_clean protos [] x proto none is = cc
named_clean protos (p ∷ ps) x proto none is = pick (same p.name x) is (named_clean protos ps x proto (none_right (proto_faults protos p) (protos_faults protos ps) none))
  where
    pick : (b : Bool) → (if b then Some (proto_of p) else proto_named x (map proto_of ps)) ≡ Some proto
        → (proto_named x (map proto_of ps) ≡ Some proto → (q : Proto) × (proto_of q ≡ proto) × (proto_faults protos q ≡ []))
        → (q : Proto) × (proto_of q ≡ proto) × (proto_faults protos q ≡ [])
    pick true e again = (p, cc, none_left (proto_faults protos p) (protos_faults protos ps) none)
    pick false e again = again e

-- the protocols of a program without faults of names have none
pub protos_clean : (parts : Parts) → HasForm parts → protos_faults (proto_signatures parts.protos) parts.protos ≡ []
protos_clean parts form =
    none_left (protos_faults (proto_signatures parts.protos) parts.protos)
    (funcs_faults (proto_signatures parts.protos) (func_signatures parts.funcs) parts.nodes parts.funcs) form.1.0

params_within : (p : Proto) → Within (IsIn p.params) (bind_all [] (proto_binders p))
params_within p = names_within sort.Integer p.params p.params_spans

pub formed_protocols : (parts : Parts) → HasForm parts → AreFormed (map proto_of parts.protos)
formed_protocols parts form = record {
  named = λ x proto is.
      let (p, same_proto, none) = named_clean (proto_signatures parts.protos) parts.protos x proto (protos_clean parts form) is in
      subst (λ (q : resource.Proto). All (NamesOnly q.params) (branch_terms q.equation)) same_proto
      (branches_named (proto_signatures parts.protos) p.params (bind_all [] (proto_binders p)) (params_within p) p.equation (equation_clean (proto_signatures parts.protos) p none));
  scoped = λ x proto is.
      let (p, same_proto, none) = named_clean (proto_signatures parts.protos) parts.protos x proto (protos_clean parts form) is in
      subst (λ (q : resource.Proto). All (NamesUnder q.params) (message_terms (message_of q.equation))) same_proto
      (messages_named (proto_signatures parts.protos) p.params (bind_all [] (proto_binders p)) (params_within p) p.equation (equation_clean (proto_signatures parts.protos) p none));
  arity = λ x proto is.
      let (p, same_proto, none) = named_clean (proto_signatures parts.protos) parts.protos x proto (protos_clean parts form) is in
      subst (λ (q : resource.Proto). All (HasArity (map proto_of parts.protos)) (branches_of q.equation)) same_proto
      (branches_arity parts.protos (bind_all [] (proto_binders p)) p.equation (equation_clean (proto_signatures parts.protos) p none));
}
