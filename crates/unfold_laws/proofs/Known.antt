-- Each reference of a program of form is known.
use Rattle.std.proofs.Common.{◌≡◌, ℕ, zero, suc, ◌+◌, List, [], ◌∷◌, ◌++◌, All, map, flat_map, length, Option, Some, None, option_to_list, option_map, slice_get, ◌&&◌, refl, subst}
use Rattle.std.proofs.lemmas.List.Elements.{All-nil, All-cons, All-append, All-head}
use Rattle.core_language.specs.Resources as resource
use Rattle.core_language.specs.Programs as core
use Rattle.chan_syntax.specs.declared.resources.Ref.{Ref}
use Rattle.chan_syntax.specs.declared.resources.Shape.{Shape, Unit, Int, End, Pair', Sum', Row_of-Res, end_of-Res, more_of-Res}
use Rattle.chan_syntax.specs.declared.resources.Res.{Res}
use Rattle.chan_syntax.specs.declared.resources.Param.{Param}
use Rattle.chan_syntax.specs.declared.resources.Equation.{Equation}
use Rattle.chan_syntax.specs.declared.resources.Equation.TheVariants as equation
use Rattle.chan_syntax.specs.declared.resources.Proto.{Proto}
use Rattle.chan_syntax.specs.Reading.{ref_of, shape_of, res_in, resources_in, res_of, equation_of, proto_of}
use Rattle.form_faults.specs.declared.sorts.Sort.TheVariants as sort
use Rattle.form_faults.specs.declared.sorts.Known.{Known}
use Rattle.form_faults.specs.declared.sorts.Naming.TheVariants as naming
use Rattle.form_faults.specs.declared.signatures.Signature.{Signature}
use Rattle.form_faults.specs.Scopes.{bind, bind_all, twice}
use Rattle.form_faults.specs.Terms.{fixed_term_faults, bound_scope, bound_faults, use_faults, fixed_ref_faults, terms_faults, ref_faults}
use Rattle.form_faults.specs.Resources.{shape_faults, res_in_faults, row_faults, res_faults, next_faults, message_faults, branch_faults, equation_faults, proto_binders, proto_faults, unless_shallow, params_are_shallow, is_shallow, param_faults, params_faults, params_past, header_scope, header_faults}
use Rattle.core_programs.specs.declared.nodes.Arm.{Arm}
use Rattle.core_programs.specs.declared.nodes.Node.{Node}
use Rattle.core_programs.specs.declared.nodes.Node.TheVariants as node
use Rattle.core_programs.specs.declared.nodes.Func.{Func}
use Rattle.core_programs.specs.declared.nodes.Parts.{Parts}
use Rattle.core_programs.specs.Formed.{nexts}
use Rattle.core_programs.specs.Trees.{grown_at, tree_within, tree}
use Rattle.core_programs.specs.Bodies.{arms_opened, opened, opened_at, rest_within, rest, param_of, function_of, program_of}
use Rattle.core_programs.specs.Passes.{call_faults, operand_faults, binders_at, body_faults, func_faults, funcs_faults, protos_faults, proto_signatures, func_signatures}
use Rattle.core_programs.specs.Form.{HasForm}
use Rattle.core_programs.proofs.Clean.{operands_clean, body_clean}
use Rattle.unfold_laws.specs.References.{refs_of_shape, refs_of_res, refs_of_resources, refs_of_equation, refs_of_body, refs_of_arms, refs_of_function, refs_of_program, IsKnown, AreKnown, KnowTheirs}
use Rattle.unfold_laws.specs.Forks.{refs_of_node}
use Rattle.unfold_laws.proofs.Clean.{none_left, none_right}
use Rattle.unfold_laws.proofs.Formed.{use_known, fixed_ref_known, equation_clean, named_clean, protos_clean}

module _ (table : List Proto) where
  abbrev protos : List Signature
  protos = proto_signatures table

  -- the reference is known
  abbrev Is : resource.Ref → Type 0
  Is = IsKnown (map proto_of table)

  -- ---- resources and protocols

  mutual
    unfolding shape_faults res_in_faults

    shape_known : (scope : List Known) (shape : Shape) → shape_faults protos scope shape ≡ [] → All Is (refs_of_shape (shape_of shape))
    shape_known scope Unit none = All-nil Is
    shape_known scope (Int term) none = All-nil Is
    shape_known scope (End ref) none = All-cons Is (ref_of ref) [] (fixed_ref_known table scope ref none) (All-nil Is)
    shape_known scope (Pair' _ first _ second) none =
        let one = res_in_faults protos scope first in
        let two = res_in_faults protos scope second in
        All-append Is (refs_of_res (res_in first)) (refs_of_res (res_in second)) (row_known scope first (none_left one two none)) (row_known scope second (none_right one two none))
    shape_known scope (Sum' _ arms) none = rows_known scope arms none

    row_known : {m : _} (scope : List Known) (row : Row_of-Res m) → res_in_faults protos scope row ≡ [] → All Is (refs_of_res (res_in row))
    row_known scope end_of-Res none = All-nil Is
    row_known scope (more_of-Res bound shape rest) none =
        shape_known (bound_scope scope bound) shape (none_right (bound_faults scope bound) (shape_faults protos (bound_scope scope bound) shape) none)

    rows_known : {m : _} (scope : List Known) (row : Row_of-Res m) → row_faults protos scope row ≡ [] → All Is (refs_of_resources (resources_in row))
    rows_known scope end_of-Res none = All-nil Is
    rows_known scope (more_of-Res bound shape rest) none =
        let binds = bound_faults scope bound in
        let inner = shape_faults protos (bound_scope scope bound) shape in
        let others = row_faults protos scope rest in
        All-append Is (refs_of_shape (shape_of shape)) (refs_of_resources (resources_in rest))
        (shape_known (bound_scope scope bound) shape (none_right binds inner (none_left (binds ++ inner) others none)))
        (rows_known scope rest (none_right (binds ++ inner) others none))

  res_known : (scope : List Known) (res : Res) → res_faults protos scope res ≡ [] → All Is (refs_of_res (res_of res))
  unfolding res_faults
  res_known scope res none =
      shape_known (bound_scope scope res.bound) res.shape (none_right (bound_faults scope res.bound) (shape_faults protos (bound_scope scope res.bound) res.shape) none)

  message_known : (scope : List Known) (res : Res) (next : Option Ref) → message_faults protos scope res next ≡ [] → All Is (refs_of_res (res_of res) ++ option_to_list (option_map ref_of next))
  unfolding message_faults next_faults
  message_known scope res next none =
      let sent = res_faults protos scope res in
      let on = next_faults protos (bound_scope scope res.bound) next in
      All-append Is (refs_of_res (res_of res)) (option_to_list (option_map ref_of next)) (res_known scope res (none_left sent on none)) (by next (none_right sent on none))
    where
      by : (o : Option Ref) → next_faults protos (bound_scope scope res.bound) o ≡ [] → All Is (option_to_list (option_map ref_of o))
      by None e = All-nil Is
      by (Some ref) e = All-cons Is (ref_of ref) [] (fixed_ref_known table (bound_scope scope res.bound) ref e) (All-nil Is)

  pub equation_known : (scope : List Known) (e : Equation) → equation_faults protos scope e ≡ [] → All Is (refs_of_equation (equation_of e))
  unfolding equation_faults branch_faults
  equation_known scope (equation.Send res next) none = message_known scope res next none
  equation_known scope (equation.Recv res next) none = message_known scope res next none
  equation_known scope equation.Close none = All-nil Is
  equation_known scope equation.Wait none = All-nil Is
  equation_known scope (equation.Branch left right this other) none =
      let one = fixed_term_faults scope left in
      let two = fixed_term_faults scope right in
      let three = fixed_ref_faults protos scope this in
      let four = fixed_ref_faults protos scope other in
      let refs = none_right two (three ++ four) (none_right one (two ++ (three ++ four)) none) in
      All-cons Is (ref_of this) (ref_of other ∷ []) (fixed_ref_known table scope this (none_left three four refs))
      (All-cons Is (ref_of other) [] (fixed_ref_known table scope other (none_right three four refs)) (All-nil Is))

  pub protos_known : (ps : List Proto) → protos_faults protos ps ≡ [] → All Is (flat_map (λ p. refs_of_equation p.equation) (map proto_of ps))
  unfolding protos_faults
  protos_known [] none = All-nil Is
  protos_known (p ∷ ps) none =
      All-append Is (refs_of_equation (equation_of p.equation)) (flat_map (λ q. refs_of_equation q.equation) (map proto_of ps))
      (equation_known (bind_all [] (proto_binders p)) p.equation (equation_clean protos p (none_left (proto_faults protos p) (protos_faults protos ps) none)))
      (protos_known ps (none_right (proto_faults protos p) (protos_faults protos ps) none))

  -- ---- bodies

  pub node_known : (funcs : List Signature) (scope : List Known) (x : Node) → operand_faults protos funcs scope x ≡ [] → All Is (refs_of_node x)
  unfolding operand_faults ref_faults
  node_known funcs scope (node.Let name name_at term next span) none = All-nil Is
  node_known funcs scope (node.Mul name name_at left right next span) none = All-nil Is
  node_known funcs scope (node.Div name name_at term divisor divisor_at next span) none = All-nil Is
  node_known funcs scope (node.Rem name name_at term divisor divisor_at next span) none = All-nil Is
  node_known funcs scope (node.Call pat func func_at values proof next span) none = All-nil Is
  node_known funcs scope (node.Tail func func_at values proof span) none = All-nil Is
  node_known funcs scope (node.Fork name name_at proto func func_at values proof next span) none =
      let refs = ref_faults protos scope proto in
      let call = call_faults funcs scope func func_at (length values + 1) values proof in
      let here = use_faults protos proto.name proto.name_span (length proto.args) in
      All-cons Is (ref_of proto) [] (use_known table proto (none_left here (terms_faults naming.Either scope proto.args) (none_left refs call none))) (All-nil Is)
  node_known funcs scope (node.Send1 channel channel_at path path_at value proof next span) none = All-nil Is
  node_known funcs scope (node.Recv1 pat channel channel_at path path_at proof next span) none = All-nil Is
  node_known funcs scope (node.Print term next span) none = All-nil Is
  node_known funcs scope (node.If left right this other span) none = All-nil Is
  node_known funcs scope (node.Split first second name name_at next span) none = All-nil Is
  node_known funcs scope (node.Match name name_at arms span) none = All-nil Is
  node_known funcs scope (node.Absurd proof span) none = All-nil Is
  node_known funcs scope (node.Ret value proof span) none = All-nil Is

  arms_known : (arms : List Arm) (at : ℕ → core.Body) → ((k m : ℕ) → slice_get (map (λ arm. arm.next) arms) k ≡ Some m → All Is (refs_of_body (at m))) → All Is (refs_of_arms (arms_opened arms at))
  arms_known [] at after = All-nil Is
  arms_known (arm ∷ arms) at after =
      All-append Is (refs_of_body (at arm.next)) (refs_of_arms (arms_opened arms at)) (after 0 arm.next refl) (arms_known arms at (λ k m goes. after (suc k) m goes))

  opened_known : (x : Node) (at : ℕ → core.Body) → All Is (refs_of_node x) → ((k m : ℕ) → slice_get (nexts x) k ≡ Some m → All Is (refs_of_body (at m))) → All Is (refs_of_body (opened x at))
  opened_known (node.Let name name_at term next span) at here after = after 0 next refl
  opened_known (node.Mul name name_at left right next span) at here after = after 0 next refl
  opened_known (node.Div name name_at term divisor divisor_at next span) at here after = after 0 next refl
  opened_known (node.Rem name name_at term divisor divisor_at next span) at here after = after 0 next refl
  opened_known (node.Call pat func func_at values proof next span) at here after = after 0 next refl
  opened_known (node.Tail func func_at values proof span) at here after = All-nil Is
  opened_known (node.Fork name name_at proto func func_at values proof next span) at here after = All-cons Is (ref_of proto) (refs_of_body (at next)) (All-head Is (ref_of proto) [] here) (after 0 next refl)
  opened_known (node.Send1 channel channel_at path path_at value proof next span) at here after = after 0 next refl
  opened_known (node.Recv1 pat channel channel_at path path_at proof next span) at here after = after 0 next refl
  opened_known (node.Print term next span) at here after = after 0 next refl
  opened_known (node.If left right this other span) at here after = All-append Is (refs_of_body (at this)) (refs_of_body (at other)) (after 0 this refl) (after 1 other refl)
  opened_known (node.Split one two name name_at next span) at here after = after 0 next refl
  opened_known (node.Match name name_at arms span) at here after = arms_known arms at after
  opened_known (node.Absurd proof span) at here after = All-nil Is
  opened_known (node.Ret value proof span) at here after = All-nil Is

  body_known : (funcs : List Signature) (nodes : List Node) (depth : ℕ) (scope : List Known) (n : ℕ) → body_faults protos funcs scope (tree_within depth nodes n) ≡ [] → All Is (refs_of_body (rest_within depth nodes n))
  unfolding tree_within rest_within
  body_known funcs nodes zero scope n none = All-nil Is
  body_known funcs nodes (suc depth) scope n none = by (slice_get nodes n) (λ inner m e. body_known funcs nodes depth inner m e) none
    where
      by : (o : Option Node)
          → ((inner : List Known) (m : ℕ) → body_faults protos funcs inner (tree_within depth nodes m) ≡ [] → All Is (refs_of_body (rest_within depth nodes m)))
          → body_faults protos funcs scope (grown_at o (tree_within depth nodes)) ≡ [] → All Is (refs_of_body (opened_at o (rest_within depth nodes)))
      by None deeper e = All-nil Is
      by (Some x) deeper e =
          opened_known x (rest_within depth nodes) (node_known funcs scope x (operands_clean protos funcs (tree_within depth nodes) x scope e))
          (λ k m goes. deeper (bind_all scope (binders_at x k)) m (body_clean protos funcs (tree_within depth nodes) x scope k m e goes))

  -- ---- functions

  params_known : (scope : List Known) (ps : List Param) → params_faults protos scope ps ≡ [] → All Is (flat_map (λ p. refs_of_shape p.shape) (map param_of ps))
  unfolding params_faults param_faults
  params_known scope [] none = All-nil Is
  params_known scope (p ∷ ps) none =
      let names = twice scope p.name p.name_span in
      let shape = shape_faults protos scope p.shape in
      let others = params_faults protos (bind scope p.name sort.Variable) ps in
      All-append Is (refs_of_shape (shape_of p.shape)) (flat_map (λ q. refs_of_shape q.shape) (map param_of ps))
      (shape_known scope p.shape (none_right names shape (none_left (names ++ shape) others none)))
      (params_known (bind scope p.name sort.Variable) ps (none_right (names ++ shape) others none))

  header_clean : (func : Func) → header_faults protos func.name_span func.bound func.params func.result ≡ []
      → (params_faults protos (bound_scope [] func.bound) func.params ≡ []) × (res_faults protos (header_scope func.bound func.params) func.result ≡ [])
  unfolding header_faults
  header_clean func none =
      let shallow = unless_shallow (params_are_shallow func.params && is_shallow func.result.shape) func.name_span in
      let binds = bound_faults [] func.bound in
      let params = params_faults protos (bound_scope [] func.bound) func.params in
      let past = params_past func.params in
      let result = res_faults protos (header_scope func.bound func.params) func.result in
      let after = none_right binds (params ++ (past ++ result)) (none_right shallow (binds ++ (params ++ (past ++ result))) none) in
      (none_left params (past ++ result) after, none_right past result (none_right params (past ++ result) after))

  func_known : (funcs : List Signature) (nodes : List Node) (func : Func) → func_faults protos funcs nodes func ≡ [] → All Is (refs_of_function (function_of nodes func))
  unfolding func_faults
  func_known funcs nodes func none =
      let header = header_faults protos func.name_span func.bound func.params func.result in
      let body = body_faults protos funcs (header_scope func.bound func.params) (tree nodes func.first) in
      let clean = header_clean func (none_left header body none) in
      All-append Is (flat_map (λ p. refs_of_shape p.shape) (map param_of func.params)) (refs_of_res (res_of func.result) ++ refs_of_body (rest nodes func.first))
      (params_known (bound_scope [] func.bound) func.params clean.0)
      (All-append Is (refs_of_res (res_of func.result)) (refs_of_body (rest nodes func.first))
      (res_known (header_scope func.bound func.params) func.result clean.1)
      (body_known funcs nodes (length nodes) (header_scope func.bound func.params) func.first (none_right header body none)))

  pub funcs_known : (funcs : List Signature) (nodes : List Node) (fs : List Func) → funcs_faults protos funcs nodes fs ≡ [] → All Is (flat_map refs_of_function (map (function_of nodes) fs))
  unfolding funcs_faults
  funcs_known funcs nodes [] none = All-nil Is
  funcs_known funcs nodes (f ∷ fs) none =
      let head = func_faults protos funcs nodes f in
      let tail = funcs_faults protos funcs nodes fs in
      All-append Is (refs_of_function (function_of nodes f)) (flat_map refs_of_function (map (function_of nodes) fs))
      (func_known funcs nodes f (none_left head tail none)) (funcs_known funcs nodes fs (none_right head tail none))

-- ---- programs

pub funcs_clean : (parts : Parts) → HasForm parts → funcs_faults (proto_signatures parts.protos) (func_signatures parts.funcs) parts.nodes parts.funcs ≡ []
funcs_clean parts form =
    none_right (protos_faults (proto_signatures parts.protos) parts.protos)
    (funcs_faults (proto_signatures parts.protos) (func_signatures parts.funcs) parts.nodes parts.funcs) form.1.0

pub program_known : (parts : Parts) → HasForm parts → AreKnown (map proto_of parts.protos) (refs_of_program (program_of parts))
program_known parts form =
    All-append (IsKnown (map proto_of parts.protos)) (flat_map (λ p. refs_of_equation p.equation) (map proto_of parts.protos)) (flat_map refs_of_function (map (function_of parts.nodes) parts.funcs))
    (protos_known parts.protos parts.protos (protos_clean parts form))
    (funcs_known parts.protos (func_signatures parts.funcs) parts.nodes parts.funcs (funcs_clean parts form))

pub theirs_known : (parts : Parts) → HasForm parts → KnowTheirs (map proto_of parts.protos)
theirs_known parts form x proto named =
    let protos = proto_signatures parts.protos in
    let (p, same, none) = named_clean protos parts.protos x proto (protos_clean parts form) named in
    subst (λ (q : resource.Proto). AreKnown (map proto_of parts.protos) (refs_of_equation q.equation)) same
    (equation_known parts.protos (bind_all [] (proto_binders p)) p.equation (equation_clean protos p none))
