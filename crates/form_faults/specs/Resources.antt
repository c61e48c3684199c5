-- The faults of shapes, resources, protocols and headers.
use Rattle.std.specs.Prelude.{ℕ, suc, max, Bool, true, ◌&&◌, nat_le, if◌then◌else◌, map, List, [], ◌∷◌, ◌++◌, Option, Some, None}
use Rattle.chan_base.specs.declared.spans.Span.{Span}
use Rattle.chan_syntax.specs.declared.linear.Term.{Term}
use Rattle.chan_syntax.specs.declared.linear.Bound.{Bound}
use Rattle.chan_syntax.specs.declared.resources.Ref.{Ref}
use Rattle.chan_syntax.specs.declared.resources.Shape.{Shape, Unit, Int, End, Pair', Sum', Row_of-Res, end_of-Res, more_of-Res}
use Rattle.chan_syntax.specs.declared.resources.Res.{Res}
use Rattle.chan_syntax.specs.declared.resources.Param.{Param}
use Rattle.chan_syntax.specs.declared.resources.Equation.{Equation}
use Rattle.chan_syntax.specs.declared.resources.Equation.TheVariants as equation
use Rattle.chan_syntax.specs.declared.resources.Proto.{Proto}
use Rattle.form_faults.specs.declared.faults.IllKind.TheVariants as kind
use Rattle.form_faults.specs.declared.faults.Ill.{Ill}
use Rattle.form_faults.specs.declared.sorts.Sort.TheVariants as sort
use Rattle.form_faults.specs.declared.sorts.Known.{Known}
use Rattle.form_faults.specs.declared.signatures.Signature.{Signature}
use Rattle.form_faults.specs.Faults.{at_span, past}
use Rattle.form_faults.specs.Scopes.{bind, twice, Binder, binders, bind_all, twice_all, names_past}
use Rattle.form_faults.specs.Terms.{fixed_term_faults, bound_scope, bound_faults, fixed_ref_faults}

-- ---- resources

unfoldable mutual
  pub shape_faults : List Signature → List Known → Shape → List Ill
  shape_faults protos scope Unit = []
  shape_faults protos scope (Int term) = fixed_term_faults scope term
  shape_faults protos scope (End ref) = fixed_ref_faults protos scope ref
  shape_faults protos scope (Pair' _ first _ second) = res_in_faults protos scope first ++ res_in_faults protos scope second
  shape_faults protos scope (Sum' _ arms) = row_faults protos scope arms

  -- what a box holds: a row of one resource
  pub res_in_faults : {m : _} → List Signature → List Known → Row_of-Res m → List Ill
  res_in_faults protos scope end_of-Res = []
  res_in_faults protos scope (more_of-Res bound shape rest) = bound_faults scope bound ++ shape_faults protos (bound_scope scope bound) shape

  -- the resources of a row, one after another
  pub row_faults : {m : _} → List Signature → List Known → Row_of-Res m → List Ill
  row_faults protos scope end_of-Res = []
  row_faults protos scope (more_of-Res bound shape rest) =
      (bound_faults scope bound ++ shape_faults protos (bound_scope scope bound) shape) ++ row_faults protos scope rest

unfoldable pub res_faults : List Signature → List Known → Res → List Ill
res_faults protos scope res = bound_faults scope res.bound ++ shape_faults protos (bound_scope scope res.bound) res.shape

unfoldable pub resources_faults : List Signature → List Known → List Res → List Ill
resources_faults protos scope [] = []
resources_faults protos scope (r ∷ rs) = res_faults protos scope r ++ resources_faults protos scope rs

-- ---- how deep shapes are nested

unfoldable mutual
  pub depth_of : Shape → ℕ
  depth_of Unit = 0
  depth_of (Int term) = 0
  depth_of (End ref) = 0
  depth_of (Pair' _ first _ second) = suc (max (depth_in first) (depth_in second))
  depth_of (Sum' _ arms) = suc (row_depth arms)

  pub depth_in : {m : _} → Row_of-Res m → ℕ
  depth_in end_of-Res = 0
  depth_in (more_of-Res bound shape rest) = depth_of shape

  -- that of the deepest of a row
  pub row_depth : {m : _} → Row_of-Res m → ℕ
  row_depth end_of-Res = 0
  row_depth (more_of-Res bound shape rest) = max (depth_of shape) (row_depth rest)

unfoldable pub greatest_depth : List Res → ℕ
greatest_depth [] = 0
greatest_depth (r ∷ rs) = max (depth_of r.shape) (greatest_depth rs)

abbrev pub is_shallow : Shape → Bool
is_shallow shape = nat_le (depth_of shape) 200

-- TooMany at the name of a function or protocol, unless its shapes are shallow
unfoldable pub unless_shallow : Bool → Span → List Ill
unless_shallow shallow span = if shallow then [] else at_span kind.TooMany span

-- ---- protocols

abbrev pub are_shallow : Equation → Bool
are_shallow (equation.Send res next) = is_shallow res.shape
are_shallow (equation.Recv res next) = is_shallow res.shape
are_shallow equation.Close = true
are_shallow equation.Wait = true
are_shallow (equation.Branch left right this other) = true

unfoldable pub next_faults : List Signature → List Known → Option Ref → List Ill
next_faults protos scope None = []
next_faults protos scope (Some ref) = fixed_ref_faults protos scope ref

-- the reference after `then` may name the binders of the message
unfoldable pub message_faults : List Signature → List Known → Res → Option Ref → List Ill
message_faults protos scope res next = res_faults protos scope res ++ next_faults protos (bound_scope scope res.bound) next

unfoldable pub branch_faults : List Signature → List Known → (left right : Term) → (this other : Ref) → List Ill
branch_faults protos scope left right this other =
    fixed_term_faults scope left ++ (fixed_term_faults scope right ++ (fixed_ref_faults protos scope this ++ fixed_ref_faults protos scope other))

unfoldable pub equation_faults : List Signature → List Known → Equation → List Ill
equation_faults protos scope (equation.Send res next) = message_faults protos scope res next
equation_faults protos scope (equation.Recv res next) = message_faults protos scope res next
equation_faults protos scope equation.Close = []
equation_faults protos scope equation.Wait = []
equation_faults protos scope (equation.Branch left right this other) = branch_faults protos scope left right this other

abbrev pub proto_binders : Proto → List Binder
proto_binders proto = binders sort.Integer proto.params proto.params_spans

unfoldable pub proto_faults : List Signature → Proto → List Ill
proto_faults protos proto =
    unless_shallow (are_shallow proto.equation) proto.name_span
    ++ (twice_all [] (proto_binders proto) ++ (names_past 16 (proto_binders proto) ++ equation_faults protos (bind_all [] (proto_binders proto)) proto.equation))

-- ---- headers of functions

abbrev pub params_are_shallow : List Param → Bool
params_are_shallow [] = true
params_are_shallow (p ∷ ps) = is_shallow p.shape && params_are_shallow ps

-- a parameter may not have a name that is in scope; its shape is read in the scope of the earlier ones
unfoldable pub param_faults : List Signature → List Known → Param → List Ill
param_faults protos scope param = twice scope param.name param.name_span ++ shape_faults protos scope param.shape

unfoldable pub params_faults : List Signature → List Known → List Param → List Ill
params_faults protos scope [] = []
params_faults protos scope (p ∷ ps) = param_faults protos scope p ++ params_faults protos (bind scope p.name sort.Variable) ps

unfoldable pub params_scope : List Known → List Param → List Known
params_scope scope [] = scope
params_scope scope (p ∷ ps) = params_scope (bind scope p.name sort.Variable) ps

unfoldable pub params_past : List Param → List Ill
params_past params = past 16 (map (λ p. p.name_span) params)

-- the scope of a function's result and body
unfoldable pub header_scope : Bound → List Param → List Known
header_scope bound params = params_scope (bound_scope [] bound) params

unfoldable pub header_faults : List Signature → Span → Bound → List Param → Res → List Ill
header_faults protos name_span bound params result =
    unless_shallow (params_are_shallow params && is_shallow result.shape) name_span
    ++ (bound_faults [] bound ++ (params_faults protos (bound_scope [] bound) params ++ (params_past params ++ res_faults protos (header_scope bound params) result)))
