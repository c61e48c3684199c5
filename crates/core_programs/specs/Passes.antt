-- What the form passes find, pass by pass, in the order of the core text.
use Rattle.std.specs.Prelude.{ℕ, suc, ◌+◌, not, ◌&&◌, nat_eq, if◌then◌else◌, codes, length, map, Bool, true, false, List, [], ◌∷◌, ◌++◌, Option, Some, None, slice_get}
use Rattle.std.specs.List.{list_any}
use Rattle.core_language.specs.Names.{Ident, same}
use Rattle.core_language.specs.Endings.{is_nil}
use Rattle.chan_base.specs.declared.spans.Span.{Span}
use Rattle.chan_syntax.specs.declared.linear.Bound.{Bound}
use Rattle.chan_syntax.specs.declared.resources.Shape.{Shape, Unit, Int, End, Pair', Sum'}
use Rattle.chan_syntax.specs.declared.resources.Proto.{Proto}
use Rattle.chan_syntax.specs.declared.operands.Supply.{Supply}
use Rattle.chan_syntax.specs.declared.operands.Proof.{Proof}
use Rattle.form_faults.specs.declared.faults.IllKind.TheVariants as kind
use Rattle.form_faults.specs.declared.faults.Ill.{Ill}
use Rattle.form_faults.specs.declared.sorts.Sort.TheVariants as sort
use Rattle.form_faults.specs.declared.sorts.Naming.TheVariants as naming
use Rattle.form_faults.specs.declared.sorts.Known.{Known}
use Rattle.form_faults.specs.declared.signatures.Signature.{Signature}
use Rattle.form_faults.specs.Faults.{past, unless, at_span}
use Rattle.form_faults.specs.Scopes.{unscoped, Binder, bind_all, twice_all}
use Rattle.form_faults.specs.Terms.{term_faults, use_faults, ref_faults}
use Rattle.form_faults.specs.Resources.{proto_faults, header_scope, header_faults}
use Rattle.form_faults.specs.Operands.{supply_faults, supplies_faults, proof_faults, path_faults, pat_binders}
use Rattle.core_programs.specs.declared.nodes.Node.{Node}
use Rattle.core_programs.specs.declared.nodes.Node.TheVariants as node
use Rattle.core_programs.specs.declared.nodes.Arm.{Arm}
use Rattle.core_programs.specs.declared.nodes.Func.{Func}
use Rattle.core_programs.specs.declared.nodes.Parts.{Parts}
use Rattle.core_programs.specs.Trees.{Tree, Nothing, Grown, Trees, NoMore, More, tree}

-- ---- pass 1: Twice among the protocols, and among the functions, at the second name

abbrev pub proto_names : List Proto → List Binder
proto_names protos = map (λ p. record { name = p.name; sort = sort.Variable; span = p.name_span }) protos

abbrev pub func_names : List Func → List Binder
func_names funcs = map (λ f. record { name = f.name; sort = sort.Variable; span = f.name_span }) funcs

abbrev pub twice_faults : Parts → List Ill
twice_faults parts = twice_all [] (proto_names parts.protos) ++ twice_all [] (func_names parts.funcs)

-- ---- pass 2: the names, counts and numbers of each protocol and each function

abbrev pub proto_signatures : List Proto → List Signature
proto_signatures protos = map (λ p. record { name = p.name; count = length p.params }) protos

abbrev pub func_signatures : List Func → List Signature
func_signatures funcs = map (λ f. record { name = f.name; count = length f.params }) funcs

-- a function, its values and their proof
unfoldable pub call_faults : List Signature → List Known → Ident → Span → (count : ℕ) → List Supply → Proof → List Ill
call_faults funcs scope func func_at count values proof = use_faults funcs func func_at count ++ (supplies_faults scope values ++ proof_faults scope proof)

-- a node that calls a function
abbrev pub is_call : Node → Bool
is_call (node.Call _ _ _ _ _ _ _) = true
is_call (node.Tail _ _ _ _ _) = true
is_call (node.Fork _ _ _ _ _ _ _ _ _) = true
is_call other = false

-- a node that sends, receives, or ends a body without a call
abbrev pub is_exchange : Node → Bool
is_exchange (node.Send1 _ _ _ _ _ _ _ _) = true
is_exchange (node.Recv1 _ _ _ _ _ _ _ _) = true
is_exchange (node.Absurd _ _) = true
is_exchange (node.Ret _ _ _) = true
is_exchange other = false

-- the faults of what a node names
unfoldable pub operand_faults : (protos funcs : List Signature) → List Known → Node → List Ill
operand_faults protos funcs scope (node.Let name name_at term next span) = term_faults naming.Variables scope term
operand_faults protos funcs scope (node.Mul name name_at left right next span) = term_faults naming.Variables scope left ++ term_faults naming.Variables scope right
operand_faults protos funcs scope (node.Div name name_at term divisor divisor_at next span) =
    term_faults naming.Variables scope term ++ unless (not (nat_eq divisor 0)) divisor_at
operand_faults protos funcs scope (node.Rem name name_at term divisor divisor_at next span) =
    term_faults naming.Variables scope term ++ unless (not (nat_eq divisor 0)) divisor_at
operand_faults protos funcs scope (node.Call pat func func_at values proof next span) =
    call_faults funcs scope func func_at (length values) values proof
operand_faults protos funcs scope (node.Tail func func_at values proof span) =
    call_faults funcs scope func func_at (length values) values proof
-- the end of the new channel is one value more
operand_faults protos funcs scope (node.Fork name name_at proto func func_at values proof next span) =
    ref_faults protos scope proto ++ call_faults funcs scope func func_at (length values + 1) values proof
operand_faults protos funcs scope (node.Send1 channel channel_at path path_at value proof next span) =
    unscoped naming.Variables scope channel channel_at ++ (path_faults path path_at span ++ (supply_faults scope value ++ proof_faults scope proof))
operand_faults protos funcs scope (node.Recv1 pat channel channel_at path path_at proof next span) =
    unscoped naming.Variables scope channel channel_at ++ (path_faults path path_at span ++ proof_faults scope proof)
operand_faults protos funcs scope (node.Print term next span) = term_faults naming.Variables scope term
operand_faults protos funcs scope (node.If left right this other span) = term_faults naming.Variables scope left ++ term_faults naming.Variables scope right
operand_faults protos funcs scope (node.Split first second name name_at next span) = unscoped naming.Variables scope name name_at
operand_faults protos funcs scope (node.Match name name_at arms span) = unscoped naming.Variables scope name name_at
operand_faults protos funcs scope (node.Absurd proof span) = proof_faults scope proof
operand_faults protos funcs scope (node.Ret value proof span) = supply_faults scope value ++ proof_faults scope proof

-- the names of an arm
abbrev pub arm_binders : Option Arm → List Binder
arm_binders None = []
arm_binders (Some arm) = pat_binders arm.pat

-- the names that a node binds for the body that comes at a turn
unfoldable pub binders_at : Node → (turn : ℕ) → List Binder
binders_at (node.Let name name_at term next span) turn = record { name = name; sort = sort.Variable; span = name_at } ∷ []
binders_at (node.Mul name name_at left right next span) turn = record { name = name; sort = sort.Both; span = name_at } ∷ []
binders_at (node.Div name name_at term divisor divisor_at next span) turn = record { name = name; sort = sort.Both; span = name_at } ∷ []
binders_at (node.Rem name name_at term divisor divisor_at next span) turn = record { name = name; sort = sort.Both; span = name_at } ∷ []
binders_at (node.Call pat func func_at values proof next span) turn = pat_binders pat
binders_at (node.Tail func func_at values proof span) turn = []
binders_at (node.Fork name name_at proto func func_at values proof next span) turn = record { name = name; sort = sort.Variable; span = name_at } ∷ []
binders_at (node.Send1 channel channel_at path path_at value proof next span) turn = []
binders_at (node.Recv1 pat channel channel_at path path_at proof next span) turn = pat_binders pat
binders_at (node.Print term next span) turn = []
binders_at (node.If left right this other span) turn = []
binders_at (node.Split first second name name_at next span) turn = pat_binders first ++ pat_binders second
binders_at (node.Match name name_at arms span) turn = arm_binders (slice_get arms turn)
binders_at (node.Absurd proof span) turn = []
binders_at (node.Ret value proof span) turn = []

-- the faults of a body. A node's names are bound after its operands were read; the two groups have no
-- kind in common, so that it doesn't matter which of them the text has first
unfoldable mutual
  pub body_faults : (protos funcs : List Signature) → List Known → Tree → List Ill
  body_faults protos funcs scope Nothing = []
  body_faults protos funcs scope (Grown x bodies) = operand_faults protos funcs scope x ++ bodies_faults protos funcs scope x 0 bodies

  -- the bodies after a node, from a turn on
  pub bodies_faults : (protos funcs : List Signature) → List Known → Node → (turn : ℕ) → Trees → List Ill
  bodies_faults protos funcs scope x turn NoMore = []
  bodies_faults protos funcs scope x turn (More body bodies) =
      (twice_all scope (binders_at x turn) ++ body_faults protos funcs (bind_all scope (binders_at x turn)) body)
      ++ bodies_faults protos funcs scope x (suc turn) bodies

unfoldable pub func_faults : (protos funcs : List Signature) → List Node → Func → List Ill
func_faults protos funcs nodes func =
    header_faults protos func.name_span func.bound func.params func.result
    ++ body_faults protos funcs (header_scope func.bound func.params) (tree nodes func.first)

unfoldable pub funcs_faults : (protos funcs : List Signature) → List Node → List Func → List Ill
funcs_faults protos funcs nodes [] = []
funcs_faults protos funcs nodes (f ∷ fs) = func_faults protos funcs nodes f ++ funcs_faults protos funcs nodes fs

unfoldable pub protos_faults : List Signature → List Proto → List Ill
protos_faults protos [] = []
protos_faults protos (p ∷ ps) = proto_faults protos p ++ protos_faults protos ps

-- where the protocols and functions that are known have these names
abbrev pub faults_under : (protos funcs : List Signature) → Parts → List Ill
faults_under protos funcs parts = protos_faults protos parts.protos ++ funcs_faults protos funcs parts.nodes parts.funcs

abbrev pub name_faults : Parts → List Ill
name_faults parts = faults_under (proto_signatures parts.protos) (func_signatures parts.funcs) parts

-- ---- pass 3: TooMany at the protocol and at the function with the number 4,097

abbrev pub count_faults : Parts → List Ill
count_faults parts = past 4096 (map (λ p. p.span) parts.protos) ++ past 4096 (map (λ f. f.span) parts.funcs)

-- ---- pass 5: NoMain at 1:1, unless a function `main` has no binders and no parameters, and gives the unit

abbrev pub is_unbound : Bound → Bool
is_unbound bound = is_nil bound.names && is_nil bound.limits

abbrev pub is_unit : Shape → Bool
is_unit Unit = true
is_unit (Int term) = false
is_unit (End ref) = false
is_unit (Pair' _ first _ second) = false
is_unit (Sum' _ arms) = false

abbrev pub is_main : Func → Bool
is_main func = same func.name (codes "main") && (is_unbound func.bound && (is_nil func.params && (is_unbound func.result.bound && is_unit func.result.shape)))

unfoldable pub no_main : List Func → List Ill
no_main funcs = if list_any is_main funcs then [] else at_span kind.NoMain (record { start = 0; stop = 0; line = 1; column = 1 })

abbrev pub main_faults : Parts → List Ill
main_faults parts = no_main parts.funcs
