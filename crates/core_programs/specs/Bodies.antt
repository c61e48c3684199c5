-- The program that its parts make: numbered nodes read as trees.
use Rattle.std.specs.Prelude.{◌≡◌, ℕ, zero, suc, if◌then◌else◌, List, [], ◌∷◌, map, length, Option, Some, None, slice_get}
use Rattle.std.specs.Ordering.{nat_cmp}
use Rattle.std.specs.Cmp.Lexicographic.{slice_cmp}
use Rattle.std.specs.Option.{option_and_then}
use Rattle.std.specs.BTreeMap.{BTreeMap, get}
use Rattle.core_language.specs.Names.{Ident, same}
use Rattle.core_language.specs.Operands as operand
use Rattle.core_language.specs.Programs as core
use Rattle.chan_base.specs.declared.spans.Span.{Span}
use Rattle.chan_syntax.specs.declared.resources.Param.{Param}
use Rattle.core_programs.specs.declared.nodes.Node.{Node}
use Rattle.core_programs.specs.declared.nodes.Node.TheVariants as node
use Rattle.core_programs.specs.declared.nodes.Arm.{Arm}
use Rattle.core_programs.specs.declared.nodes.Func.{Func}
use Rattle.core_programs.specs.declared.nodes.Parts.{Parts}
use Rattle.chan_syntax.specs.Reading.{term_of, bound_of, ref_of, shape_of, res_of, proto_of, supply_of, pat_of, letter_of, proof_of}

abbrev pub span_of : Span → core.Span
span_of span = record { start = span.start; stop = span.stop; line = span.line; column = span.column }

-- no instances and no certificates
abbrev pub no_proof : operand.Proof
no_proof = record { instances = []; certs = [] }

-- the arms of a match, by the bodies at the numbers that they name
abbrev pub arms_opened : List Arm → (ℕ → core.Body) → core.Arms
arms_opened [] at = core.NoArm
arms_opened (arm ∷ arms) at = core.Arm (pat_of arm.pat) (at arm.next) (arms_opened arms at)

-- the body at a node, by the bodies at the numbers that it names
abbrev pub opened : Node → (ℕ → core.Body) → core.Body
opened (node.Let name name_at term next span) at = core.Let (span_of span) name (term_of term) (at next)
opened (node.Mul name name_at left right next span) at = core.Mul (span_of span) name (term_of left) (term_of right) (at next)
opened (node.Div name name_at term divisor divisor_at next span) at = core.Div (span_of span) name (term_of term) divisor (at next)
opened (node.Rem name name_at term divisor divisor_at next span) at = core.Rem (span_of span) name (term_of term) divisor (at next)
opened (node.Call pat func func_at values proof next span) at = core.Call (span_of span) (pat_of pat) func (map supply_of values) (proof_of proof) (at next)
opened (node.Tail func func_at values proof span) at = core.Tail (span_of span) func (map supply_of values) (proof_of proof)
opened (node.Fork name name_at proto func func_at values proof next span) at =
    core.Fork (span_of span) name (ref_of proto) func (map supply_of values) (proof_of proof) (at next)
opened (node.Send1 channel channel_at path path_at value proof next span) at =
    core.Send1 (span_of span) channel (map letter_of path) (supply_of value) (proof_of proof) (at next)
opened (node.Recv1 pat channel channel_at path path_at proof next span) at =
    core.Recv1 (span_of span) (pat_of pat) channel (map letter_of path) (proof_of proof) (at next)
opened (node.Print term next span) at = core.Print (span_of span) (term_of term) (at next)
opened (node.If left right this other span) at = core.If (span_of span) (term_of left) (term_of right) (at this) (at other)
opened (node.Split first second name name_at next span) at = core.Split (span_of span) (pat_of first) (pat_of second) name (at next)
opened (node.Match name name_at arms span) at = core.Match (span_of span) name (arms_opened arms at)
opened (node.Absurd proof span) at = core.Absurd (span_of span) (proof_of proof)
opened (node.Ret value proof span) at = core.Ret (span_of span) (supply_of value) (proof_of proof)

-- what stands for a body where there is no node; no function of a program comes to it
abbrev pub nowhere : core.Body
nowhere = core.Absurd (record { start = 0; stop = 0; line = 0; column = 0 }) no_proof

abbrev pub opened_at : Option Node → (ℕ → core.Body) → core.Body
opened_at None at = nowhere
opened_at (Some node) at = opened node at

-- the body at a number, to a depth
unfoldable pub rest_within : ℕ → List Node → ℕ → core.Body
rest_within zero nodes n = nowhere
rest_within (suc depth) nodes n = opened_at (slice_get nodes n) (rest_within depth nodes)

-- the body at a number: no body is deeper than there are nodes
abbrev pub rest : List Node → ℕ → core.Body
rest nodes n = rest_within (length nodes) nodes n

abbrev pub param_of : Param → core.Param
param_of param = record { name = param.name; shape = shape_of param.shape }

abbrev pub function_of : List Node → Func → core.Function
function_of nodes func = record {
  name = func.name;
  bound = bound_of func.bound;
  params = map param_of func.params;
  result = res_of func.result;
  body = rest nodes func.first;
  span = span_of func.span;
}

abbrev pub program_of : Parts → core.Program
program_of parts = record { protos = map proto_of parts.protos; funcs = map (function_of parts.nodes) parts.funcs }

-- the first function with this name
abbrev pub func_named : Ident → List Func → Option Func
func_named name [] = None
func_named name (f ∷ fs) = if same f.name name then Some f else func_named name fs

-- the index leads to the first function with each name
abbrev pub LeadsToFirst : List Func → BTreeMap Ident ℕ → Type 0
LeadsToFirst funcs index = (name : Ident) → option_and_then (slice_get funcs) (get (slice_cmp nat_cmp) index name) ≡ func_named name funcs
