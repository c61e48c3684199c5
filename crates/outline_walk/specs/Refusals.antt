-- Refusals as faults of the definitions, and where they stand.
use Rattle.std.specs.Prelude.{◌≡◌, ℕ, Bool, true, nat_lt, List, Option, Some, None, option_map, slice_get}
use Rattle.chan_base.specs.declared.spans.Span.{Span}
use Rattle.core_programs.specs.declared.nodes.Node.{Node}
use Rattle.core_programs.specs.declared.nodes.Node.TheVariants as node
use Rattle.core_programs.specs.Bodies.{span_of}
use Rattle.outline_language.specs.Outlined.{Fault}
use Rattle.outline_obligations.specs.Reasons.{why_of}
use Rattle.outline_walk.specs.declared.refusals.Refusal.{Refusal}

abbrev pub fault_of : Refusal → Fault
fault_of r = record { span = span_of r.span; why = why_of r.why; names = r.names }

abbrev pub found : Option Refusal → Option Fault
found first = option_map fault_of first

-- a fault that starts there is sooner than the first so far
abbrev pub is_before : (start : ℕ) → Option Refusal → Bool
is_before start None = true
is_before start (Some r) = nat_lt start r.span.start

abbrev pub span_of_node : Node → Span
span_of_node (node.Let name name_at term next span) = span
span_of_node (node.Mul name name_at left right next span) = span
span_of_node (node.Div name name_at term divisor divisor_at next span) = span
span_of_node (node.Rem name name_at term divisor divisor_at next span) = span
span_of_node (node.Call pat func func_at values proof next span) = span
span_of_node (node.Tail func func_at values proof span) = span
span_of_node (node.Fork name name_at proto func func_at values proof next span) = span
span_of_node (node.Send1 channel channel_at path path_at value proof next span) = span
span_of_node (node.Recv1 pat channel channel_at path path_at proof next span) = span
span_of_node (node.Print term next span) = span
span_of_node (node.If left right this other span) = span
span_of_node (node.Split first second name name_at next span) = span
span_of_node (node.Match name name_at arms span) = span
span_of_node (node.Absurd proof span) = span
span_of_node (node.Ret value proof span) = span

-- its number is that of a node that stands there
abbrev pub IsPlaced : List Node → Option Refusal → Type 0
IsPlaced nodes None = Unit {0}
IsPlaced nodes (Some r) = (x : Node) × (slice_get nodes r.node ≡ Some x) × (r.span ≡ span_of_node x)
