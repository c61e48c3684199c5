-- Protocols that choose, as a number that is sent and `if` equations for it.
use Rattle.std.specs.Prelude.{ℕ, ◌+◌, ◌-◌, pos, codes, Bool, true, false, if◌then◌else◌, List, [], ◌∷◌, ◌++◌, map, flat_map, length, Option, Some, None}
use Rattle.core_language.specs.Names.{Ident, same}
use Rattle.chan_base.specs.declared.spans.Span.{Span}
use Rattle.chan_syntax.specs.declared.linear.Term.{Term}
use Rattle.chan_syntax.specs.declared.linear.Relation.TheVariants as relation
use Rattle.chan_syntax.specs.declared.linear.Bound.{Bound}
use Rattle.chan_syntax.specs.declared.resources.Ref.{Ref}
use Rattle.chan_syntax.specs.declared.resources.Shape.TheVariants as shape
use Rattle.chan_syntax.specs.declared.resources.Res.{Res, roll-Res}
use Rattle.chan_syntax.specs.declared.resources.Equation.{Equation}
use Rattle.chan_syntax.specs.declared.resources.Equation.TheVariants as equation
use Rattle.chan_syntax.specs.declared.resources.Proto.{Proto}
use Rattle.chan_syntax.specs.declared.surface_tree.Body.{Body}
use Rattle.chan_syntax.specs.declared.surface_tree.Body.TheVariants as body
use Rattle.chan_syntax.specs.declared.surface_tree.SurfaceProto.{SurfaceProto}
use Rattle.chan_syntax.specs.declared.surface_tree.Decl.{Decl}
use Rattle.chan_syntax.specs.declared.surface_tree.Decl.TheVariants as decl
use Rattle.session_lowering.specs.declared.sources.Source.{Source}
use Rattle.session_lowering.specs.MadeNames.{numbered}
use Rattle.session_lowering.specs.PutTerms.{number_term, name_term}

-- the integer that is sent
abbrev pub bit : Ident
bit = codes "b.0"

-- from 0 to the greatest number
abbrev pub up_to : Span → ℕ → Bound
up_to span most = record {
  names = bit ∷ [];
  names_spans = span ∷ [];
  limits =
      record { left = number_term span (pos 0); relation = relation.AtMost; right = name_term span bit span }
      ∷ record { left = name_term span bit span; relation = relation.AtMost; right = number_term span (pos most) } ∷ [];
}

abbrev pub bit_res : Span → ℕ → Res
bit_res span most = roll-Res (record { bound = up_to span most; shape = shape.Int (name_term span bit span) })

-- the parameters as arguments, and then the integer
abbrev pub params_and_bit : Span → List Ident → List Span → List Term
params_and_bit span (x ∷ xs) (at ∷ ats) = name_term span x at ∷ params_and_bit span xs ats
params_and_bit span _ _ = name_term span bit span ∷ []

-- the protocol of this name at the parameters and the integer
abbrev pub goes_on : SurfaceProto → Ident → Span → Ref
goes_on p name at = record { dual = false; name = name; name_span = at; args = params_and_bit p.span p.params p.params_spans; span = at }

abbrev pub sent_or_received : (offer : Bool) → Res → Ref → Equation
sent_or_received true res next = equation.Recv res (Some next)
sent_or_received false res next = equation.Send res (Some next)

-- P(x..) = send [b.0: 0 <= b.0, b.0 <= k] int(b.0) then Q(x.., b.0)
abbrev pub choosing : SurfaceProto → (offer : Bool) → Ident → Span → (most : ℕ) → Proto
choosing p offer next at most = record {
  name = p.name;
  name_span = p.name_span;
  params = p.params;
  params_spans = p.params_spans;
  equation = sent_or_received offer (bit_res p.span most) (goes_on p next at);
  span = p.span;
}

-- Q.i(x.., b.0) = if b.0 <= i then E else F
abbrev pub turn : SurfaceProto → Ident → Span → ℕ → Ref → Ref → Proto
turn p name at i this other = record {
  name = name;
  name_span = at;
  params = p.params ++ bit ∷ [];
  params_spans = p.params_spans ++ p.span ∷ [];
  equation = equation.Branch (name_term p.span bit p.span) (number_term p.span (pos i)) this other;
  span = p.span;
}

-- one after the other, the last of them with two of the references
abbrev pub turns : SurfaceProto → (next name : Ident) → Span → ℕ → List Ref → List Proto
turns p next name at i (e ∷ f ∷ g ∷ more) =
    turn p name at i e (goes_on p (numbered next (i + 1)) p.span) ∷ turns p next (numbered next (i + 1)) p.span (i + 1) (f ∷ g ∷ more)
turns p next name at i (e ∷ f ∷ []) = turn p name at i e f ∷ []
turns p next name at i _ = []

abbrev pub plain : SurfaceProto → Equation → Proto
plain p e = record { name = p.name; name_span = p.name_span; params = p.params; params_spans = p.params_spans; equation = e; span = p.span }

abbrev pub unchosen : Proto → Source
unchosen proto = record { proto = proto; chooses = false }

abbrev pub sources_of : SurfaceProto → Body → List Source
sources_of p (body.Plain e) = unchosen (plain p e) ∷ []
sources_of p (body.Choice offer next at refs) =
    record { proto = choosing p offer next at (length refs - 1); chooses = true } ∷ map unchosen (turns p next next at 0 refs)

abbrev pub declared : Decl → List Source
declared (decl.Proto p) = sources_of p p.body
declared (decl.Func f) = []

-- the protocols of the text in order, those of a choice behind it
abbrev pub sources : List Decl → List Source
sources decls = flat_map declared decls

-- of two declarations the first counts
abbrev pub source_named : List Source → Ident → Option Source
source_named [] x = None
source_named (s ∷ ss) x = if same s.proto.name x then Some s else source_named ss x
