-- Where the parts of duals, and of ends that are followed, stand in a text.
use Rattle.std.specs.Prelude.{◌≡◌, not, List, [], ◌∷◌, ◌++◌, map, find, Option, Some, None}
use Rattle.std.specs.Option.{option_map}
use Rattle.core_language.specs.Names.{Ident, same}
use Rattle.linear_forms.specs.Terms.{put_of}
use Rattle.linear_forms.specs.Substitution.{IsNormalPut, IsRefLike}
use Rattle.chan_syntax.specs.Reading.{term_of, ref_of}
use Rattle.chan_syntax.specs.declared.operands.Letter.{Letter}
use Rattle.chan_syntax.specs.declared.operands.Letter.TheVariants.{Left, Right}
use Rattle.chan_syntax.specs.declared.linear.Bound.{Bound}
use Rattle.chan_syntax.specs.declared.resources.Ref.{Ref}
use Rattle.chan_syntax.specs.declared.resources.Res.{Res}
use Rattle.chan_syntax.specs.declared.resources.Shape.{Shape}
use Rattle.chan_syntax.specs.declared.resources.Equation.{Equation}
use Rattle.chan_syntax.specs.declared.resources.Equation.TheVariants as equation
use Rattle.chan_syntax.specs.declared.resources.Proto.{Proto}
use Rattle.substitution.specs.Places.{Piece, Binders, ArePlaced, pieces_of_bound, pieces_of_ref, pieces_of_shape, pieces_of_res}
use Rattle.protocols.specs.Duals.{turned_if}
use Rattle.protocols.specs.declared.messages.Head.{Head}
use Rattle.protocols.specs.declared.messages.Head.TheVariants as head

-- ---- duals

-- the reference at its place, with the other mark
abbrev pub other_end : Ref → Ref
other_end ref = record { dual = not ref.dual; name = ref.name; name_span = ref.name_span; args = ref.args; span = ref.span }

-- what the other end does, each part at its place
abbrev pub other_equation : Equation → Equation
other_equation (equation.Send res next) = equation.Recv res (option_map other_end next)
other_equation (equation.Recv res next) = equation.Send res (option_map other_end next)
other_equation equation.Close = equation.Wait
other_equation equation.Wait = equation.Close
other_equation (equation.Branch left right this other) = equation.Branch left right (other_end this) (other_end other)

abbrev pub other_proto : Proto → Proto
other_proto proto = record { name = proto.name; name_span = proto.name_span; params = proto.params; params_spans = proto.params_spans; equation = other_equation proto.equation; span = proto.span }

-- ---- messages

-- without binders and limits
abbrev pub bare_bound : Bound
bare_bound = record { names = []; names_spans = []; limits = [] }

-- a shape, and the end at which the receiver goes on
abbrev pub pieces_of_pair : List Ident → Shape → Ref → List Piece
pieces_of_pair binders shape next = (Binders [] ∷ pieces_of_shape binders shape) ++ (Binders [] ∷ pieces_of_ref binders next)

-- a resource, with the end at which the receiver goes on where there is one
abbrev pub pieces_with_end : Res → Option Ref → List Piece
pieces_with_end res None = pieces_of_res [] res
pieces_with_end res (Some next) =
    pieces_of_bound [] res.bound ++ pieces_of_pair (res.bound.names ++ []) res.shape next

-- the message of an equation that isn't `if`
abbrev pub pieces_of_message : Equation → Option (List Piece)
pieces_of_message (equation.Send res next) = Some (pieces_with_end res next)
pieces_of_message (equation.Recv res next) = Some (pieces_with_end res next)
pieces_of_message equation.Close = Some (Binders [] ∷ [])
pieces_of_message equation.Wait = Some (Binders [] ∷ [])
pieces_of_message (equation.Branch left right this other) = None

abbrev pub pieces_of_head : Head → List Piece
pieces_of_head (head.Send res) = pieces_of_res [] res
pieces_of_head (head.Recv res) = pieces_of_res [] res

-- ---- ends that are followed

abbrev pub first_named : List Proto → Ident → Option Proto
first_named protos x = find (λ p. same p.name x) protos

abbrev pub way_of : Letter → Ref → Ref → Ref
way_of Left this other = this
way_of Right this other = other

-- the reference that a letter picks
abbrev pub picked_of : Letter → Equation → Option Ref
picked_of letter (equation.Branch left right this other) = Some (way_of letter this other)
picked_of letter _ = None

-- a letter leads from an end to the reference that it picks, with the end's arguments put in
abbrev pub LeadsTo : List Proto → Letter → Ref → Ref → Type 0
LeadsTo protos letter end next =
    (proto : Proto) × (picked : Ref) × (first_named protos end.name ≡ Some proto) × (picked_of letter proto.equation ≡ Some picked)
    × IsRefLike (IsNormalPut (put_of proto.params (map term_of end.args))) [] [] (turned_if end.dual (ref_of picked)) (ref_of next)
    × ArePlaced proto.params end.args (pieces_of_ref [] picked) (pieces_of_ref [] next)

-- letters, one after the other
abbrev pub LeadTo : List Proto → List Letter → Ref → Ref → Type 0
LeadTo protos [] end last = last ≡ end
LeadTo protos (letter ∷ letters) end last = (next : Ref) × LeadsTo protos letter end next × LeadTo protos letters next last

-- the head stands where the message of the end's equation does, with the end's arguments put in
abbrev pub IsHeadPlaced : List Proto → Ref → Head → Type 0
IsHeadPlaced protos end head =
    (proto : Proto) × (pieces : List Piece) × (first_named protos end.name ≡ Some proto) × (pieces_of_message proto.equation ≡ Some pieces)
    × ArePlaced proto.params end.args pieces (pieces_of_head head)

-- what `unfold` answers, after the letters of a path
abbrev pub IsPlacedHead : List Proto → Ref → List Letter → Head → Type 0
IsPlacedHead protos from letters head = (last : Ref) × LeadTo protos letters from last × IsHeadPlaced protos last head
