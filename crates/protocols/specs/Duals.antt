-- Duals, and the messages of equations.
use Rattle.std.specs.Prelude.{◌≡◌, Bool, if◌then◌else◌, List, [], ◌∷◌, map, Option}
use Rattle.std.specs.Option.{option_map}
use Rattle.core_language.specs.Resources.{Ref, Res, Equation, Proto, Send, Recv, Close, Wait, Branch}
use Rattle.outline_language.specs.Equations.{Direction, other_direction, dual_written, written_message}

-- the dual, where the mark is set
abbrev pub turned_if : Bool → Ref → Ref
turned_if dual ref = if dual then dual_written ref else ref

-- what the other end does
abbrev pub dual_equation : Equation → Equation
dual_equation (Send res next) = Recv res (option_map dual_written next)
dual_equation (Recv res next) = Send res (option_map dual_written next)
dual_equation Close = Wait
dual_equation Wait = Close
dual_equation (Branch left right this other) = Branch left right (dual_written this) (dual_written other)

abbrev pub dual_proto : Proto → Proto
dual_proto proto = record { name = proto.name; params = proto.params; equation = dual_equation proto.equation }

-- one message: its direction, and what is sent
pub record Message : Type 0 where
  pub direction : Direction
  pub res : Res

abbrev pub turned : Message → Message
turned message = record { direction = other_direction message.direction; res = message.res }

-- a message, where there is one
abbrev pub message_in : Direction × Res → Message
message_in message = record { direction = message.0; res = message.1 }

-- the message of an equation that isn't `if`
abbrev pub message_of : Equation → Option Message
message_of equation = option_map message_in (written_message equation)

-- where an `if` may go on
abbrev pub branches_of : Equation → List Ref
branches_of (Branch left right this other) = this ∷ other ∷ []
branches_of _ = []

abbrev pub TwiceIsNothing : Type 0
TwiceIsNothing = (proto : Proto) → dual_proto (dual_proto proto) ≡ proto

abbrev pub SameMessage : Type 0
SameMessage = (e : Equation) → message_of (dual_equation e) ≡ option_map turned (message_of e)

abbrev pub MarkGoesToBranches : Type 0
MarkGoesToBranches = (e : Equation) → branches_of (dual_equation e) ≡ map dual_written (branches_of e)
