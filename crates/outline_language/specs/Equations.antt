-- What the equation of a protocol says: its direction and message, or the `if` that it goes on by.
use Rattle.std.specs.Prelude.{ℤ, Bool, true, false, not, if◌then◌else◌, List, [], ◌∷◌, Option, Some, None}
use Rattle.std.specs.Option.{option_map}
use Rattle.core_language.specs.Names.{Ident, same}
use Rattle.core_language.specs.Terms.{Term, Bound}
use Rattle.core_language.specs.Resources.{Ref, Res, Shape, Equation, Proto, Unit, End, Pair, Binds, Send, Recv, Close, Wait, Branch}
use Rattle.core_language.specs.Operands.{Letter, First, Second}

-- a protocol at integers, or its dual
pub record Concrete : Type 0 where
  pub dual : Bool
  pub name : Ident
  pub args : List ℤ

-- the other end
abbrev pub opposite : Concrete → Concrete
opposite e = record { dual = not e.dual; name = e.name; args = e.args }

-- what an end does with a message
pub data Direction : Type 0 where
  Sends : Direction
  Receives : Direction

abbrev pub other_direction : Direction → Direction
other_direction Sends = Receives
other_direction Receives = Sends

abbrev pub sends : Direction → Bool
sends Sends = true
sends Receives = false

-- no binders and no limits
abbrev pub no_bound : Bound
no_bound = record { names = []; limits = [] }

-- a shape without binders
abbrev pub bare : Shape → Res
bare shape = Binds no_bound shape

-- a resource, with the end at which the receiver goes on where there is one
abbrev pub with_end : Res → Option Ref → Res
with_end res None = res
with_end (Binds bound shape) (Some ref) = Binds bound (Pair (bare shape) (bare (End ref)))

-- the other end of a reference: the mark twice is none
abbrev pub dual_written : Ref → Ref
dual_written ref = record { dual = not ref.dual; name = ref.name; args = ref.args }

-- that of what follows a message, where something does
abbrev pub dual_next : Option Ref → Option Ref
dual_next next = option_map dual_written next

-- what an equation that isn't `if` sends or receives: the sender's end goes on as the dual of what it sends along
abbrev pub written_message : Equation → Option (Direction × Res)
written_message (Send res next) = Some (Sends, with_end res (dual_next next))
written_message (Recv res next) = Some (Receives, with_end res next)
written_message Close = Some (Sends, bare Unit)
written_message Wait = Some (Receives, bare Unit)
written_message (Branch left right this other) = None

-- an `if` equation
pub record Fork : Type 0 where
  pub left : Term
  pub right : Term
  pub this : Ref
  pub other : Ref

abbrev pub fork_of : Equation → Option Fork
fork_of (Branch left right this other) = Some (record { left = left; right = right; this = this; other = other })
fork_of _ = None

-- the reference that a letter picks
abbrev pub on_way : Letter → Fork → Ref
on_way First fork = fork.this
on_way Second fork = fork.other

-- the first protocol with this name
abbrev pub proto_named : Ident → List Proto → Option Proto
proto_named x [] = None
proto_named x (p ∷ ps) = if same p.name x then Some p else proto_named x ps
