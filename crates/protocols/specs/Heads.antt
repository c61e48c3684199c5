-- What an end does where its arguments are integers.
use Rattle.std.specs.Prelude.{◌≡◌, ℤ, pos, int_le, Bool, not, if◌then◌else◌, List, [], ◌∷◌, map, Option, Some, None}
use Rattle.core_language.specs.Names.{Ident, same}
use Rattle.core_language.specs.Terms.{Term}
use Rattle.core_language.specs.Resources.{Ref, Equation, Proto, Branch}
use Rattle.core_language.specs.Operands.{Letter, First, Second}
use Rattle.linear_forms.specs.Terms.{sum_of}
use Rattle.outline_language.specs.Equations.{Concrete, opposite, proto_named}
use Rattle.protocols.specs.Duals.{Message, dual_equation, message_of, turned}

-- what a parameter has
abbrev pub argument : List Ident → List ℤ → Ident → ℤ
argument [] ks x = pos 0
argument (p ∷ ps) [] x = pos 0
argument (p ∷ ps) (k ∷ ks) x = if same p x then k else argument ps ks x

-- a reference where names have these values
abbrev pub concrete : (Ident → ℤ) → Ref → Concrete
concrete at ref = record { dual = ref.dual; name = ref.name; args = map (sum_of (pos 1) at) ref.args }

-- the equation of a protocol, or that of its dual
abbrev pub equation_of_end : Bool → Proto → Equation
equation_of_end dual proto = if dual then dual_equation proto.equation else proto.equation

-- a message whose terms name parameters, and what these have
pub record Head : Type 0 where
  pub message : Message
  pub params : List Ident
  pub args : List ℤ

abbrev pub turned_head : Head → Head
turned_head head = record { message = turned head.message; params = head.params; args = head.args }

-- the way that an `if` goes
abbrev pub way : (Ident → ℤ) → Term → Term → Letter
way at left right = if int_le (sum_of (pos 1) at left) (sum_of (pos 1) at right) then First else Second

abbrev pub on_way : Letter → Ref → Ref → Ref
on_way First this other = this
on_way Second this other = other

-- the end's equation is this
abbrev pub HasEquation : List Proto → Concrete → Proto → Equation → Type 0
HasEquation protos e proto equation = (proto_named e.name protos ≡ Some proto) × (equation_of_end e.dual proto ≡ equation)

-- the head of an end, past the `if` equations that go these ways
abbrev pub HasHead : List Proto → Concrete → List Letter → Head → Type 0
HasHead protos e [] head =
    (proto : Proto) × (equation : Equation) × HasEquation protos e proto equation × (message_of equation ≡ Some head.message) × (head.params ≡ proto.params) × (head.args ≡ e.args)
HasHead protos e (letter ∷ ways) head =
    (proto : Proto) × (left right : Term) × (this other : Ref) × HasEquation protos e proto (Branch left right this other)
    × (letter ≡ way (argument proto.params e.args) left right)
    × HasHead protos (concrete (argument proto.params e.args) (on_way letter this other)) ways head

-- the other end has the other direction and the same message, at all arguments
abbrev pub DualTurnsTheHead : Type 0
DualTurnsTheHead = (protos : List Proto) (e : Concrete) (ways : List Letter) (head : Head) → HasHead protos e ways head → HasHead protos (opposite e) ways (turned_head head)

-- an end has one head, and comes to it in one way
abbrev pub HeadIsOne : Type 0
HeadIsOne = (protos : List Proto) (e : Concrete) (ways others : List Letter) (head another : Head) → HasHead protos e ways head → HasHead protos e others another → (others ≡ ways) × (another ≡ head)
