-- Ends whose arguments are integers, and what they do next.
use Rattle.std.specs.Prelude.{◌≡◌, ℕ, zero, suc, ℤ, pos, int_le, Bool, not, if◌then◌else◌, List, [], ◌∷◌, map, Option, Some, None}
use Rattle.core_language.specs.Names.{Ident}
use Rattle.core_language.specs.Resources.{Proto}
use Rattle.core_language.specs.Resources as written
use Rattle.core_language.specs.Operands.{Letter, First, Second}
use Rattle.outline_language.specs.LinearForms.{Var, Free, Inside, LinearForm, form_at}
use Rattle.outline_language.specs.Nameless.{Ref, Res, nameless_term, nameless_ref, nameless_res}
use Rattle.outline_language.specs.Paths.{turned}
use Rattle.outline_language.specs.Equations.{Concrete, opposite, Direction, Fork, fork_of, on_way, proto_named, written_message}

-- the other end, where the mark is set
abbrev pub opposite_if : Bool → Concrete → Concrete
opposite_if mark e = if mark then opposite e else e

abbrev pub integer_at : List ℤ → ℕ → ℤ
integer_at [] i = pos 0
integer_at (k ∷ ks) zero = k
integer_at (k ∷ ks) (suc i) = integer_at ks i

-- integer variables have these values by their places, and the binders around have those, the innermost first
abbrev pub at : (ℕ → ℤ) → List ℤ → Var → ℤ
at w ks (Free i) = w i
at w ks (Inside i) = integer_at ks i

-- a reference where variables have these values
abbrev pub concrete : (Var → ℤ) → Ref → Concrete
concrete f ref = record { dual = ref.dual; name = ref.name; args = map (form_at f) ref.args }

abbrev pub no_values : ℕ → ℤ
no_values i = pos 0

-- what an end sends or receives, under its protocol's parameters, and what these have
pub record Head : Type 0 where
  pub direction : Direction
  pub res : Res
  pub args : List ℤ

pub data Next : Type 0 where
  Gives : Head → Next
  Goes : Concrete → Next
  Lost : Next

-- the way that an `if` goes
abbrev pub way : (Var → ℤ) → (left right : LinearForm) → Letter
way f left right = if int_le (form_at f left) (form_at f right) then First else Second

abbrev pub letter_of : List Ident → List ℤ → Fork → Letter
letter_of params args fork = way (at no_values args) (nameless_term [] params fork.left) (nameless_term [] params fork.right)

abbrev pub picked : List Ident → List ℤ → Fork → Letter → Concrete
picked params args fork letter = concrete (at no_values args) (nameless_ref [] params (on_way letter fork))

abbrev pub next_at : Concrete → List Ident → Option (Direction × written.Res) → Option Fork → Next
next_at e params (Some message) fork =
    Gives (record { direction = turned e.dual message.0; res = nameless_res [] params message.1; args = e.args })
next_at e params None (Some fork) = Goes (opposite_if e.dual (picked params e.args fork (letter_of params e.args fork)))
next_at e params None None = Lost

abbrev pub next_in : Concrete → Option Proto → Next
next_in e None = Lost
next_in e (Some proto) = next_at e proto.params (written_message proto.equation) (fork_of proto.equation)

-- what the end does, or where its `if` equation goes on
abbrev pub next_of : List Proto → Concrete → Next
next_of protos e = next_in e (proto_named e.name protos)

-- what the end does past so many `if` equations
abbrev pub HasHead : List Proto → ℕ → Concrete → Head → Type 0
HasHead protos zero e head = next_of protos e ≡ Gives head
HasHead protos (suc n) e head = (f : Concrete) × (next_of protos e ≡ Goes f) × HasHead protos n f head
