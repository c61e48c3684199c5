-- A variable that is matched, and an arm that is bound.
use Rattle.std.specs.Prelude.{◌≡◌, ℕ, Result, Ok}
use Rattle.core_language.specs.Names.{Ident}
use Rattle.core_language.specs.Programs.{Arms, arm_at}
use Rattle.outline_language.specs.Nameless.{Shape, Res}
use Rattle.outline_language.specs.Contexts.{Why, WrongForm, and_then, or_why, Context, take, bind}

-- the name was taken, and this is there without it
abbrev pub IsTaken : (old : Context) → Ident → (new : Context) → Type 0
IsTaken old x new = (shape : Shape) × (take old x ≡ Ok (record { shape = shape; context = new }))

-- the pattern of the arm with this number is bound to a resource
abbrev pub bound_arm : Context → Arms → (number : ℕ) → Res → Result Context Why
bound_arm ctx arms number res = and_then (or_why (arm_at arms number) WrongForm) (λ arm. bind ctx arm.0 res)
