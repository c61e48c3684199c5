-- What a shape or a resource asks a value for.
use Rattle.std.specs.Prelude.{ℕ, List, Option, Some, None, Result, Ok}
use Rattle.core_language.specs.Operands.{Supply}
use Rattle.outline_language.specs.LinearForms.{LinearForm}
use Rattle.outline_language.specs.Nameless.{Shape, Res, Resources, Binds, resource_at}
use Rattle.outline_language.specs.Contexts.{Why, and_then, Context, Cursor, instances, put_in_shape}
use Rattle.outline_language.specs.Giving.{Given, sum_of, give_shape}

-- the shape of a resource whose binders have their instances, and what is left of the proof
pub record Asked : Type 0 where
  pub shape : Shape
  pub cursor : Cursor

abbrev pub asked : Context → Res → Cursor → Result Asked Why
asked ctx (Binds n limits shape) cursor =
    and_then (instances ctx n limits cursor) (λ supplied.
    and_then (put_in_shape supplied.forms shape) (λ shape. Ok (record { shape = shape; cursor = supplied.cursor })))

abbrev pub arm_in : Option Resources → ℕ → Option Res
arm_in None number = None
arm_in (Some resources) number = resource_at resources number

-- the resource of the arm with this number, where the shape is a sum that has it
abbrev pub arm_of : Shape → ℕ → Option Res
arm_of shape number = arm_in (sum_of shape) number

-- a value at a shape in which instances stand for the binders around
abbrev pub give_with : List LinearForm → Supply → Shape → Given → Result Given Why
give_with forms value shape given = and_then (put_in_shape forms shape) (λ asked. give_shape value asked given)
