-- Values that are given at resources: what a value takes from the context, and from the proof.
use Rattle.std.specs.Prelude.{Bool, true, false, ◌&&◌, List, [], ◌∷◌, Option, Some, None, Result, Ok, Err}
use Rattle.core_language.specs.Names.{Ident, same}
use Rattle.core_language.specs.Terms.{Term}
use Rattle.core_language.specs.Operands.{Supply}
use Rattle.core_language.specs.Operands as supply
use Rattle.core_language.specs.Computing.{bare_name}
use Rattle.outline_language.specs.LinearForms.{LinearForm}
use Rattle.outline_language.specs.Nameless.{Shape, Res, Resources, Unit, Int, End, Pair, Sum, Binds, resource_at, same_bool, same_shape}
use Rattle.outline_language.specs.Contexts.{Why, WrongForm, and_then, or_why, provided, Context, Cursor, meaning, equate, equate_all, instances, put_in_shape, take}

-- what is left once a value is given
pub record Given : Type 0 where
  pub context : Context
  pub cursor : Cursor

-- a variable has the first shape where the second is asked for: integers are equal, and the arguments of ends, in order;
-- pairs and sums are the same up to the names of binders
abbrev pub accept : Context → (has asked : Shape) → Cursor → Result Cursor Why
accept ctx Unit Unit cursor = Ok cursor
accept ctx (Int s) (Int t) cursor = equate ctx s t cursor
accept ctx (End e) (End f) cursor =
    and_then (provided (same_bool e.dual f.dual && same e.name f.name) WrongForm cursor) (equate_all ctx e.args f.args)
accept ctx (Pair r s) (Pair t u) cursor = provided (same_shape (Pair r s) (Pair t u)) WrongForm cursor
accept ctx (Sum rs) (Sum ts) cursor = provided (same_shape (Sum rs) (Sum ts)) WrongForm cursor
accept ctx _ _ cursor = Err WrongForm

-- a bare name is a variable, which is taken first; another term is an integer
abbrev pub give_variable : Ident → Shape → Given → Result Given Why
give_variable x shape given =
    and_then (take given.context x) (λ taken.
    and_then (accept taken.context taken.shape shape given.cursor) (λ cursor.
    Ok (record { context = taken.context; cursor = cursor })))

abbrev pub give_integer : Term → Shape → Given → Result Given Why
give_integer term (Int t) given =
    and_then (meaning given.context term) (λ s.
    and_then (equate given.context s t given.cursor) (λ cursor. Ok (record given { cursor = cursor })))
give_integer term _ given = Err WrongForm

-- a value that is a term
abbrev pub give_term : Option Ident → Term → Shape → Given → Result Given Why
give_term (Some x) term = give_variable x
give_term None term = give_integer term

abbrev pub is_unit : Shape → Bool
is_unit Unit = true
is_unit _ = false

abbrev pub pair_of : Shape → Option (Res × Res)
pair_of (Pair r s) = Some (r, s)
pair_of _ = None

abbrev pub sum_of : Shape → Option Resources
sum_of (Sum rs) = Some rs
sum_of _ = None

-- a value at a resource: the binders take instances, the limits certificates, and then the shape takes the value
abbrev pub at_res : (Shape → Given → Result Given Why) → Res → Given → Result Given Why
at_res give (Binds n limits shape) given =
    and_then (instances given.context n limits given.cursor) (λ supplied.
    and_then (put_in_shape supplied.forms shape) (λ asked.
    give asked (record given { cursor = supplied.cursor })))

-- a value at a shape: a pair gives its first part first, a tag picks the resource of its arm
abbrev pub give_shape : Supply → Shape → Given → Result Given Why
give_shape supply.Unit shape given = provided (is_unit shape) WrongForm given
give_shape (supply.Pair first second) shape given =
    and_then (or_why (pair_of shape) WrongForm) (λ parts.
    and_then (at_res (give_shape first) parts.0 given) (at_res (give_shape second) parts.1))
give_shape (supply.Arm number value) shape given =
    and_then (or_why (sum_of shape) WrongForm) (λ resources.
    and_then (or_why (resource_at resources number) WrongForm) (λ res. at_res (give_shape value) res given))
give_shape (supply.Sum term) shape given = give_term (bare_name term) term shape given

abbrev pub give : Supply → Res → Given → Result Given Why
give value = at_res (give_shape value)

-- each value at the shape of its parameter, in order; instances stand for the function's binders
abbrev pub give_all : List LinearForm → List Supply → List Shape → Given → Result Given Why
give_all forms [] [] given = Ok given
give_all forms (v ∷ vs) (s ∷ ss) given =
    and_then (put_in_shape forms s) (λ asked. and_then (give_shape v asked given) (give_all forms vs ss))
give_all forms _ _ given = Err WrongForm
