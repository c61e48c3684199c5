-- Ends that are followed past `if` equations, to the message that they have there.
use Rattle.std.specs.Prelude.{Bool, true, false, not, if◌then◌else◌, List, [], ◌∷◌, Option, Some, None, Result, Ok}
use Rattle.std.specs.List.{list_all}
use Rattle.core_language.specs.Names.{Ident, same}
use Rattle.core_language.specs.Resources.{Proto}
use Rattle.core_language.specs.Resources as written
use Rattle.core_language.specs.Operands.{Letter, First, Second}
use Rattle.outline_language.specs.Equations.{Direction, other_direction, written_message, Fork, fork_of, on_way, proto_named}
use Rattle.outline_language.specs.LinearForms.{LinearForm, minus, plus_one, form_fits}
use Rattle.outline_language.specs.Nameless.{Ref, Res, turned_if, nameless_term, nameless_ref, nameless_res, form_with, ref_with, res_with, res_fits}
use Rattle.outline_language.specs.Contexts.{Why, WrongForm, TooLarge, BranchNotProved, and_then, or_why, provided, Context, Cursor, formed, oblige}

-- a direction, and what is sent
pub record Message : Type 0 where
  pub direction : Direction
  pub res : Res

-- ---- one letter for each `if` equation on the way

-- a protocol that isn't `if`
abbrev pub is_end : Option Proto → Bool
is_end None = false
is_end (Some proto) = is_message (written_message proto.equation)
  where
    is_message : Option (Direction × written.Res) → Bool
    is_message None = false
    is_message (Some message) = true

abbrev pub fork_at : Option Proto → Option Fork
fork_at None = None
fork_at (Some proto) = fork_of proto.equation

-- a letter has an `if` to choose in, and the path goes on behind it
abbrev pub goes_on : (Ident → Bool) → Letter → Option Fork → Bool
goes_on again letter None = false
goes_on again letter (Some fork) = again (on_way letter fork).name

-- the letters are as many as the `if` equations on the way
abbrev pub is_path : List Proto → List Letter → Ident → Bool
is_path protos [] name = is_end (proto_named name protos)
is_path protos (letter ∷ letters) name = goes_on (is_path protos letters) letter (fork_at (proto_named name protos))

-- ---- what a letter asks for, and where it leads

-- where a path has come, and what is left of the proof
pub record Followed : Type 0 where
  pub end : Ref
  pub cursor : Cursor

-- the left term is at most the right one, or greater
abbrev pub asked : Letter → (left right : LinearForm) → LinearForm
asked First left right = minus left right
asked Second left right = plus_one (minus right left)

-- an end whose arguments 64 bits hold
abbrev pub formed_ref : Ref → Result Ref Why
formed_ref ref = provided (list_all form_fits ref.args) TooLarge ref

-- both terms and their row, then the obligation, then the end that the letter picks; the dual goes on as the dual
abbrev pub take_letter : List Ident → Context → Letter → Fork → Followed → Result Followed Why
take_letter params ctx letter fork at =
    and_then (formed (form_with at.end.args 0 (nameless_term [] params fork.left))) (λ left.
    and_then (formed (form_with at.end.args 0 (nameless_term [] params fork.right))) (λ right.
    and_then (oblige BranchNotProved ctx (asked letter left right) at.cursor) (λ cursor.
    and_then (formed_ref (ref_with at.end.args 0 (nameless_ref [] params (on_way letter fork)))) (λ next.
    Ok (record { end = turned_if at.end.dual next; cursor = cursor })))))

abbrev pub follow_letter : List Proto → Context → Letter → Followed → Result Followed Why
follow_letter protos ctx letter at =
    and_then (or_why (proto_named at.end.name protos) WrongForm) (λ proto.
    and_then (or_why (fork_of proto.equation) WrongForm) (λ fork.
    take_letter proto.params ctx letter fork at))

abbrev pub follow : List Proto → Context → List Letter → Followed → Result Followed Why
follow protos ctx [] at = Ok at
follow protos ctx (letter ∷ letters) at = and_then (follow_letter protos ctx letter at) (follow protos ctx letters)

-- ---- the message

abbrev pub turned : Bool → Direction → Direction
turned mark direction = if mark then other_direction direction else direction

-- a resource whose numbers 64 bits hold
abbrev pub formed_res : Res → Result Res Why
formed_res res = provided (res_fits res) TooLarge res

-- what an end sends or receives, with its arguments put in; the dual has the other direction and the same message
abbrev pub message_at : List Proto → Ref → Result Message Why
message_at protos end =
    and_then (or_why (proto_named end.name protos) WrongForm) (λ proto.
    and_then (or_why (written_message proto.equation) WrongForm) (λ message.
    and_then (formed_res (res_with end.args 0 (nameless_res [] proto.params message.1))) (λ res.
    Ok (record { direction = turned end.dual message.0; res = res }))))

-- a message, and what is left of the proof
pub record Unfolded : Type 0 where
  pub message : Message
  pub cursor : Cursor

-- the form of the path, then its letters, then the message
abbrev pub unfolded : List Proto → Context → Ref → List Letter → Cursor → Result Unfolded Why
unfolded protos ctx end path cursor =
    and_then (provided (is_path protos path end.name) WrongForm (record { end = end; cursor = cursor })) (λ at.
    and_then (follow protos ctx path at) (λ last.
    and_then (message_at protos last.end) (λ message.
    Ok (record { message = message; cursor = last.cursor }))))
