-- Ends that are followed over protocols without names, under hypotheses over so many integer variables.
use Rattle.std.specs.Prelude.{ℕ, Bool, true, false, List, [], ◌∷◌, Option, Some, None, Result, Ok}
use Rattle.core_language.specs.Names.{Ident}
use Rattle.core_language.specs.Operands.{Letter, First, Second}
use Rattle.farkas_check.specs.declared.cert.Row.{Row}
use Rattle.outline_language.specs.Nameless.{Ref, turned_if, form_with, ref_with, res_with}
use Rattle.outline_language.specs.LinearForms.{LinearForm}
use Rattle.outline_language.specs.Contexts.{Why, WrongForm, BranchNotProved, and_then, or_why, provided, Cursor, formed, row_formed, row_shown}
use Rattle.outline_language.specs.Paths.{Message, Followed, Unfolded, asked, turned, formed_ref, formed_res}
use Rattle.protocol_tables.specs.Protocols.{Fork, Protocol, protocol_named}

-- ---- the form of a path

abbrev pub fork_at : Option Protocol → Option Fork
fork_at None = None
fork_at (Some p) = p.fork

abbrev pub message_at : Option Protocol → Option Message
message_at None = None
message_at (Some p) = p.message

-- the reference that a letter picks
abbrev pub on_way : Letter → Fork → Ref
on_way First fork = fork.this
on_way Second fork = fork.other

abbrev pub is_there : {A : Type 0} → Option A → Bool
is_there None = false
is_there (Some a) = true

-- a letter has an `if` to choose in, and the path goes on behind it
abbrev pub goes_on : (Ident → Bool) → Letter → Option Fork → Bool
goes_on again letter None = false
goes_on again letter (Some fork) = again (on_way letter fork).name

-- the letters are as many as the `if` equations on the way
abbrev pub is_path : List Protocol → List Letter → Ident → Bool
is_path protocols [] name = is_there (message_at (protocol_named name protocols))
is_path protocols (letter ∷ letters) name = goes_on (is_path protocols letters) letter (fork_at (protocol_named name protocols))

-- ---- the letters

-- the form is at most 0: first its row, then what that asks for
abbrev pub obliged : ℕ → List Row → LinearForm → Cursor → Result Cursor Why
obliged variables hyps form cursor = and_then (row_formed variables form) (λ row. row_shown BranchNotProved hyps row cursor)

-- both terms and their row, then the obligation, then the end that the letter picks; the dual goes on as the dual
abbrev pub take_letter : ℕ → List Row → Letter → Fork → Followed → Result Followed Why
take_letter variables hyps letter fork at =
    and_then (formed (form_with at.end.args 0 fork.left)) (λ left.
    and_then (formed (form_with at.end.args 0 fork.right)) (λ right.
    and_then (obliged variables hyps (asked letter left right) at.cursor) (λ cursor.
    and_then (formed_ref (ref_with at.end.args 0 (on_way letter fork))) (λ next.
    Ok (record { end = turned_if at.end.dual next; cursor = cursor })))))

abbrev pub follow_letter : List Protocol → ℕ → List Row → Letter → Followed → Result Followed Why
follow_letter protocols variables hyps letter at =
    and_then (or_why (fork_at (protocol_named at.end.name protocols)) WrongForm) (λ fork. take_letter variables hyps letter fork at)

abbrev pub follow : List Protocol → ℕ → List Row → List Letter → Followed → Result Followed Why
follow protocols variables hyps [] at = Ok at
follow protocols variables hyps (letter ∷ letters) at =
    and_then (follow_letter protocols variables hyps letter at) (follow protocols variables hyps letters)

-- ---- the message

abbrev pub told : Ref → Message → Result Message Why
told end message = and_then (formed_res (res_with end.args 0 message.res)) (λ res. Ok (record { direction = turned end.dual message.direction; res = res }))

abbrev pub message_of : List Protocol → Ref → Result Message Why
message_of protocols end = and_then (or_why (message_at (protocol_named end.name protocols)) WrongForm) (told end)

-- the form of the path, then its letters, then the message
abbrev pub unfolded : List Protocol → ℕ → List Row → Ref → List Letter → Cursor → Result Unfolded Why
unfolded protocols variables hyps end path cursor =
    and_then (provided (is_path protocols path end.name) WrongForm (record { end = end; cursor = cursor })) (λ at.
    and_then (follow protocols variables hyps path at) (λ last.
    and_then (message_of protocols last.end) (λ message.
    Ok (record { message = message; cursor = last.cursor }))))
