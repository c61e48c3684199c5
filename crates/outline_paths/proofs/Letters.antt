-- The steps of a letter, one after the other.
use Rattle.std.proofs.Common.{◌≡◌, ℕ, List, Result, Ok, sym, ◌∙◌, subst}
use Rattle.core_language.specs.Operands.{Letter}
use Rattle.farkas_check.specs.declared.cert.Row.{Row}
use Rattle.outline_language.specs.LinearForms.{LinearForm}
use Rattle.outline_language.specs.Nameless.{Ref, turned_if, form_with, ref_with}
use Rattle.outline_language.specs.Contexts.{Why, Cursor, and_then, formed}
use Rattle.outline_language.specs.Paths.{Followed, asked, formed_ref}
use Rattle.outline_obligations.specs.Reasons.{IsReason}
use Rattle.outline_obligations.specs.declared.faults.ContextFault.{ContextFault}
use Rattle.outline_obligations.proofs.Reasons.{then_ok, then_reason}
use Rattle.protocol_tables.specs.Protocols.{Fork}
use Rattle.outline_paths.specs.Following.{on_way, obliged, take_letter}

module _ (variables : ℕ) (hyps : List Row) (letter : Letter) (fork : Fork) (at : Followed) where
  abbrev after_next : Cursor → Ref → Result Followed Why
  after_next cursor next = Ok (record { end = turned_if at.end.dual next; cursor = cursor })

  abbrev after_cursor : Cursor → Result Followed Why
  after_cursor cursor = and_then (formed_ref (ref_with at.end.args 0 (on_way letter fork))) (after_next cursor)

  abbrev after_right : LinearForm → LinearForm → Result Followed Why
  after_right left right = and_then (obliged variables hyps (asked letter left right) at.cursor) after_cursor

  abbrev after_left : LinearForm → Result Followed Why
  after_left left = and_then (formed (form_with at.end.args 0 fork.right)) (after_right left)

  pub left_fails : (f : ContextFault) → IsReason (formed (form_with at.end.args 0 fork.left)) f → IsReason (take_letter variables hyps letter fork at) f
  left_fails f reason = then_reason (formed (form_with at.end.args 0 fork.left)) after_left f reason

  module _ (left : LinearForm) (l : formed (form_with at.end.args 0 fork.left) ≡ Ok left) where
    pub right_fails : (f : ContextFault) → IsReason (formed (form_with at.end.args 0 fork.right)) f → IsReason (take_letter variables hyps letter fork at) f
    right_fails f reason =
        subst (λ (r : Result Followed Why). IsReason r f) (sym (then_ok (formed (form_with at.end.args 0 fork.left)) left after_left l))
        (then_reason (formed (form_with at.end.args 0 fork.right)) (after_right left) f reason)

    module _ (right : LinearForm) (r : formed (form_with at.end.args 0 fork.right) ≡ Ok right) where
      up_to_row : take_letter variables hyps letter fork at ≡ after_right left right
      up_to_row = then_ok (formed (form_with at.end.args 0 fork.left)) left after_left l ∙ then_ok (formed (form_with at.end.args 0 fork.right)) right (after_right left) r

      pub row_fails : (f : ContextFault) → IsReason (obliged variables hyps (asked letter left right) at.cursor) f → IsReason (take_letter variables hyps letter fork at) f
      row_fails f reason =
          subst (λ (a : Result Followed Why). IsReason a f) (sym up_to_row) (then_reason (obliged variables hyps (asked letter left right) at.cursor) after_cursor f reason)

      module _ (cursor : Cursor) (c : obliged variables hyps (asked letter left right) at.cursor ≡ Ok cursor) where
        up_to_end : take_letter variables hyps letter fork at ≡ after_cursor cursor
        up_to_end = up_to_row ∙ then_ok (obliged variables hyps (asked letter left right) at.cursor) cursor after_cursor c

        pub end_fails : (f : ContextFault) → IsReason (formed_ref (ref_with at.end.args 0 (on_way letter fork))) f → IsReason (take_letter variables hyps letter fork at) f
        end_fails f reason =
            subst (λ (a : Result Followed Why). IsReason a f) (sym up_to_end) (then_reason (formed_ref (ref_with at.end.args 0 (on_way letter fork))) (after_next cursor) f reason)

        pub letter_taken : (next : Ref) → formed_ref (ref_with at.end.args 0 (on_way letter fork)) ≡ Ok next
            → take_letter variables hyps letter fork at ≡ Ok (record { end = turned_if at.end.dual next; cursor = cursor })
        letter_taken next n = up_to_end ∙ then_ok (formed_ref (ref_with at.end.args 0 (on_way letter fork))) next (after_next cursor) n
