use Rattle.std.proofs.Common.{◌≡◌, Result, Ok, sym, ap, ◌∙◌, subst}
use Rattle.std.proofs.lemmas.Result.{err_from_is_err_and}
use Rattle.chan_syntax.specs.Reading.{letter_of}
use Rattle.outline_language.specs.Nameless.{Ref, ref_with}
use Rattle.outline_language.specs.Contexts.{Why, Cursor}
use Rattle.outline_language.specs.Paths.{Followed, formed_ref}
use Rattle.nameless_shapes.specs.Parts.{ref_of}
use Rattle.outline_obligations.specs.Cursors.{cursor_at}
use Rattle.outline_obligations.specs.Reasons.{IsReason}
use Rattle.protocol_tables.specs.Reading.{fork_of}
use Rattle.outline_paths.specs.Settings.{followed_of}
use Rattle.outline_paths.proofs.Letters.{left_fails, right_fails, row_fails, end_fails, letter_taken}
use Rattle.outline_paths.proofs.unfolding.take_letter.Goals as goal

pub returns-in_err-left-clause-err : goal.returns-in_err-left-clause-err
returns-in_err-left-clause-err c =
    let p = err_from_is_err_and c.from_residual.result c.from_residual.ensures.1 in
    rw (p.1, p.2) (left_fails c.args.setting.now.variables c.args.setting.now.hyps.now (letter_of c.args.letter) (fork_of c.args.fork.now) (followed_of c.args.setting.now c.args.at.now)
    c.in_err-left.field-0.0 (rw c.as_slice-args.ensures at c.in_err-left.ensures.err))

pub returns-in_err-right-clause-err : goal.returns-in_err-right-clause-err
returns-in_err-right-clause-err c =
    let p = err_from_is_err_and c.from_residual-in_err-right.result c.from_residual-in_err-right.ensures.1 in
    rw (p.1, p.2) (right_fails c.args.setting.now.variables c.args.setting.now.hyps.now (letter_of c.args.letter) (fork_of c.args.fork.now) (followed_of c.args.setting.now c.args.at.now)
    c.in_ok-left.left (rw c.as_slice-args.ensures at c.in_ok-left.ensures.ok) c.in_err-right.field-0.0 (rw c.as_slice-args.ensures at c.in_err-right.ensures.err))

pub returns-in_err-taken-clause-err : goal.returns-in_err-taken-clause-err
returns-in_err-taken-clause-err c =
    let p = err_from_is_err_and c.from_residual-in_err-taken.result c.from_residual-in_err-taken.ensures.1 in
    rw (p.1, p.2) (row_fails c.args.setting.now.variables c.args.setting.now.hyps.now (letter_of c.args.letter) (fork_of c.args.fork.now) (followed_of c.args.setting.now c.args.at.now)
    c.in_ok-left.left (rw c.as_slice-args.ensures at c.in_ok-left.ensures.ok) c.in_ok-right.right (rw c.as_slice-args.ensures at c.in_ok-right.ensures.ok)
    c.in_err-taken.field-0.0 c.in_err-taken.ensures.err)

pub returns-in_err-next-clause-err : goal.returns-in_err-next-clause-err
returns-in_err-next-clause-err c =
    let p = err_from_is_err_and c.from_residual-in_err-next.result c.from_residual-in_err-next.ensures.1 in
    rw (p.1, p.2) (end_fails c.args.setting.now.variables c.args.setting.now.hyps.now (letter_of c.args.letter) (fork_of c.args.fork.now) (followed_of c.args.setting.now c.args.at.now)
    c.in_ok-left.left (rw c.as_slice-args.ensures at c.in_ok-left.ensures.ok) c.in_ok-right.right (rw c.as_slice-args.ensures at c.in_ok-right.ensures.ok)
    (cursor_at c.args.setting.now.proof.now c.in_ok-taken.taken) c.in_ok-taken.ensures.ok c.in_err-next.field-0.0
    (subst (λ (r : Ref). IsReason (formed_ref (ref_with c.args.at.now.end.args 0 r)) c.in_err-next.field-0.0) c.on_way.ensures (rw c.as_slice-args.ensures at c.in_err-next.ensures.err)))

abbrev followed : Cursor → Ref → Result Followed Why
followed cursor end = Ok (record { end = end; cursor = cursor })

pub returns-clause-ok : goal.returns-clause-ok
returns-clause-ok c =
    letter_taken c.args.setting.now.variables c.args.setting.now.hyps.now (letter_of c.args.letter) (fork_of c.args.fork.now) (followed_of c.args.setting.now c.args.at.now)
    c.in_ok-left.left (rw c.as_slice-args.ensures at c.in_ok-left.ensures.ok) c.in_ok-right.right (rw c.as_slice-args.ensures at c.in_ok-right.ensures.ok)
    (cursor_at c.args.setting.now.proof.now c.in_ok-taken.taken) c.in_ok-taken.ensures.ok (ref_of c.in_ok-next.next)
    (subst (λ (r : Ref). formed_ref (ref_with c.args.at.now.end.args 0 r) ≡ Ok (ref_of c.in_ok-next.next)) c.on_way.ensures (rw c.as_slice-args.ensures at c.in_ok-next.ensures.ok))
    ∙ ap (followed (cursor_at c.args.setting.now.proof.now c.in_ok-taken.taken)) (sym c.turned.ensures)
