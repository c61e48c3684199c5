use Rattle.token_cursor.proofs.UpTo.{two_found, answers_so}
use Rattle.chan_parser.proofs.Alternatives.{alternatives_read}
use Rattle.chan_parser.proofs.declarations.alternatives.Goals as goal

pub returns : goal.returns
returns c =
    answers_so c.more_refs.result _ (alternatives_read c.args.depth c.args.cursor.now c.reference.new.cursor c.next_ref.new.cursor c.in_ok-reference.field-0 c.in_ok-next_ref.field-0 c.push-2.new.self
    c.in_ok-reference.ensures c.in_ok-next_ref.ensures (two_found _ _ _ _ _ c.new-found.ensures c.in_ok-push.ensures.ok c.in_ok-push-2.ensures.ok)) c.more_refs.ensures
