use Rattle.std.proofs.Common.{◌+◌, ◌<◌, ◌++◌, List, map, length, sym, ap, ◌∙◌, arith}
use Rattle.std.proofs.lemmas.List.{append-nil}
use Rattle.chan_syntax.specs.declared.resources.Proto.{Proto}
use Rattle.session_lowering.specs.MadeNames.{numbered}
use Rattle.session_lowering.specs.Choices.{unchosen}
use Rattle.choice_protocols.proofs.TurnsFrom.{one_more, turns-last, turns-none}
use Rattle.choice_protocols.proofs.turns.put_turns.Goals as goal
use Rattle.choice_protocols.proofs.turns.put_turns.Goals.{then-refs-index-eq2+in_ok-put_last_turn, else-refs-index-eq2}

pub turns-preserved : goal.turns-preserved
turns-preserved c =
    let (le, puts) = c.turns.invariant in
    let within : c.turns.index + 2 < length c.args.refs.now = omega (arith, c.turns-test.true) in (
      omega (arith, within),
      one_more c.args.proto.now c.args.next.now c.turns.name c.turns.at c.turns.index c.args.refs.now c.turns.sources c.put_turn.new.sources c.index-refs-index.result c.in_ok-later.later within
          c.index-refs-index.is (c.in_ok-later.ensures ∙ ap (λ base. numbered base (c.turns.index + 1)) c.as_slice.ensures) c.in_ok-put_turn.ensures
          ∙ puts,
    )

pub returns : goal.returns
returns c =
    let (le, puts) = c.turns.invariant in
    elim c.if-refs-index-eq2.branch [
      | then-refs-index-eq2+in_ok-put_last_turn w ↦
          w.sources-is
          ∙ w.in_ok-put_last_turn.ensures
          ∙ sym (ap (λ (ps : List Proto). c.turns.sources ++ map unchosen ps)
          (turns-last c.args.proto.now c.args.next.now c.turns.name c.turns.at c.turns.index c.args.refs.now w.index-refs-index-then-refs-index-eq2.result w.index-refs-index-then-refs-index-eq2-2.result
          (omega (arith, w.if-refs-index-eq2.true)) (omega (arith, w.if-refs-index-eq2.true)) w.index-refs-index-then-refs-index-eq2.is w.index-refs-index-then-refs-index-eq2-2.is))
          ∙ puts
      | else-refs-index-eq2 w ↦
          w.sources-is
          ∙ sym (append-nil c.turns.sources)
          ∙ sym (ap (λ (ps : List Proto). c.turns.sources ++ map unchosen ps)
          (turns-none c.args.proto.now c.args.next.now c.turns.name c.turns.at c.turns.index c.args.refs.now (omega (arith, le, c.turns-test.false, w.if-refs-index-eq2.false))))
          ∙ puts
    ]
