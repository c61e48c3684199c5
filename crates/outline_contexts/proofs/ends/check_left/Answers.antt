use Rattle.std.proofs.Common.{◌≡◌, ◌<◌, false, ◌&&◌, [], get_or, length, sym, ap, ◌∙◌, arith}
use Rattle.std.proofs.lemmas.List.{drop_more, get_or_read}
use Rattle.outline_language.specs.Nameless.{Unit, has_end}
use Rattle.outline_contexts.proofs.Lefts.{left_later, and_false}
use Rattle.outline_contexts.proofs.ends.check_left.Goals.{else-held-index-via-then-held-index+else-has_end, else-held-index-via-else-held-index}
use Rattle.outline_contexts.proofs.ends.check_left.Goals as goal

pub loop-index-preserved : goal.loop-index-preserved
loop-index-preserved c =
    let i = c.loop-index.index in
    let more : i < length c.args.held.now = omega (arith, c.loop-index-test.true, c.requires.held) in
    let named : i < length c.args.names.now = omega (arith, c.loop-index-test.true, c.requires.names) in
    let none : (get_or c.args.held.now i false && has_end (get_or c.args.shapes.now i Unit)) ≡ false =
    elim c.else-held-index.branch [
      | else-held-index-via-then-held-index+else-has_end w ↦
          ap (λ b. get_or c.args.held.now i false && b)
          (ap has_end (sym (get_or_read c.args.shapes.now i w.index-shapes-index.result c.loop-index-test.true w.index-shapes-index.is Unit)) ∙ sym w.has_end.ensures ∙ w.if-has_end.false)
          ∙ and_false (get_or c.args.held.now i false)
      | else-held-index-via-else-held-index w ↦ ap (λ b. b && has_end (get_or c.args.shapes.now i Unit)) w.if-held-index.false
    ] in
    sym (left_later c.args.held.now c.args.names.now c.args.shapes.now i _ _ _
    (drop_more c.args.held.now i false more) (drop_more c.args.names.now i [] named) (drop_more c.args.shapes.now i Unit c.loop-index-test.true) none)
    ∙ c.loop-index.invariant
