use Rattle.std.proofs.Common.{◌≡◌, false, nat_eq, min, length, refl, sym, ◌∙◌, arith}
use Rattle.std.proofs.lemmas.Bool.Decides.{nat_tests}
use Rattle.outline_language.specs.Contexts.{equate_all}
use Rattle.outline_obligations.specs.Cursors.{cursor_at}
use Rattle.outline_contexts.specs.Trails.{context_in}
use Rattle.value_supplies.proofs.Uneven.{one_ends_first}
use Rattle.value_supplies.proofs.equalities.equate_all.Goals as goal

pub returns-then-left-right-clause-err : goal.returns-then-left-right-clause-err
returns-then-left-right-clause-err c =
    let apart : nat_eq (length c.args.left.now) (length c.args.right.now) ≡ false = grind (arith, nat_tests, c.if-left-right.true) in
    let end : c.loop-index.index ≡ min (length c.args.left.now) (length c.args.right.now) = omega (arith, c.loop-index-test.false, c.loop-index.auto.index-end, c.min-index-end.ensures) in
    sym c.loop-index.invariant
    ∙ one_ends_first (λ xs ys. equate_all (context_in c.args.ctx.now) xs ys (cursor_at c.args.proof.now c.loop-index.now)) (λ x xs. refl) (λ y ys. refl) c.args.left.now c.args.right.now c.loop-index.index apart end
