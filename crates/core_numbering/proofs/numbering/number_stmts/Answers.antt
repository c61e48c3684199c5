use Rattle.std.proofs.Common.{◌≡◌, ◌∷◌, [], ◌+◌, ◌-◌, drop, sym, subst, arith}
use Rattle.core_numbering.specs.Numbering.{StmtsAt}
use Rattle.core_numbering.specs.Rooted.{Adds}
use Rattle.core_numbering.proofs.Grown.{added_before, names_next, stmts_before}
use Rattle.core_numbering.proofs.numbering.number_stmts.Goals as goal

pub loop-left-preserved : goal.loop-left-preserved
loop-left-preserved c =
    let (le, adds, at) = c.loop-left.invariant in
    let lt = c.loop-left-test.true in
    let left : c.loop-left.left - 1 + 1 ≡ c.loop-left.left = omega (arith, lt) in
    let names = names_next c.index-stmts-left.result c.loop-left.next c.in_ok-node.node c.in_ok-node.ensures in
    let grown = added_before c.args.nodes.now c.loop-left.nodes c.push_node.new.nodes (c.args.last ∷ []) c.loop-left.next c.in_ok-number.number c.in_ok-node.node adds c.in_ok-number.ensures.number c.in_ok-number.ensures.added c.in_ok-number.ensures.few names in
    let stood = stmts_before c.loop-left.nodes c.push_node.new.nodes c.args.stmts.now (c.loop-left.left - 1) c.index-stmts-left.result c.in_ok-node.node c.loop-left.next c.args.last
    (omega (arith, le, lt)) c.index-stmts-left.is c.in_ok-node.ensures c.in_ok-number.ensures.added
    (subst (λ k. StmtsAt c.loop-left.nodes (drop k c.args.stmts.now) c.loop-left.next c.args.last) (sym left) at) in (
      omega (arith, le),
      subst (Adds c.args.nodes.now c.push_node.new.nodes (c.args.last ∷ [])) (sym c.in_ok-number.ensures.number) grown,
      subst (λ n. StmtsAt c.push_node.new.nodes (drop (c.loop-left.left - 1) c.args.stmts.now) n c.args.last) (sym c.in_ok-number.ensures.number) stood,
    )
