use Rattle.std.proofs.Common.{◌≡◌, suc, ◌-◌, drop, sym, subst, arith}
use Rattle.core_programs.specs.Formed.{nexts}
use Rattle.core_programs.specs.Uses.{StandBefore}
use Rattle.core_programs.proofs.Turns.{stands_more}
use Rattle.core_programs.proofs.starts.start_of.Goals as goal

pub turns-preserved : goal.turns-preserved
turns-preserved c =
    let ns = nexts c.args.node.now in
    let back : c.turns.turn ≡ suc (c.turns.turn - 1) = omega (arith, c.turns-test.true) in
    stands_more c.args.starts.now ns (c.turns.turn - 1) c.in-Some.next c.args.number c.turns.start c.in-Some-start_before.before (sym c.in-Some.ensures) c.in-Some-start_before.ensures.0 c.in-Some-start_before.ensures.1
    (subst (λ k. StandBefore c.args.starts.now (drop k ns) c.args.number c.turns.start) back c.turns.invariant)
