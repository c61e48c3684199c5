use Rattle.std.proofs.Common.{sym, arith}
use Rattle.outline_contexts.proofs.Names.{place_within}
use Rattle.outline_contexts.proofs.trail.Context.variable.Goals as goal

pub overflow_cast-place : goal.overflow_cast-place
overflow_cast-place c =
    let within = place_within c.self.inside.ints c.args.name.now c.in-Some.place (sym c.in-Some.ensures) in
    omega (arith, within, c.self.invariant.few)
