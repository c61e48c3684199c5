use Rattle.std.proofs.Common.{◌≤◌, length, arith}
use Rattle.core_programs.proofs.Cycles.{cycle_within}
use Rattle.core_programs.proofs.forms.unguarded.Goals as goal

pub unreachable-requires : goal.unreachable-requires
unreachable-requires c =
    let past : length c.args.protos.now ≤ c.args.cycle.now.start = grind (arith, c.in-None.ensures.lookup.0) in
    cycle_within c.args.protos.now c.args.cycle.now.start c.args.cycle.now.way c.requires past
