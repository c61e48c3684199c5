use Rattle.std.proofs.Common.{◌≤◌, length, arith}
use Rattle.protocol_guard.proofs.Tables.{nothing_at}
use Rattle.protocol_guard.proofs.guarding.add_name_of.Goals as goal

pub returns-in-None : goal.returns-in-None
returns-in-None c =
    let long : length c.args.protos.now ≤ c.args.place = grind (arith, c.in-None.ensures.lookup.0) in
    nothing_at c.args.protos.now c.args.place c.args.names.now long
