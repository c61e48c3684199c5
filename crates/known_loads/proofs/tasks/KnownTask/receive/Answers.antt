use Rattle.known_loads.proofs.Made.{unchanged_holds}
use Rattle.known_loads.proofs.Views.{for_mid, receive_holds, receives_as}
use Rattle.known_loads.proofs.tasks.KnownTask.receive.Goals as goal

pub make_receive-requires-clause-holds : goal.make_receive-requires-clause-holds
make_receive-requires-clause-holds c = unchanged_holds c.self.inside.program.now c.self.inside.state c.prepare.new.self c.self.invariant c.prepare.ensures.same

pub make_receive-requires-clause-for_it : goal.make_receive-requires-clause-for_it
make_receive-requires-clause-for_it c =
    for_mid c.self.inside.program.now c.parcel.inside.program.now c.self.inside.state c.prepare.new.self c.prepare.new.self c.parcel.inside.letter c.args.self c.args.parcel c.self.view_is c.parcel.view_is c.self.invariant c.requires
    c.prepare.ensures.same

pub invariant_of-result : goal.invariant_of-result
invariant_of-result c =
    receive_holds c.self.inside.program.now c.parcel.inside.program.now c.self.inside.state c.prepare.new.self c.make_receive.new.self c.parcel.inside.letter c.args.self c.args.parcel c.self.view_is c.parcel.view_is c.self.invariant c.requires
    c.prepare.ensures.same c.parcel.invariant c.make_receive.ensures

pub invariant_of-result-in-Err : goal.invariant_of-result-in-Err
invariant_of-result-in-Err c = unchanged_holds c.self.inside.program.now c.self.inside.state c.prepare.new.self c.self.invariant c.prepare.ensures.same

pub returns-in-Ok-clause-ok : goal.returns-in-Ok-clause-ok
returns-in-Ok-clause-ok c =
    receives_as c.self.inside.program.now c.parcel.inside.program.now c.self.inside.state c.prepare.new.self c.make_receive.new.self c.parcel.inside.letter c.args.self c.args.parcel c.self.view_is c.parcel.view_is c.self.invariant c.requires
    c.prepare.ensures.same c.make_receive.ensures
