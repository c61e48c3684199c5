use Rattle.std.proofs.Common.{rules, sym, ap, ◌∙◌, arith}
use Rattle.std.specs.FinMap.{get}
use Rattle.task_tables.proofs.Putting.{fits_still, forks_still, has_room, inside, nothing_there, passes_still, stays, written}
use Rattle.task_tables.proofs.tables.TaskTable.make_room.Goals as goal

pub index_mut-requires : goal.index_mut-requires
index_mut-requires c =
    let less = inside c.self.inside.names.items c.self.inside.tasks.items c.self.inside.numbers c.self.invariant c.args.self.now c.self.view_is c.args.name.now c.in-Some.number c.in-Some.ensures in
    omega (arith, less, c.self.inside.tasks.ok)

pub returns-in_err-make_room-clause-same : goal.returns-in_err-make_room-clause-same
returns-in_err-make_room-clause-same c =
    let (there, put) = written c.self.inside.names.items c.self.inside.tasks.items c.self.inside.numbers c.self.invariant c.args.self.now c.self.view_is c.args.name.now c.in-Some.number c.in-Some.ensures
    c.index_mut.result.now c.make_room.new.self c.index_mut.ensures.value in
    let old = c.index_mut.result.now in
    let new = c.make_room.new.self in
    let m = c.args.self.now in
    let p = c.args.name.now in
    stays m _ p old new there put c.make_room.ensures.same

pub returns-in_err-make_room-clause-forks : goal.returns-in_err-make_room-clause-forks
returns-in_err-make_room-clause-forks c =
    let (there, put) = written c.self.inside.names.items c.self.inside.tasks.items c.self.inside.numbers c.self.invariant c.args.self.now c.self.view_is c.args.name.now c.in-Some.number c.in-Some.ensures
    c.index_mut.result.now c.make_room.new.self c.index_mut.ensures.value in
    let old = c.index_mut.result.now in
    let new = c.make_room.new.self in
    let m = c.args.self.now in
    let p = c.args.name.now in
    forks_still m _ p old new there put c.make_room.ensures.same

pub returns-in_err-make_room-clause-fits : goal.returns-in_err-make_room-clause-fits
returns-in_err-make_room-clause-fits c =
    let (there, put) = written c.self.inside.names.items c.self.inside.tasks.items c.self.inside.numbers c.self.invariant c.args.self.now c.self.view_is c.args.name.now c.in-Some.number c.in-Some.ensures
    c.index_mut.result.now c.make_room.new.self c.index_mut.ensures.value in
    let old = c.index_mut.result.now in
    let new = c.make_room.new.self in
    let m = c.args.self.now in
    let p = c.args.name.now in
    fits_still m _ p old new there put c.make_room.ensures.same

pub returns-in_err-make_room-clause-ends : goal.returns-in_err-make_room-clause-ends
returns-in_err-make_room-clause-ends c =
    let (there, put) = written c.self.inside.names.items c.self.inside.tasks.items c.self.inside.numbers c.self.invariant c.args.self.now c.self.view_is c.args.name.now c.in-Some.number c.in-Some.ensures
    c.index_mut.result.now c.make_room.new.self c.index_mut.ensures.value in
    let old = c.index_mut.result.now in
    let new = c.make_room.new.self in
    let m = c.args.self.now in
    let p = c.args.name.now in
    passes_still m _ p old new there put c.make_room.ensures.same

pub returns-in_ok-make_room-clause-same : goal.returns-in_ok-make_room-clause-same
returns-in_ok-make_room-clause-same c =
    let (there, put) = written c.self.inside.names.items c.self.inside.tasks.items c.self.inside.numbers c.self.invariant c.args.self.now c.self.view_is c.args.name.now c.in-Some.number c.in-Some.ensures
    c.index_mut.result.now c.make_room.new.self c.index_mut.ensures.value in
    let old = c.index_mut.result.now in
    let new = c.make_room.new.self in
    let m = c.args.self.now in
    let p = c.args.name.now in
    stays m _ p old new there put c.make_room.ensures.same

pub returns-in_ok-make_room-clause-forks : goal.returns-in_ok-make_room-clause-forks
returns-in_ok-make_room-clause-forks c =
    let (there, put) = written c.self.inside.names.items c.self.inside.tasks.items c.self.inside.numbers c.self.invariant c.args.self.now c.self.view_is c.args.name.now c.in-Some.number c.in-Some.ensures
    c.index_mut.result.now c.make_room.new.self c.index_mut.ensures.value in
    let old = c.index_mut.result.now in
    let new = c.make_room.new.self in
    let m = c.args.self.now in
    let p = c.args.name.now in
    forks_still m _ p old new there put c.make_room.ensures.same

pub returns-in_ok-make_room-clause-fits : goal.returns-in_ok-make_room-clause-fits
returns-in_ok-make_room-clause-fits c =
    let (there, put) = written c.self.inside.names.items c.self.inside.tasks.items c.self.inside.numbers c.self.invariant c.args.self.now c.self.view_is c.args.name.now c.in-Some.number c.in-Some.ensures
    c.index_mut.result.now c.make_room.new.self c.index_mut.ensures.value in
    let old = c.index_mut.result.now in
    let new = c.make_room.new.self in
    let m = c.args.self.now in
    let p = c.args.name.now in
    fits_still m _ p old new there put c.make_room.ensures.same

pub returns-in_ok-make_room-clause-ends : goal.returns-in_ok-make_room-clause-ends
returns-in_ok-make_room-clause-ends c =
    let (there, put) = written c.self.inside.names.items c.self.inside.tasks.items c.self.inside.numbers c.self.invariant c.args.self.now c.self.view_is c.args.name.now c.in-Some.number c.in-Some.ensures
    c.index_mut.result.now c.make_room.new.self c.index_mut.ensures.value in
    let old = c.index_mut.result.now in
    let new = c.make_room.new.self in
    let m = c.args.self.now in
    let p = c.args.name.now in
    passes_still m _ p old new there put c.make_room.ensures.same

pub returns-in_ok-make_room-clause-room : goal.returns-in_ok-make_room-clause-room
returns-in_ok-make_room-clause-room c =
    let (there, put) = written c.self.inside.names.items c.self.inside.tasks.items c.self.inside.numbers c.self.invariant c.args.self.now c.self.view_is c.args.name.now c.in-Some.number c.in-Some.ensures
    c.index_mut.result.now c.make_room.new.self c.index_mut.ensures.value in
    let old = c.index_mut.result.now in
    let new = c.make_room.new.self in
    let m = c.args.self.now in
    let p = c.args.name.now in
    has_room m _ p old new there put c.in_ok-make_room.ensures.room

pub returns-in_default-clause-room : goal.returns-in_default-clause-room
returns-in_default-clause-room c =
    let gone = nothing_there c.self.inside.names.items c.self.inside.tasks.items c.self.inside.numbers c.self.invariant c.args.self.now c.self.view_is c.args.name.now (search rules) in
    λ t found. let both = sym gone ∙ found in let bad : ⊥ = cc in absurd bad
