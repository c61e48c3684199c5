use Rattle.std.proofs.Common.{rules, sym, ◌∙◌, arith}
use Rattle.machine_tasks.specs.Moving.{place_with}
use Rattle.machine_tasks.specs.Steps.{place_in}
use Rattle.machine_values.specs.Reading.{value_as}
use Rattle.task_tables.proofs.Putting.{fits_on, goes, inside, nothing_there, passes_on, written}
use Rattle.task_tables.proofs.tables.TaskTable.accept.Goals as goal

pub index_mut-requires : goal.index_mut-requires
index_mut-requires c =
    let less = inside c.self.inside.names.items c.self.inside.tasks.items c.self.inside.numbers c.self.invariant c.args.self.now c.self.view_is c.args.name.now c.in-Some.number c.in-Some.ensures in
    omega (arith, less, c.self.inside.tasks.ok)

pub accept-requires-clause-room : goal.accept-requires-clause-room
accept-requires-clause-room c =
    let (there, put) = written c.self.inside.names.items c.self.inside.tasks.items c.self.inside.numbers c.self.invariant c.args.self.now c.self.view_is c.args.name.now c.in-Some.number c.in-Some.ensures
    c.index_mut.result.now c.index_mut.result.now c.index_mut.ensures.value in
    c.requires.room c.index_mut.result.now there

pub accept-requires-clause-fits : goal.accept-requires-clause-fits
accept-requires-clause-fits c =
    let (there, put) = written c.self.inside.names.items c.self.inside.tasks.items c.self.inside.numbers c.self.invariant c.args.self.now c.self.view_is c.args.name.now c.in-Some.number c.in-Some.ensures
    c.index_mut.result.now c.index_mut.result.now c.index_mut.ensures.value in
    (c.requires.fits c.args.name.now c.index_mut.result.now there).1

pub returns-in-Some-clause-moves : goal.returns-in-Some-clause-moves
returns-in-Some-clause-moves c =
    let (there, put) = written c.self.inside.names.items c.self.inside.tasks.items c.self.inside.numbers c.self.invariant c.args.self.now c.self.view_is c.args.name.now c.in-Some.number c.in-Some.ensures
    c.index_mut.result.now c.accept.new.self c.index_mut.ensures.value in
    let old = c.index_mut.result.now in
    let new = c.accept.new.self in
    let m = c.args.self.now in
    let p = c.args.name.now in
    let program = c.args.program.now in
    goes m _ p old new there put program (λ t. place_with program.nodes c.args.bind.name (value_as c.args.bind.value) c.args.node (place_in program t)) (λ t. t.forks) c.accept.ensures.goes

pub returns-in-Some-clause-fits : goal.returns-in-Some-clause-fits
returns-in-Some-clause-fits c =
    let (there, put) = written c.self.inside.names.items c.self.inside.tasks.items c.self.inside.numbers c.self.invariant c.args.self.now c.self.view_is c.args.name.now c.in-Some.number c.in-Some.ensures
    c.index_mut.result.now c.accept.new.self c.index_mut.ensures.value in
    let old = c.index_mut.result.now in
    let new = c.accept.new.self in
    let m = c.args.self.now in
    let p = c.args.name.now in
    fits_on m _ p old new there put c.args.program.now _ _ c.requires.fits c.accept.ensures.goes

pub returns-in-Some-clause-ends : goal.returns-in-Some-clause-ends
returns-in-Some-clause-ends c =
    let (there, put) = written c.self.inside.names.items c.self.inside.tasks.items c.self.inside.numbers c.self.invariant c.args.self.now c.self.view_is c.args.name.now c.in-Some.number c.in-Some.ensures
    c.index_mut.result.now c.accept.new.self c.index_mut.ensures.value in
    let old = c.index_mut.result.now in
    let new = c.accept.new.self in
    let m = c.args.self.now in
    let p = c.args.name.now in
    λ test value pass. passes_on m _ p old new there put test pass (c.accept.ensures.ends test value)

pub returns-in_default-clause-moves : goal.returns-in_default-clause-moves
returns-in_default-clause-moves c = λ t found.
    let gone = nothing_there c.self.inside.names.items c.self.inside.tasks.items c.self.inside.numbers c.self.invariant c.args.self.now c.self.view_is c.args.name.now (search rules) in
    let both = sym gone ∙ found in
    let bad : ⊥ = cc in
    absurd bad
