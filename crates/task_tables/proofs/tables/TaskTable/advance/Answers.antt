use Rattle.std.proofs.Common.{rules, sym, ◌∙◌, arith}
use Rattle.machine_tasks.specs.Moving.{place_after}
use Rattle.machine_tasks.specs.Reading.{act_in}
use Rattle.machine_tasks.proofs.Places.{on_err}
use Rattle.task_tables.proofs.Putting.{fits_on, fits_still, goes, inside, nothing_there, passes_on, passes_still, stays, written}
use Rattle.task_tables.proofs.tables.TaskTable.advance.Goals as goal

pub index_mut-requires : goal.index_mut-requires
index_mut-requires c =
    let less = inside c.self.inside.names.items c.self.inside.tasks.items c.self.inside.numbers c.self.invariant c.args.self.now c.self.view_is c.args.name.now c.in-Some.number c.in-Some.ensures in
    omega (arith, less, c.self.inside.tasks.ok)

pub advance-requires-clause-fits : goal.advance-requires-clause-fits
advance-requires-clause-fits c =
    let (there, put) = written c.self.inside.names.items c.self.inside.tasks.items c.self.inside.numbers c.self.invariant c.args.self.now c.self.view_is c.args.name.now c.in-Some.number c.in-Some.ensures
    c.index_mut.result.now c.index_mut.result.now c.index_mut.ensures.value in
    (c.requires.fits c.args.name.now c.index_mut.result.now there).1

pub advance-requires-clause-act : goal.advance-requires-clause-act
advance-requires-clause-act c =
    let (there, put) = written c.self.inside.names.items c.self.inside.tasks.items c.self.inside.numbers c.self.invariant c.args.self.now c.self.view_is c.args.name.now c.in-Some.number c.in-Some.ensures
    c.index_mut.result.now c.index_mut.result.now c.index_mut.ensures.value in
    c.requires.act c.index_mut.result.now there

pub returns-in_err-advance-clause-err : goal.returns-in_err-advance-clause-err
returns-in_err-advance-clause-err c =
    let (there, put) = written c.self.inside.names.items c.self.inside.tasks.items c.self.inside.numbers c.self.invariant c.args.self.now c.self.view_is c.args.name.now c.in-Some.number c.in-Some.ensures
    c.index_mut.result.now c.advance.new.self c.index_mut.ensures.value in
    let old = c.index_mut.result.now in
    let new = c.advance.new.self in
    let m = c.args.self.now in
    let p = c.args.name.now in
    on_err c.from_residual.result _ (stays m _ p old new there put c.in_err-advance.ensures.err c.args.program.now)

pub returns-in_err-advance-clause-fits : goal.returns-in_err-advance-clause-fits
returns-in_err-advance-clause-fits c =
    let (there, put) = written c.self.inside.names.items c.self.inside.tasks.items c.self.inside.numbers c.self.invariant c.args.self.now c.self.view_is c.args.name.now c.in-Some.number c.in-Some.ensures
    c.index_mut.result.now c.advance.new.self c.index_mut.ensures.value in
    let old = c.index_mut.result.now in
    let new = c.advance.new.self in
    let m = c.args.self.now in
    let p = c.args.name.now in
    fits_still m _ p old new there put c.in_err-advance.ensures.err c.args.program.now c.requires.fits

pub returns-in_err-advance-clause-ends : goal.returns-in_err-advance-clause-ends
returns-in_err-advance-clause-ends c =
    let (there, put) = written c.self.inside.names.items c.self.inside.tasks.items c.self.inside.numbers c.self.invariant c.args.self.now c.self.view_is c.args.name.now c.in-Some.number c.in-Some.ensures
    c.index_mut.result.now c.advance.new.self c.index_mut.ensures.value in
    let old = c.index_mut.result.now in
    let new = c.advance.new.self in
    let m = c.args.self.now in
    let p = c.args.name.now in
    passes_still m _ p old new there put c.in_err-advance.ensures.err

pub returns-in_ok-advance-clause-ok : goal.returns-in_ok-advance-clause-ok
returns-in_ok-advance-clause-ok c =
    let (there, put) = written c.self.inside.names.items c.self.inside.tasks.items c.self.inside.numbers c.self.invariant c.args.self.now c.self.view_is c.args.name.now c.in-Some.number c.in-Some.ensures
    c.index_mut.result.now c.advance.new.self c.index_mut.ensures.value in
    let old = c.index_mut.result.now in
    let new = c.advance.new.self in
    let m = c.args.self.now in
    let p = c.args.name.now in
    let program = c.args.program.now in
    goes m _ p old new there put program (λ t. place_after (act_in program t)) (λ t. t.forks) c.in_ok-advance.ensures.ok

pub returns-in_ok-advance-clause-fits : goal.returns-in_ok-advance-clause-fits
returns-in_ok-advance-clause-fits c =
    let (there, put) = written c.self.inside.names.items c.self.inside.tasks.items c.self.inside.numbers c.self.invariant c.args.self.now c.self.view_is c.args.name.now c.in-Some.number c.in-Some.ensures
    c.index_mut.result.now c.advance.new.self c.index_mut.ensures.value in
    let old = c.index_mut.result.now in
    let new = c.advance.new.self in
    let m = c.args.self.now in
    let p = c.args.name.now in
    fits_on m _ p old new there put c.args.program.now _ _ c.requires.fits c.in_ok-advance.ensures.ok

pub returns-in_ok-advance-clause-ends : goal.returns-in_ok-advance-clause-ends
returns-in_ok-advance-clause-ends c =
    let (there, put) = written c.self.inside.names.items c.self.inside.tasks.items c.self.inside.numbers c.self.invariant c.args.self.now c.self.view_is c.args.name.now c.in-Some.number c.in-Some.ensures
    c.index_mut.result.now c.advance.new.self c.index_mut.ensures.value in
    let old = c.index_mut.result.now in
    let new = c.advance.new.self in
    let m = c.args.self.now in
    let p = c.args.name.now in
    λ test pass. passes_on m _ p old new there put test pass (c.in_ok-advance.ensures.ends test)

pub returns-in_default-clause-ok : goal.returns-in_default-clause-ok
returns-in_default-clause-ok c = λ t found.
    let gone = nothing_there c.self.inside.names.items c.self.inside.tasks.items c.self.inside.numbers c.self.invariant c.args.self.now c.self.view_is c.args.name.now (search rules) in
    let both = sym gone ∙ found in
    let bad : ⊥ = cc in
    absurd bad
