use Rattle.std.proofs.Common.{ap, sym, ◌∙◌, arith}
use Rattle.task_tables.proofs.Indexed.{number_in}
use Rattle.task_tables.proofs.Putting.{inside, nothing_there, put_there}
use Rattle.task_tables.proofs.tables.TaskTable.put.Goals as goal

pub index_mut-requires : goal.index_mut-requires
index_mut-requires c =
    let less = inside c.self.inside.names.items c.self.inside.tasks.items c.self.inside.numbers c.self.invariant c.args.self.now c.self.view_is c.args.task.name c.in-Some.number.now (c.in-Some.ensures.value ∙ ap (number_in c.self.inside.numbers) c.name.ensures) in
    omega (arith, less, c.self.inside.tasks.ok)

pub add-requires : goal.add-requires
add-requires c = nothing_there c.self.inside.names.items c.self.inside.tasks.items c.self.inside.numbers c.self.invariant c.args.self.now c.self.view_is c.args.task.name (c.in-None.ensures.value ∙ ap (number_in c.self.inside.numbers) c.name.ensures)

pub returns-in-Some-clause-ok : goal.returns-in-Some-clause-ok
returns-in-Some-clause-ok c = put_there c.self.inside.names.items c.self.inside.tasks.items c.self.inside.numbers c.self.invariant c.args.self.now c.self.view_is c.args.task.name c.in-Some.number.now (c.in-Some.ensures.value ∙ ap (number_in c.self.inside.numbers) c.name.ensures) c.args.task
