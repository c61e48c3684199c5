use Rattle.std.proofs.Common.{rules, sym, arith}
use Rattle.task_tables.proofs.Putting.{inside, nothing_there, written}
use Rattle.task_tables.proofs.tables.TaskTable.get.Goals as goal

pub index-requires : goal.index-requires
index-requires c =
    let less = inside c.self.inside.names.items c.self.inside.tasks.items c.self.inside.numbers c.self.invariant c.args.self.now c.self.view_is c.args.name.now c.in-Some.number c.in-Some.ensures in
    omega (arith, less, c.self.inside.tasks.ok)

pub returns-in-Some : goal.returns-in-Some
returns-in-Some c =
    sym (written c.self.inside.names.items c.self.inside.tasks.items c.self.inside.numbers c.self.invariant c.args.self.now c.self.view_is c.args.name.now c.in-Some.number c.in-Some.ensures c.index.result.now c.index.result.now (search rules)).0

pub returns-in-None : goal.returns-in-None
returns-in-None c = sym (nothing_there c.self.inside.names.items c.self.inside.tasks.items c.self.inside.numbers c.self.invariant c.args.self.now c.self.view_is c.args.name.now c.in-None.ensures)
