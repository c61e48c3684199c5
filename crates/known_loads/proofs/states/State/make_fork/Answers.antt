use Rattle.std.proofs.Common.{subst, ◌∙◌}
use Rattle.chan_base.specs.declared.Number.{Number}
use Rattle.known_loads.specs.Following.{MakesFork}
use Rattle.known_loads.proofs.Held.{fork_through}
use Rattle.known_loads.proofs.Made.{next_still, unchanged_holds}
use Rattle.known_loads.proofs.states.State.make_fork.Goals as goal

pub fork_parts-requires-clause-holds : goal.fork_parts-requires-clause-holds
fork_parts-requires-clause-holds c = unchanged_holds c.args.program.now c.args.self.now c.make_ready.new.self c.requires.holds c.make_ready.ensures.same

pub fork_parts-requires-clause-next : goal.fork_parts-requires-clause-next
fork_parts-requires-clause-next c = next_still c.args.program.now c.args.self.now c.make_ready.new.self c.requires.holds c.make_ready.ensures.same ∙ c.requires.next

pub branch_off-requires-clause-holds : goal.branch_off-requires-clause-holds
branch_off-requires-clause-holds c = unchanged_holds c.args.program.now c.args.self.now c.make_ready.new.self c.requires.holds c.make_ready.ensures.same

pub branch_off-requires-clause-next : goal.branch_off-requires-clause-next
branch_off-requires-clause-next c = next_still c.args.program.now c.args.self.now c.make_ready.new.self c.requires.holds c.make_ready.ensures.same ∙ c.requires.next

pub returns-clause-ok : goal.returns-clause-ok
returns-clause-ok c =
    let program = c.args.program.now in
    let mid = c.make_ready.new.self in
    fork_through program c.args.self.now mid c.branch_off.new.self c.args.cell.0 c.branch_off.result c.requires.holds c.make_ready.ensures.same
    (subst (λ (n : Number). MakesFork program mid c.branch_off.new.self n.0 c.branch_off.result) c.in_ok-made.ensures.channel.1 c.branch_off.ensures)
