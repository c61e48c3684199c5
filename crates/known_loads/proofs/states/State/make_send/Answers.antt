use Rattle.std.proofs.Common.{◌∙◌}
use Rattle.known_loads.proofs.Held.{send_through}
use Rattle.known_loads.proofs.Made.{next_still, unchanged_holds}
use Rattle.known_loads.proofs.states.State.make_send.Goals as goal

pub send_parts-requires-clause-holds : goal.send_parts-requires-clause-holds
send_parts-requires-clause-holds c = unchanged_holds c.args.program.now c.args.self.now c.reserve_note.new.self c.requires.holds c.reserve_note.ensures.same

pub send_parts-requires-clause-next : goal.send_parts-requires-clause-next
send_parts-requires-clause-next c = (c.requires.next.0, next_still c.args.program.now c.args.self.now c.reserve_note.new.self c.requires.holds c.reserve_note.ensures.same ∙ c.requires.next.1)

pub send_off-requires-clause-holds : goal.send_off-requires-clause-holds
send_off-requires-clause-holds c = unchanged_holds c.args.program.now c.args.self.now c.reserve_note.new.self c.requires.holds c.reserve_note.ensures.same

pub send_off-requires-clause-next : goal.send_off-requires-clause-next
send_off-requires-clause-next c = (c.requires.next.0, next_still c.args.program.now c.args.self.now c.reserve_note.new.self c.requires.holds c.reserve_note.ensures.same ∙ c.requires.next.1)

pub returns-clause-ok : goal.returns-clause-ok
returns-clause-ok c = send_through c.args.program.now c.args.self.now c.reserve_note.new.self _ _ c.requires.holds c.reserve_note.ensures.same c.send_off.ensures
