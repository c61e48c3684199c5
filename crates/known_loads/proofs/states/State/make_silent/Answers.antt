use Rattle.std.proofs.Common.{◌∙◌}
use Rattle.std.proofs.lemmas.Result.{on_ok_weaker}
use Rattle.known_tasks.specs.Calls.{after_silent}
use Rattle.known_loads.specs.Following.{no_news}
use Rattle.known_loads.proofs.Made.{made_through, next_still, unchanged_holds}
use Rattle.known_loads.proofs.states.State.make_silent.Goals as goal

pub try_silent-requires-clause-holds : goal.try_silent-requires-clause-holds
try_silent-requires-clause-holds c = unchanged_holds c.args.program.now c.args.self.now c.reserve_note.new.self c.requires.holds c.reserve_note.ensures.same

pub try_silent-requires-clause-next : goal.try_silent-requires-clause-next
try_silent-requires-clause-next c = next_still c.args.program.now c.args.self.now c.reserve_note.new.self c.requires.holds c.reserve_note.ensures.same ∙ c.requires.next

pub returns-clause-ok : goal.returns-clause-ok
returns-clause-ok c = on_ok_weaker c.try_silent.result (λ is. made_through c.args.program.now c.args.self.now c.reserve_note.new.self c.try_silent.new.self after_silent no_news c.requires.holds c.reserve_note.ensures.same is) c.try_silent.ensures.ok
