use Rattle.std.proofs.Common.{◌∙◌}
use Rattle.std.proofs.lemmas.Result.{on_ok_weaker}
use Rattle.known_tasks.specs.Calls.{after_finish}
use Rattle.known_loads.specs.Following.{no_news}
use Rattle.known_loads.proofs.Made.{made_through, next_still, unchanged_holds}
use Rattle.known_loads.proofs.states.State.make_end.Goals as goal

pub try_end-requires-clause-holds : goal.try_end-requires-clause-holds
try_end-requires-clause-holds c = unchanged_holds c.args.program.now c.args.self.now c.reserve_note.new.self c.requires.holds c.reserve_note.ensures.same

pub try_end-requires-clause-next : goal.try_end-requires-clause-next
try_end-requires-clause-next c = next_still c.args.program.now c.args.self.now c.reserve_note.new.self c.requires.holds c.reserve_note.ensures.same ∙ c.requires.next

pub returns-clause-ok : goal.returns-clause-ok
returns-clause-ok c = on_ok_weaker c.try_end.result (λ is. made_through c.args.program.now c.args.self.now c.reserve_note.new.self c.try_end.new.self after_finish no_news c.requires.holds c.reserve_note.ensures.same is) c.try_end.ensures.ok
