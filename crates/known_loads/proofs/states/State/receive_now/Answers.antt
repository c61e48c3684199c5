use Rattle.std.proofs.Common.{refl, rules}
use Rattle.known_loads.proofs.Acts.{receiver_made}
use Rattle.known_loads.proofs.states.State.receive_now.Goals as goal

pub returns : goal.returns
returns c = receiver_made c.args.program.now c.args.self.now _ c.requires.holds refl refl refl c.args.letter c.args.slot c.requires.for_it c.requires.slot c.requires.early c.accept.ensures.goes c.accept.ensures.ends
    (search rules) (search rules)
