use Rattle.std.proofs.Common.{refl}
use Rattle.known_loads.proofs.Acts.{late_made}
use Rattle.known_loads.proofs.states.State.keep_late.Goals as goal

pub returns : goal.returns
returns c = late_made c.args.program.now c.args.self.now _ c.requires.holds refl refl c.args.letter c.requires.for_it c.requires.late refl refl refl refl
