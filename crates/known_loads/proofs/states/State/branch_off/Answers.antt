use Rattle.std.proofs.Common.{refl, rules}
use Rattle.known_loads.proofs.Acts.{parent_made}
use Rattle.known_loads.proofs.Held.{fork_made}
use Rattle.known_loads.proofs.states.State.branch_off.Goals as goal

pub returns : goal.returns
returns c = fork_made c.args.program.now c.args.self.now _ _ c.args.made c.args.channel
    (parent_made c.args.program.now c.args.self.now _ c.requires.holds refl refl refl c.args.made c.args.channel c.requires.next c.requires.made c.requires.channel c.branch-self.ensures.goes c.branch-self.ensures.ends (search rules) (search rules))
    c.requires.made refl refl (search rules) refl (search rules) refl
