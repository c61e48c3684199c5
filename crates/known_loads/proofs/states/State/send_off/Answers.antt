use Rattle.std.proofs.Common.{refl, rules}
use Rattle.known_loads.proofs.Acts.{sender_made}
use Rattle.known_loads.proofs.states.State.send_off.Goals as goal

pub returns : goal.returns
returns c = sender_made c.args.program.now c.args.self.now _ c.requires.holds refl refl refl c.args.channel c.args.noted c.args.parcel c.requires.next.0 c.requires.next.1 c.requires.parcel c.requires.channel.0 c.requires.name
    c.go_on.ensures.goes c.go_on.ensures.ends (search rules) (search rules) _ refl refl refl (search rules) c.requires.channel.1
