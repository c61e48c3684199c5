use Rattle.std.proofs.Common.{◌≡◌, ◌++◌, map}
use Rattle.chan_machine.proofs.configurations.Config.channels.Given as goal

abbrev pub invariant-channels : goal.invariant-channels
invariant-channels l = l.names ++ map (λ e. e.0) l.name-iterator ≡ map (λ e. e.0) l.fn.self.channels.entries
