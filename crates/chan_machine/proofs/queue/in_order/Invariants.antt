use Rattle.std.proofs.Common.{◌≡◌, ◌++◌, map}
use Rattle.chan_machine.specs.Parking.{names_of}
use Rattle.chan_machine.proofs.queue.in_order.Given as goal

abbrev pub invariant-joined : goal.invariant-joined
invariant-joined l = names_of l.ready.items ++ map (λ e. e.0) l.name-iterator ≡ map (λ e. e.0) l.fn.joined.entries
