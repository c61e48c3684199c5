use Rattle.std.proofs.Common.{◌≡◌, ◌||◌}
use Rattle.core_language.specs.Names.{Name}
use Rattle.chan_machine.specs.Parking.{is_joined, seats}
use Rattle.chan_machine.proofs.queue.join_all.Given as goal

abbrev pub invariant-joining : goal.invariant-joining
invariant-joining l = (q : Name) → (is_joined l.joined q || seats l.seat-iterator.rest.items q) ≡ (is_joined l.fn.joined q || seats l.fn.joining.items q)
