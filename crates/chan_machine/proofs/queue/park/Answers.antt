use Rattle.std.proofs.Common.{ap, sym, ◌∙◌}
use Rattle.chan_machine.specs.Parking.{is_one, seats}
use Rattle.chan_machine.proofs.Parked.{waits-parked-at}
use Rattle.chan_machine.proofs.queue.park.Goals as goal
use Rattle.chan_machine.proofs.queue.park.Goals.{in-Some, in-None}

pub returns : goal.returns
returns c = record {
  waits = waits-parked-at c.args.waiting.now c.remove.new.self c.insert.new.self c.args.channel.now c.in_ok-channel.channel c.args.seat c.match-remove.waiters c.push.new.self c.in_ok-channel.ensures c.remove.ensures.updates c.in_ok-insert.ensures.updates c.in_ok-push.ensures.items
      (λ q. elim c.match-remove.branch [
        | in-Some w ↦ ap (λ v. seats v.items q) w.waiters-is ∙ ap (λ o. is_one o q) (sym w.in-Some.is ∙ c.remove.ensures.value)
        | in-None w ↦ ap (λ v. seats v.items q) w.waiters-is ∙ ap (λ xs. seats xs q) w.new-waiters.ensures.items ∙ ap (λ o. is_one o q) (sym w.in-None.is ∙ c.remove.ensures.value)
      ]);
}
