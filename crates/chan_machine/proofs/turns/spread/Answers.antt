use Rattle.std.proofs.Common.{refl, sym, subst}
use Rattle.machine_rounds.specs.Showing.{Spreads}
use Rattle.chan_machine.specs.declared.events.Event.TheVariants as event
use Rattle.chan_machine.specs.Parking.{waits}
use Rattle.chan_machine.specs.Reading.{event_of}
use Rattle.chan_machine.proofs.Turned.{live, spreads_alone, spreads_at, spreads_fork}
use Rattle.chan_machine.proofs.turns.spread.Goals as goal

pub returns-in_ok-wake-in-Fork : goal.returns-in_ok-wake-in-Fork
returns-in_ok-wake-in-Fork c = λ p movers mover.
    let queue = c.args.queue.now in
    let after = c.wake.new in
    let channel = c.in-Fork.channel in
    subst (λ e. Spreads p (event_of e) (live p movers mover queue.joined) (live p movers mover after.joined) (waits queue.waiting) (waits after.waiting)) (sym c.in-Fork.is)
    (spreads_fork p movers mover c.insert.new.self after.joined queue.waiting after.waiting channel c.in_ok-wake-in-Fork.ensures.waits c.in_ok-wake-in-Fork.ensures.joined
    queue.joined c.in_ok-child-in-Fork.child c.args.number c.in_ok-child-in-Fork.ensures c.in_ok-insert-in-Fork.ensures.updates)

pub returns-in_ok-wake-in-Send : goal.returns-in_ok-wake-in-Send
returns-in_ok-wake-in-Send c = λ p movers mover.
    let queue = c.args.queue.now in
    let after = c.wake-in-Send.new in
    let channel = c.in-Send.channel in
    subst (λ e. Spreads p (event_of e) (live p movers mover queue.joined) (live p movers mover after.joined) (waits queue.waiting) (waits after.waiting)) (sym c.in-Send.is)
    (spreads_at p movers mover queue.joined after.joined queue.waiting after.waiting channel c.in_ok-wake-in-Send.ensures.waits c.in_ok-wake-in-Send.ensures.joined (event_of (event.Send channel)) (λ q. refl) (λ d. refl))

pub returns-in_ok-wake-in-Recv : goal.returns-in_ok-wake-in-Recv
returns-in_ok-wake-in-Recv c = λ p movers mover.
    let queue = c.args.queue.now in
    let after = c.wake-in-Recv.new in
    let channel = c.in-Recv.channel in
    subst (λ e. Spreads p (event_of e) (live p movers mover queue.joined) (live p movers mover after.joined) (waits queue.waiting) (waits after.waiting)) (sym c.in-Recv.is)
    (spreads_at p movers mover queue.joined after.joined queue.waiting after.waiting channel c.in_ok-wake-in-Recv.ensures.waits c.in_ok-wake-in-Recv.ensures.joined (event_of (event.Recv channel)) (λ q. refl) (λ d. refl))

pub returns-in-Silent : goal.returns-in-Silent
returns-in-Silent c = λ p movers mover.
    let queue = c.args.queue.now in
    subst (λ e. Spreads p (event_of e) (live p movers mover queue.joined) (live p movers mover queue.joined) (waits queue.waiting) (waits queue.waiting)) (sym c.in-Silent.is)
    (spreads_alone p movers mover (event_of event.Silent) queue.joined queue.waiting (λ q. refl) (λ d. refl))

pub returns-in-End : goal.returns-in-End
returns-in-End c = λ p movers mover.
    let queue = c.args.queue.now in
    subst (λ e. Spreads p (event_of e) (live p movers mover queue.joined) (live p movers mover queue.joined) (waits queue.waiting) (waits queue.waiting)) (sym c.in-End.is)
    (spreads_alone p movers mover (event_of event.End) queue.joined queue.waiting (λ q. refl) (λ d. refl))

pub returns-in-Print : goal.returns-in-Print
returns-in-Print c = λ p movers mover.
    let queue = c.args.queue.now in
    subst (λ e. Spreads p (event_of e) (live p movers mover queue.joined) (live p movers mover queue.joined) (waits queue.waiting) (waits queue.waiting)) (sym c.in-Print.is)
    (spreads_alone p movers mover (event_of (event.Print c.in-Print.field-0)) queue.joined queue.waiting (λ q. refl) (λ d. refl))
