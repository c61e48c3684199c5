use Rattle.worker_waves.proofs.Idling.{one_more}
use Rattle.worker_waves.proofs.joining.add.Goals as goal

pub returns : goal.returns
returns g c =
    rw (c.in_ok-push.ensures.items, c.in_ok-append.ensures.items)
    (one_more (g.B.Bench.idle c.args.bench.now) c.args.all.now.hands.items c.args.all.now.kept.items c.args.hand c.args.kept.items c.requires.all c.requires.hand)
