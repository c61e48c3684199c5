use Rattle.std.proofs.Common.{sym, subst}
use Rattle.known_tasks.specs.Nexts.{Recv}
use Rattle.machine_tasks.specs.Sharing.{IsRecv}
use Rattle.machine_tasks.proofs.Unmoved.{unmoved_fits}
use Rattle.known_loads.proofs.Acts.{recv_act}
use Rattle.known_loads.proofs.Made.{act_still, before}
use Rattle.machine_tasks.specs.Reading.{act_in}
use Rattle.known_loads.proofs.states.State.prepare.Goals as goal

pub slot-requires-clause-fits : goal.slot-requires-clause-fits
slot-requires-clause-fits c = unmoved_fits c.args.program.now c.args.self.now.task c.make_ready.new.self.task c.make_ready.ensures.same.task c.requires.holds.fits

pub slot-requires-clause-act : goal.slot-requires-clause-act
slot-requires-clause-act c =
    let program = c.args.program.now in
    let old = c.args.self.now in
    let name = c.requires.next.0 in
    subst IsRecv (sym (act_still program old.task c.make_ready.new.self.task c.make_ready.ensures.same.task)) (recv_act (act_in program old.task) name (before program old (Recv name) c.requires.holds c.requires.next.1 (λ e. cc)).1).0
