use Rattle.std.proofs.Common.{◌≡◌, Some, ap, sym, refl, ⊎_elim, ◌∙◌}
use Rattle.machine_tasks.specs.Reading.{act_in}
use Rattle.machine_tasks.specs.Kinds.{kind_as}
use Rattle.machine_tasks.specs.Kinds as kinds
use Rattle.machine_values.specs.Reading.{halt_of}
use Rattle.known_tasks.specs.Nexts as nexts
use Rattle.known_loads.proofs.Coming.{coming, early, looks}
use Rattle.known_loads.proofs.states.State.next.Goals as goal

pub channel-requires-clause-some : goal.channel-requires-clause-some
channel-requires-clause-some c =
    let program = c.args.program.now in
    let s = c.args.self.now in
    looks (act_in program s.task) kinds.Send nexts.Send c.in-Send.ensures (λ o. refl) c.requires.some.0 (sym (early program s c.if-self.false) ∙ c.requires.some.1)

pub channel-requires-in-Recv-clause-some : goal.channel-requires-in-Recv-clause-some
channel-requires-in-Recv-clause-some c =
    let program = c.args.program.now in
    let s = c.args.self.now in
    looks (act_in program s.task) kinds.Recv nexts.Recv c.in-Recv.ensures (λ o. refl) c.requires.some.0 (sym (early program s c.if-self.false) ∙ c.requires.some.1)

pub returns-in-Silent : goal.returns-in-Silent
returns-in-Silent c =
    let program = c.args.program.now in
    let s = c.args.self.now in
    ⊎_elim (λ is. coming program s kinds.Silent c.if-self.false (sym (ap kind_as is) ∙ c.act.ensures)) (λ t. coming program s (kinds.Print t.0) c.if-self.false (sym (ap kind_as t.1) ∙ c.act.ensures)) c.in-Silent.is

pub returns-in-Halts : goal.returns-in-Halts
returns-in-Halts c = coming c.args.program.now c.args.self.now (kinds.IsHalted (halt_of c.in-Halts.why)) c.if-self.false c.in-Halts.ensures
