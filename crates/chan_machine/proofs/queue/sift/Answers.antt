use Rattle.std.proofs.Common.{◌≡◌, ◌++◌, ◌∷◌, ◌||◌, [], List, filter, rules, sym, ap, subst, ◌∙◌}
use Rattle.core_language.specs.Rounds.{moves}
use Rattle.core_programs.specs.Bodies.{program_of}
use Rattle.chan_machine.specs.declared.runs.Seat.{Seat}
use Rattle.chan_machine.specs.Parking.{names_of, seats}
use Rattle.chan_machine.specs.Reading.{config_of}
use Rattle.chan_machine.specs.Turning.{Parked}
use Rattle.chan_machine.proofs.Turned.{sift_begins, sift_step}
use Rattle.chan_machine.proofs.queue.sift.Goals as goal

pub ready-init : goal.ready-init
ready-init c =
    let none : c.new-movers.result.items ≡ [] = c.new-movers.ensures.items in
    let gives : c.into_iter-seat-iterator.result.rest.items ≡ c.args.ready.items = search rules in (
      search rules,
      sift_begins c.args.program.now c.args.run.now (names_of c.into_iter-seat-iterator.result.rest.items) (names_of c.new-movers.result.items) c.args.waiting.now (ap names_of none)
          (subst (λ zs. Parked c.args.program.now c.args.run.now (seats zs) c.args.waiting.now) (sym gives) c.requires.parked),
    )

pub ready-preserved : goal.ready-preserved
ready-preserved c =
    let program = c.args.program.now in
    let run = c.args.run.now in
    let test = moves (program_of program) (config_of program run.config) in
    let rest = c.next.new.self.rest.items in
    let steps : c.ready.seat-iterator.rest.items ≡ c.in-Some.seat ∷ rest = search rules in (
      sift_step test c.in-Some.seat.name (names_of c.ready.movers.items) (names_of c.sort_out.new.movers.items) (names_of rest) (filter test (names_of c.args.ready.items)) c.in_ok-sort_out.ensures.movers
          (ap (λ (zs : List Seat). names_of c.ready.movers.items ++ filter test (names_of zs)) (sym steps) ∙ c.ready.invariant.0),
      c.in_ok-sort_out.ensures.parked (names_of rest)
          (subst (λ zs. Parked program run (λ q. seats zs q || seats c.ready.movers.items q) c.ready.waiting) steps c.ready.invariant.1),
    )
