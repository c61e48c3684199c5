use Rattle.std.proofs.Common.{◌≡◌, ◌≤◌, ◌∷◌, ◌+◌, drop, length, rules, sym, ap, subst, ◌∙◌}
use Rattle.std.specs.Ordering.{nat_cmp}
use Rattle.std.specs.Cmp.Lexicographic.{slice_cmp}
use Rattle.std.specs.List.Sorted.{IsStrictlySortedBy}
use Rattle.std.proofs.lemmas.List.{drop_all, drop_more}
use Rattle.core_language.specs.Rounds.{turns}
use Rattle.core_programs.specs.Bodies.{program_of}
use Rattle.machine_rounds.specs.Showing.{ForksWithin}
use Rattle.machine_rounds.proofs.Rounded.{first_is_least, rest_ascends}
use Rattle.chan_machine.specs.declared.runs.Seat.{Seat}
use Rattle.chan_machine.specs.Parking.{names_of}
use Rattle.chan_machine.specs.Reading.{config_of}
use Rattle.chan_machine.specs.Turning.{run_as}
use Rattle.chan_machine.proofs.Parked.{among}
use Rattle.chan_machine.proofs.Turned.{forks_at}
use Rattle.chan_machine.proofs.turns.run_turns.Goals as goal

pub turn-requires-clause-forks : goal.turn-requires-clause-forks
turn-requires-clause-forks c =
    let program = c.args.program.now in
    let run = c.movers.run in
    let seats = c.args.movers.now in
    let i = c.movers.mover-index in
    let s = c.mover-item.result in
    let later = drop (i + 1) seats in
    let steps : drop i seats ≡ s ∷ later = drop_more seats i s c.movers-test.true ∙ ap (λ (x : Seat). x ∷ later) (sym c.mover-item.is) in
    forks_at program run.config c.args.before s.name (names_of later) c.requires.before
    (subst (λ xs. ForksWithin c.args.before (config_of program run.config).tasks (names_of xs)) steps c.movers.invariant.2)

pub movers-preserved : goal.movers-preserved
movers-preserved c =
    let program = c.args.program.now in
    let run = c.movers.run in
    let seats = c.args.movers.now in
    let i = c.movers.mover-index in
    let s = c.mover-item.result in
    let later = drop (i + 1) seats in
    let steps : drop i seats ≡ s ∷ later = drop_more seats i s c.movers-test.true ∙ ap (λ (x : Seat). x ∷ later) (sym c.mover-item.is) in
    let time = c.args.before + 1 in
    let sorted = subst (λ xs. IsStrictlySortedBy (slice_cmp nat_cmp) (names_of xs)) steps c.movers.invariant.3 in (
      ap (λ r. turns (program_of program) time r (names_of later)) c.in_ok-turn.ensures.turn ∙ ap (λ xs. turns (program_of program) time (run_as program run) (names_of xs)) (sym steps) ∙ c.movers.invariant.0,
      c.in_ok-turn.ensures.parked (names_of seats) (among i seats s later steps) c.movers.invariant.1,
      c.in_ok-turn.ensures.forks c.args.before (names_of later) (first_is_least s.name (names_of later) sorted)
          (subst (λ xs. ForksWithin c.args.before (config_of program run.config).tasks (names_of xs)) steps c.movers.invariant.2),
      rest_ascends s.name (names_of later) sorted,
      c.in_ok-turn.ensures.fits,
      λ cells. c.in_ok-turn.ensures.cells (c.movers.invariant.5 cells),
    )

pub returns-clause-turns : goal.returns-clause-turns
returns-clause-turns c =
    let program = c.args.program.now in
    let seats = c.args.movers.now in
    let i = c.movers.mover-index in
    let over : length seats ≤ i = search rules in
    ap (λ xs. turns (program_of program) (c.args.before + 1) (run_as program c.movers.run) (names_of xs)) (sym (drop_all i seats over)) ∙ c.movers.invariant.0

pub returns-clause-forks : goal.returns-clause-forks
returns-clause-forks c =
    let program = c.args.program.now in
    let seats = c.args.movers.now in
    let i = c.movers.mover-index in
    let over : length seats ≤ i = search rules in
    subst (λ xs. ForksWithin c.args.before (config_of program c.movers.run.config).tasks (names_of xs)) (drop_all i seats over) c.movers.invariant.2
