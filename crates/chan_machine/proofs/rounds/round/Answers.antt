use Rattle.std.proofs.Common.{◌≡◌, ◌+◌, suc, sym, ap, subst, ◌∙◌, arith}
use Rattle.std.specs.Ordering.{nat_cmp}
use Rattle.std.specs.Cmp.Lexicographic.{slice_cmp}
use Rattle.std.specs.List.Sorted.{IsStrictlySortedBy}
use Rattle.std.proofs.lemmas.List.Kept.{IsStrictlySortedBy-filter}
use Rattle.core_language.specs.Rounds.{moves, turns, round}
use Rattle.core_programs.specs.Bodies.{program_of}
use Rattle.machine_rounds.proofs.Rounded.{forks_after, forks_before, round_is}
use Rattle.chan_machine.specs.Parking.{is_joined, names_of, seats, waits}
use Rattle.chan_machine.specs.Reading.{config_of}
use Rattle.chan_machine.specs.Turning.{ParkedBut, run_as}
use Rattle.chan_machine.proofs.Begun.{first_off}
use Rattle.chan_machine.proofs.rounds.round.Goals as goal

pub run_turns-requires-clause-ascend : goal.run_turns-requires-clause-ascend
run_turns-requires-clause-ascend c =
    let program = c.args.program.now in
    let test = moves (program_of program) (config_of program c.args.run.now.config) in
    subst (λ xs. IsStrictlySortedBy (slice_cmp nat_cmp) (names_of xs)) (sym c.as_slice.ensures.value)
    (subst (IsStrictlySortedBy (slice_cmp nat_cmp)) (sym c.in_ok-movers.ensures.movers) (IsStrictlySortedBy-filter (slice_cmp nat_cmp) test (names_of c.args.queue.ready.items) c.requires.queue.0))

pub run_turns-requires-clause-forks : goal.run_turns-requires-clause-forks
run_turns-requires-clause-forks c =
    forks_before c.args.before (config_of c.args.program.now c.args.run.now.config).tasks (names_of c.as_slice.result.now) c.requires.forks

pub run_turns-requires-clause-parked : goal.run_turns-requires-clause-parked
run_turns-requires-clause-parked c =
    subst (λ xs. ParkedBut c.args.program.now c.args.run.now (names_of xs) (record { joined = c.new.result; waiting = c.sift.new.waiting })) (sym c.as_slice.ensures.value)
    (λ q dead. c.in_ok-movers.ensures.parked q (first_off (seats c.in_ok-movers.movers.items q) (is_joined c.new.result q) dead))

pub gather-requires : goal.gather-requires
gather-requires c =
    let program = c.args.program.now in
    let test = moves (program_of program) (config_of program c.args.run.now.config) in
    subst (IsStrictlySortedBy (slice_cmp nat_cmp)) (sym c.in_ok-movers.ensures.movers) (IsStrictlySortedBy-filter (slice_cmp nat_cmp) test (names_of c.args.queue.ready.items) c.requires.queue.0)

pub returns-clause-round : goal.returns-clause-round
returns-clause-round c =
    let program = c.args.program.now in
    let run = run_as program c.args.run.now in
    let next : c.args.before + 1 ≡ suc c.args.before = omega arith in
    c.in_ok-run_turns.ensures.turns ∙ ap (λ xs. turns (program_of program) (c.args.before + 1) run (names_of xs)) c.as_slice.ensures.value
    ∙ ap (turns (program_of program) (c.args.before + 1) run) c.in_ok-movers.ensures.movers
    ∙ round_is (program_of program) (c.args.before + 1) run (names_of c.args.queue.ready.items) (waits c.args.queue.waiting) c.requires.queue.0 c.requires.queue.1
    ∙ ap (λ t. round (program_of program) t run) next

pub returns-clause-queue : goal.returns-clause-queue
returns-clause-queue c =
    let program = c.args.program.now in
    let after = c.run_turns.new.queue in
    let parked = subst (λ xs. ParkedBut program c.run_turns.new.run (names_of xs) after) c.as_slice.ensures.value c.in_ok-run_turns.ensures.parked in (
      c.in_ok-ready.ensures.ascend,
      λ q dead. parked q (sym (c.in_ok-ready.ensures.all q) ∙ dead),
    )

pub returns-clause-forks : goal.returns-clause-forks
returns-clause-forks c = forks_after c.args.before (config_of c.args.program.now c.run_turns.new.run.config).tasks c.in_ok-run_turns.ensures.forks
