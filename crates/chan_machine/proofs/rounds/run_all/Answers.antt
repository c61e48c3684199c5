use Rattle.std.proofs.Common.{◌≡◌, ◌+◌, ◌≤◌, suc, rules, ap, subst, ◌∙◌, arith}
use Rattle.core_language.specs.Rounds.{run_of}
use Rattle.core_programs.specs.Bodies.{program_of}
use Rattle.machine_rounds.specs.Showing.{ForksUpTo}
use Rattle.chan_machine.specs.Reading.{config_of}
use Rattle.chan_machine.specs.Turning.{run_as}
use Rattle.chan_machine.proofs.Begun.{at_last, at_rest, next_run, no_seats}
use Rattle.chan_machine.proofs.rounds.run_all.Goals as goal
use Rattle.chan_machine.proofs.rounds.run_all.Goals.{then-rounds-test+else-not-is_empty, else-rounds-test}

pub rounds-preserved : goal.rounds-preserved
rounds-preserved c =
    let program = c.args.program.now in
    let t = c.rounds.time in
    let next : suc t ≡ t + 1 = omega arith in
    let within : t + 1 ≤ c.args.rounds = search rules in (
      c.in_ok-queue.ensures.round ∙ next_run (program_of program) t (run_as program c.rounds.run) c.rounds.invariant.0 ∙ ap (run_of (program_of program)) next,
      within,
      c.in_ok-queue.ensures.queue,
      subst (λ n. ForksUpTo n (config_of program c.round.new.run.config).tasks) next c.in_ok-queue.ensures.forks,
      c.in_ok-queue.ensures.fits,
      λ cells. c.in_ok-queue.ensures.cells (c.rounds.invariant.5 cells),
    )

pub returns-clause-run : goal.returns-clause-run
returns-clause-run c =
    let program = c.args.program.now in
    let run = c.rounds.run in
    let t = c.rounds.time in
    let within : t ≤ c.args.rounds = c.rounds.invariant.1 in
    elim c.rounds-test.branch [
      | then-rounds-test+else-not-is_empty w ↦ at_rest program t c.args.rounds run c.rounds.queue within c.rounds.invariant.0 (no_seats c.rounds.queue.ready.items (search rules)) c.rounds.invariant.2.1
      | else-rounds-test w ↦ let last : t ≡ c.args.rounds = search rules in at_last (program_of program) t c.args.rounds (run_as program run) last c.rounds.invariant.0
    ]
