use Rattle.std.proofs.Common.{ap, sym, ◌∙◌}
use Rattle.core_language.specs.Endings.{moving}
use Rattle.core_language.specs.Rounds.{movers}
use Rattle.core_programs.specs.Bodies.{program_of}
use Rattle.chan_machine.specs.Faulting.{or_else}
use Rattle.chan_machine.specs.Reading.{config_of}
use Rattle.chan_machine.proofs.Ended.{finished, unfinished, some_moves, none_moves}
use Rattle.chan_machine.proofs.endings.ending.Goals as goal

pub returns-then-are_none : goal.returns-then-are_none
returns-then-are_none c =
    sym (finished (program_of c.args.program.now) (config_of c.args.program.now c.args.config.now) c.in_ok-waiting.waiting c.in_ok-channels.channels c.in_ok-waiting.ensures (c.in_ok-channels.ensures c.args.program.now)
    (sym c.are_none.ensures ∙ c.if-are_none.true))

pub returns-in-Some : goal.returns-in-Some
returns-in-Some c =
    let program = program_of c.args.program.now in
    let C = config_of c.args.program.now c.args.config.now in
    let other = moving C (movers program C) in
    sym (ap (λ o. or_else o other) c.in-Some.is) ∙ sym (c.in_ok-ending.ensures other)
    ∙ unfinished program C c.in_ok-waiting.waiting c.in_ok-channels.channels c.in_ok-names.names c.in_ok-waiting.ensures (c.in_ok-channels.ensures c.args.program.now) (c.in_ok-names.ensures c.args.program.now)
    (sym c.are_none.ensures ∙ c.if-are_none.false)

pub returns-then-any_moves : goal.returns-then-any_moves
returns-then-any_moves c =
    let program = program_of c.args.program.now in
    let C = config_of c.args.program.now c.args.config.now in
    let other = moving C (movers program C) in
    sym (some_moves program C c.in_ok-names.names (c.in_ok-names.ensures c.args.program.now) (sym c.any_moves.ensures ∙ c.if-any_moves.true))
    ∙ sym (ap (λ o. or_else o other) c.in_default.is) ∙ sym (c.in_ok-ending.ensures other)
    ∙ unfinished program C c.in_ok-waiting.waiting c.in_ok-channels.channels c.in_ok-names.names c.in_ok-waiting.ensures (c.in_ok-channels.ensures c.args.program.now) (c.in_ok-names.ensures c.args.program.now)
    (sym c.are_none.ensures ∙ c.if-are_none.false)

pub returns : goal.returns
returns c =
    let program = program_of c.args.program.now in
    let C = config_of c.args.program.now c.args.config.now in
    let other = moving C (movers program C) in
    let tasks = c.in_ok-waiting.waiting in
    let channels = c.in_ok-channels.channels in
    c.blocked.ensures
    ∙ sym (none_moves program C tasks channels c.in_ok-names.names c.in_ok-waiting.ensures (c.in_ok-channels.ensures c.args.program.now) (c.in_ok-names.ensures c.args.program.now)
    (sym c.any_moves.ensures ∙ c.if-any_moves.false))
    ∙ sym (ap (λ o. or_else o other) c.in_default.is) ∙ sym (c.in_ok-ending.ensures other)
    ∙ unfinished program C tasks channels c.in_ok-names.names c.in_ok-waiting.ensures (c.in_ok-channels.ensures c.args.program.now) (c.in_ok-names.ensures c.args.program.now) (sym c.are_none.ensures ∙ c.if-are_none.false)
