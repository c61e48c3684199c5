use Rattle.std.proofs.Common.{ap}
use Rattle.surface_grammar.specs.declared.parts.Names.{Names}
use Rattle.token_cursor.specs.Syntax.{sees}
use Rattle.token_cursor.proofs.Turns.{begun}
use Rattle.operand_parser.proofs.NamePairs.{first_found, more_found, all_found, end_found}
use Rattle.operand_parser.proofs.name_lists.names.Goals as goal

pub loop-turn-init : goal.loop-turn-init
loop-turn-init c =
    first_found c.args.depth c.args.cursor.now c.name.new.self c.in_ok-first.first c.add.new.found.names c.no_names-found.result.names c.add.new.found.spans c.no_names-found.result.spans
    c.left-turn-end.result c.in_ok-first.ensures c.left-turn-end.ensures (ap (λ (p : Names). p.names) c.no_names-found.ensures) c.in_ok-add.ensures.names
    (ap (λ (p : Names). p.spans) c.no_names-found.ensures) c.in_ok-add.ensures.spans

pub returns-then-not-sees : goal.returns-then-not-sees
unfolding sees
returns-then-not-sees c =
    all_found c.args.depth c.args.cursor.now c.loop-turn.cursor c.left-turn-end.result c.loop-turn._turn c.loop-turn.found.names c.loop-turn.found.spans
    c.loop-turn-test.true c.loop-turn.invariant (begun _ _ c.sees.ensures c.if-not-sees.true)

pub loop-turn-preserved : goal.loop-turn-preserved
unfolding sees
loop-turn-preserved c =
    more_found c.args.depth c.args.cursor.now c.loop-turn.cursor c.skip.new.self c.name-in-loop-turn.new.self c.in_ok-next.next c.left-turn-end.result c.loop-turn._turn
    c.loop-turn.found.names c.add-in-loop-turn.new.found.names c.loop-turn.found.spans c.add-in-loop-turn.new.found.spans c.loop-turn-test.true c.loop-turn.invariant
    (begun _ _ c.sees.ensures c.if-not-sees.false) c.in_ok-skip.ensures c.in_ok-next.ensures c.in_ok-add-2.ensures.names c.in_ok-add-2.ensures.spans

pub returns : goal.returns
returns c =
    end_found c.args.depth c.args.cursor.now c.loop-turn.cursor c.left-turn-end.result c.loop-turn._turn c.loop-turn.found.names c.loop-turn.found.spans
    c.loop-turn-test.false c.loop-turn.invariant
