use Rattle.std.proofs.Common.{rules, IfErr}
use Rattle.text_tokens.specs.Text.{HasTokens}
use Rattle.text_tokens.proofs.Cuts.{one_list, never_both}
use Rattle.text_tokens.proofs.Each.{each_stands, in_order}
use Rattle.chan_lexer.specs.Faults.{IsFaultOf}
use Rattle.chan_lexer.specs.Lexed.{tokens_of}
use Rattle.chan_lexer.proofs.Answered.{refusal_accepts, refusal_says}
use Rattle.chan_lexer.proofs.lexer.tokens.Goals as goal

pub returns-in_err-list-clause-accepted : goal.returns-in_err-list-clause-accepted
returns-in_err-list-clause-accepted c =
    let right : IfErr c.from_residual.result (IsFaultOf c.args.text.now) = search rules in
    refusal_accepts c.args.text.now c.from_residual.result c.from_residual.ensures.0 right

pub returns-in_err-list-clause-refused : goal.returns-in_err-list-clause-refused
returns-in_err-list-clause-refused c =
    let right : IfErr c.from_residual.result (IsFaultOf c.args.text.now) = search rules in
    refusal_says c.args.text.now c.from_residual.result c.from_residual.ensures.0 right

pub returns-clause-longest : goal.returns-clause-longest
returns-clause-longest c =
    let has : HasTokens c.args.text.now (tokens_of c.lexed.result) = rw (c.lexed.ensures.source, c.lexed.ensures.list, c.in_ok-source.ensures) c.in_ok-list.ensures in
    each_stands c.args.text.now (tokens_of c.lexed.result) has

pub returns-clause-in_order : goal.returns-clause-in_order
returns-clause-in_order c =
    let has : HasTokens c.args.text.now (tokens_of c.lexed.result) = rw (c.lexed.ensures.source, c.lexed.ensures.list, c.in_ok-source.ensures) c.in_ok-list.ensures in
    in_order c.args.text.now (tokens_of c.lexed.result) has

pub returns-clause-accepted : goal.returns-clause-accepted
returns-clause-accepted c =
    let has : HasTokens c.args.text.now (tokens_of c.lexed.result) = rw (c.lexed.ensures.source, c.lexed.ensures.list, c.in_ok-source.ensures) c.in_ok-list.ensures in
    λ list is. one_list c.args.text.now (tokens_of c.lexed.result) list has is

pub returns-clause-refused : goal.returns-clause-refused
returns-clause-refused c =
    let has : HasTokens c.args.text.now (tokens_of c.lexed.result) = rw (c.lexed.ensures.source, c.lexed.ensures.list, c.in_ok-source.ensures) c.in_ok-list.ensures in
    λ fault is. never_both c.args.text.now (tokens_of c.lexed.result) fault has is
