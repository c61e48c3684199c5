use Rattle.std.proofs.Common.{map, ap, sym, ◌∙◌}
use Rattle.std.proofs.lemmas.Result.{err_from_is_err_and}
use Rattle.std.specs.Option.{option_map, option_copied}
use Rattle.chan_syntax.specs.Reading.{ref_of, equation_of, proto_of}
use Rattle.protocols.specs.HeadsOf.{message_in}
use Rattle.protocols.specs.Places.{pieces_of_head}
use Rattle.protocols.proofs.Forming.{arity_at, message_formed, message_too_large}
use Rattle.protocols.proofs.messages.head_of.Goals as goal

pub formed-requires : goal.formed-requires
formed-requires c =
    let named = sym c.proto_named.ensures.read ∙ ap (λ o. option_map proto_of (option_copied o)) c.in-Some.is in
    arity_at (map proto_of c.args.protos.now) c.args.end.now c.in-Some.proto.now c.requires.arity named

pub returns-clause-ok : goal.returns-clause-ok
returns-clause-ok c =
    let named = sym c.proto_named.ensures.read ∙ ap (λ o. option_map proto_of (option_copied o)) c.in-Some.is in
    let has = sym c.in_ok-message.ensures.read ∙ ap (option_map message_in) c.in-Some-2.is in
    message_formed (map proto_of c.args.protos.now) (ref_of c.args.end.now) (proto_of c.in-Some.proto.now) (equation_of c.in_ok-equation.equation) (message_in c.in-Some-2.message) _ _ named c.in_ok-equation.ensures.read has c.in_ok-head-in-Some-2.ensures.direction c.in_ok-head-in-Some-2.ensures.res

pub returns-in_err-head-in-Some-2-clause-err : goal.returns-in_err-head-in-Some-2-clause-err
returns-in_err-head-in-Some-2-clause-err c =
    let named = sym c.proto_named.ensures.read ∙ ap (λ o. option_map proto_of (option_copied o)) c.in-Some.is in
    let has = sym c.in_ok-message.ensures.read ∙ ap (option_map message_in) c.in-Some-2.is in
    let p = err_from_is_err_and c.from_residual-in_err-head-in-Some-2.result c.from_residual-in_err-head-in-Some-2.ensures.1 in
    rw (p.1, p.2) (λ e. message_too_large (map proto_of c.args.protos.now) (ref_of c.args.end.now) (proto_of c.in-Some.proto.now) (equation_of c.in_ok-equation.equation) (message_in c.in-Some-2.message) named c.in_ok-equation.ensures.read has (c.in_err-head-in-Some-2.ensures.err e))

pub returns-clause-places : goal.returns-clause-places
returns-clause-places c =
    let found = sym c.proto_named.ensures.placed ∙ ap option_copied c.in-Some.is in
    let is = sym c.in_ok-equation.ensures.places ∙ sym c.in_ok-message.ensures.places ∙ ap (option_map pieces_of_head) c.in-Some-2.is in
    (c.in-Some.proto.now, pieces_of_head c.in-Some-2.message, found, is, c.in_ok-head-in-Some-2.ensures.places)
