use Rattle.std.proofs.Common.{◌+◌, ◌&&◌, drop, map, ap, ◌∙◌}
use Rattle.std.specs.List.{list_all}
use Rattle.std.proofs.lemmas.Result.{err_from_is_err_and}
use Rattle.chan_syntax.specs.Reading.{proto_of}
use Rattle.nameless_shapes.proofs.Lists.{one_later, read_put_next}
use Rattle.protocol_tables.specs.Protocols.{protocol_read, protocol_fits}
use Rattle.protocol_tables.specs.Reading.{protocol_of}
use Rattle.protocol_tables.proofs.Conjunctions.{and_false}
use Rattle.protocol_tables.proofs.steps.read_protocols.Goals as goal

pub returns-in_err-read_protocol-clause-err : goal.returns-in_err-read_protocol-clause-err
returns-in_err-read_protocol-clause-err c =
    let p = err_from_is_err_and c.from_residual.result c.from_residual.ensures.1 in
    let next = one_later c.args.protos.now c.loop-proto.proto-index c.proto-item.result c.loop-proto-test.true c.proto-item.is in
    rw (p.1, p.2) (λ e. c.loop-proto.invariant.1 (ap (λ ps. list_all protocol_fits (map protocol_read (map proto_of ps))) next
    ∙ ap (λ b. b && list_all protocol_fits (map protocol_read (map proto_of (drop (c.loop-proto.proto-index + 1) c.args.protos.now)))) (c.in_err-read_protocol.ensures.err e)))

pub loop-proto-preserved : goal.loop-proto-preserved
loop-proto-preserved c =
    let next = one_later c.args.protos.now c.loop-proto.proto-index c.proto-item.result c.loop-proto-test.true c.proto-item.is in (
      rw c.in_ok-push.ensures.ok (read_put_next protocol_read proto_of protocol_of c.args.protos.now c.loop-proto.proto-index c.proto-item.result c.loop-proto-test.true c.proto-item.is c.loop-proto.protocols _ c.in_ok-read_protocol.ensures.ok c.loop-proto.invariant.0),
      λ fails. c.loop-proto.invariant.1 (ap (λ ps. list_all protocol_fits (map protocol_read (map proto_of ps))) next
          ∙ ap (λ b. protocol_fits (protocol_read (proto_of c.proto-item.result)) && b) fails ∙ and_false (protocol_fits (protocol_read (proto_of c.proto-item.result)))),
    )
