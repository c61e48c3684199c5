use Rattle.core_numbering.proofs.Drafted.{proto_numbered}
use Rattle.core_numbering.proofs.programs.add_proto.Goals as goal

pub returns : goal.returns
returns c =
    proto_numbered c.args.proto.now c.in-Plain.equation c.args.parts.now c.in_ok-proto-in-Plain.proto c.push.new.self c.in-Plain.is c.in_ok-proto-in-Plain.ensures c.in_ok-push-in-Plain.ensures.ok
