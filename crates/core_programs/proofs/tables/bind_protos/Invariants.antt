use Rattle.std.proofs.Common.{◌≡◌, drop}
use Rattle.form_faults.specs.Faults.{least}
use Rattle.form_faults.specs.Scopes.{twice_all}
use Rattle.core_programs.specs.Passes.{proto_names}
use Rattle.core_programs.proofs.tables.bind_protos.Given as goal

abbrev pub invariant-loop-proto : goal.invariant-loop-proto
invariant-loop-proto l = least l.first (twice_all l.scope (proto_names (drop l.proto-index l.protos))) ≡ least l.initial.first (twice_all l.initial.scope (proto_names l.protos))
