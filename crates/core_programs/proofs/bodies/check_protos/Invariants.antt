use Rattle.std.proofs.Common.{◌≡◌, drop}
use Rattle.form_faults.specs.Faults.{least}
use Rattle.core_programs.specs.Passes.{protos_faults}
use Rattle.core_programs.proofs.bodies.check_protos.Given as goal

abbrev pub invariant-loop-proto : goal.invariant-loop-proto
invariant-loop-proto l = least l.first (protos_faults l.table (drop l.proto-index l.protos)) ≡ least l.initial.first (protos_faults l.table l.protos)
