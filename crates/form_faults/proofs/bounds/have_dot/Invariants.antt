use Rattle.std.proofs.Common.{◌≡◌, drop}
use Rattle.std.specs.List.{list_any}
use Rattle.form_faults.specs.Scopes.{has_dot}
use Rattle.form_faults.proofs.bounds.have_dot.Given as goal

abbrev pub invariant-loop-name : goal.invariant-loop-name
invariant-loop-name l = list_any has_dot (drop l.name-index l.names) ≡ list_any has_dot l.names
