use Rattle.std.proofs.Common.{◌≡◌, ◌≤◌, ◌-◌, length, drop}
use Rattle.form_faults.specs.Faults.{least}
use Rattle.form_faults.specs.Scopes.{binders, bind_all, twice_all}
use Rattle.form_faults.proofs.binding.bind_names.Given as goal

abbrev pub invariant-names : goal.invariant-names
invariant-names l =
    (l.index ≤ length l.names)
    × (least l.first (twice_all l.scope (binders l.sort (drop l.index l.names) (drop l.index l.spans))) ≡ least l.initial.first (twice_all l.initial.scope (binders l.sort l.names l.spans)))
    × (bind_all l.scope (binders l.sort (drop l.index l.names) (drop l.index l.spans)) ≡ bind_all l.initial.scope (binders l.sort l.names l.spans))

abbrev pub decreases-names : goal.decreases-names
decreases-names l = length l.names - l.index
