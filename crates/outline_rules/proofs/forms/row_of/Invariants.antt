use Rattle.std.proofs.Common.{◌≡◌, take, drop}
use Rattle.std.specs.List.{list_all}
use Rattle.linear_forms.specs.Normal.{fits}
use Rattle.outline_rules.proofs.forms.row_of.Given as goal

abbrev pub invariant-loop-sum : goal.invariant-loop-sum
invariant-loop-sum l = (l.coefficients ≡ take l.sum-index l.sum-items) × (list_all fits (drop l.sum-index l.sum-items) ≡ list_all fits l.sum-items)
