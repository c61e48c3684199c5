use Rattle.std.proofs.Common.{◌≤◌, All, take}
use Rattle.linear_forms.specs.Replacing.{IsShort}
use Rattle.substitution.proofs.lengths.with_names.Given as goal

abbrev pub invariant-loop-name : goal.invariant-loop-name
invariant-loop-name l = (l.fn.most ≤ l.longest) × All (IsShort l.longest) (take l.name-index l.names)
