use Rattle.std.proofs.Common.{◌≤◌, All, take}
use Rattle.chan_syntax.specs.Reading.{res_of}
use Rattle.linear_forms.specs.Replacing.{IsShortRes}
use Rattle.substitution.proofs.lengths.+lengths.Given as goal

abbrev pub invariant-with_resources-loop-resource : goal.invariant-with_resources-loop-resource
invariant-with_resources-loop-resource l = (l.fn.most ≤ l.longest) × All (λ r. IsShortRes l.longest (res_of r)) (take l.resource-index l.resources)
