use Rattle.std.proofs.Common.{◌≡◌, ◌++◌, drop}
use Rattle.chan_syntax.proofs.+copying.Given as goal

abbrev pub invariant-copies::copy_resources-loop-resource : goal.invariant-copies::copy_resources-loop-resource
invariant-copies::copy_resources-loop-resource l = l.copy ++ drop l.resource-index l.resources ≡ l.resources
