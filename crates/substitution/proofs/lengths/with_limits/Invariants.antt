use Rattle.std.proofs.Common.{◌≤◌, All, take}
use Rattle.chan_syntax.specs.Reading.{limit_of}
use Rattle.linear_forms.specs.Replacing.{IsShortLimit}
use Rattle.substitution.proofs.lengths.with_limits.Given as goal

abbrev pub invariant-loop-limit : goal.invariant-loop-limit
invariant-loop-limit l = (l.fn.most ≤ l.longest) × All (λ m. IsShortLimit l.longest (limit_of m)) (take l.limit-index l.limits)
