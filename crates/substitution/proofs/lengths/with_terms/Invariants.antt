use Rattle.std.proofs.Common.{◌≤◌, All, take}
use Rattle.chan_syntax.specs.Reading.{term_of}
use Rattle.linear_forms.specs.Replacing.{IsShortTerm}
use Rattle.substitution.proofs.lengths.with_terms.Given as goal

abbrev pub invariant-loop-term : goal.invariant-loop-term
invariant-loop-term l = (l.fn.most ≤ l.longest) × All (λ t. IsShortTerm l.longest (term_of t)) (take l.term-index l.terms)
