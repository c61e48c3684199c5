use Rattle.std.proofs.Common.{All, take}
use Rattle.chan_syntax.specs.Reading.{term_of}
use Rattle.linear_forms.specs.Replacing.{IsShortTerm}
use Rattle.substitution.proofs.lengths.longest_put.Given as goal

abbrev pub invariant-loop-put : goal.invariant-loop-put
invariant-loop-put l = All (λ v. IsShortTerm l.longest (term_of v.term)) (take l.put-index l.put)
