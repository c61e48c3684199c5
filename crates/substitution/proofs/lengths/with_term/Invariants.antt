use Rattle.std.proofs.Common.{◌≤◌, All, take, option_to_list}
use Rattle.linear_forms.specs.Replacing.{IsShort}
use Rattle.substitution.proofs.lengths.with_term.Given as goal

abbrev pub invariant-loop-part : goal.invariant-loop-part
invariant-loop-part l = (l.fn.most ≤ l.longest) × All (λ p. All (IsShort l.longest) (option_to_list p.name)) (take l.part-index l.part-items)
