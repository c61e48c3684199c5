use Rattle.std.proofs.Common.{◌≡◌, ◌++◌}
use Rattle.std.specs.List.{list_all}
use Rattle.linear_forms.specs.Normal.{fits}
use Rattle.nameless_forms.proofs.sums.multiples_of.Given as goal

abbrev pub invariant-loop-var : goal.invariant-loop-var
invariant-loop-var l =
    (l.multiples ++ l.var-iterator ≡ l.counts.entries)
    × (list_all (λ m. fits m.1) l.var-iterator ≡ list_all (λ m. fits m.1) l.counts.entries)
