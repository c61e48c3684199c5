use Rattle.std.proofs.Common.{◌≡◌, ◌-◌, ◌≤◌, ◌++◌, map}
use Rattle.std.specs.List.{list_all, range_with_len}
use Rattle.linear_forms.specs.Normal.{fits}
use Rattle.outline_language.specs.LinearForms.{Free}
use Rattle.nameless_forms.specs.Counts.{count_in, coefficients_in}
use Rattle.nameless_forms.proofs.sums.coefficients_of.Given as goal

abbrev pub invariant-loop-place : goal.invariant-loop-place
invariant-loop-place l = record {
  within : l.place ≤ l.variables;
  numbers : l.coefficients ++ map (λ i. count_in (Free i) l.counts.entries) (range_with_len l.place (l.variables - l.place)) ≡ coefficients_in l.variables l.counts.entries;
  narrow : list_all fits (map (λ i. count_in (Free i) l.counts.entries) (range_with_len l.place (l.variables - l.place))) ≡ list_all fits (coefficients_in l.variables l.counts.entries);
}
