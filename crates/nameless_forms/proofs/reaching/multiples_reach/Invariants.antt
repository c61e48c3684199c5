use Rattle.std.proofs.Common.{◌≡◌, ◌≤◌, true, length, drop}
use Rattle.std.specs.List.{list_all}
use Rattle.linear_forms.specs.Normal.{fits}
use Rattle.nameless_forms.specs.Reaching.{multiples_reach}
use Rattle.nameless_forms.proofs.reaching.multiples_reach.Given as goal

abbrev pub invariant-loop-left : goal.invariant-loop-left
invariant-loop-left l = record {
  index : l.left ≤ length l.multiples;
  reach : multiples_reach (drop l.left l.multiples) ≤ l.reach;
  fits : list_all (λ m. fits m.1) (drop l.left l.multiples) ≡ true;
}

abbrev pub decreases-loop-left : goal.decreases-loop-left
decreases-loop-left l = l.left
