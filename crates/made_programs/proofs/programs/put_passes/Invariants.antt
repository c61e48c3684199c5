use Rattle.std.proofs.Common.{◌≡◌, ◌++◌, ◌+◌, ◌-◌, ◌≤◌}
use Rattle.std.specs.List.{flat_map, range_with_len}
use Rattle.made_programs.specs.Texts.{for_each, pass_line}
use Rattle.made_programs.proofs.programs.put_passes.Given as goal

abbrev pub invariant-numbers : goal.invariant-numbers
invariant-numbers l = (1 ≤ l.number) × (l.number ≤ l.count + 1)
    × (l.text.items ++ flat_map pass_line (range_with_len l.number (l.count + 1 - l.number)) ≡ l.initial.text.items ++ for_each pass_line l.count)

abbrev pub decreases-numbers : goal.decreases-numbers
decreases-numbers l = l.count + 1 - l.number
