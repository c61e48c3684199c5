use Rattle.std.proofs.Common.{◌≡◌, ◌-◌, ◌≤◌}
use Rattle.cell_rules.specs.Words.{words_at_start}
use Rattle.one_shot_word.proofs.ends.words_of.Given as goal

abbrev pub invariant-loop-cell : goal.invariant-loop-cell
invariant-loop-cell l = (l.words.items ≡ words_at_start l.cell) × (l.cell ≤ l.n)

abbrev pub decreases-loop-cell : goal.decreases-loop-cell
decreases-loop-cell l = l.n - l.cell
