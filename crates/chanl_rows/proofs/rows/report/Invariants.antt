use denote.Text.{Utf8}
use denote.Shadow.{shadow}
use Rattle.chanl_rows.proofs.rows.report.Given as goal

-- the status and the words, and what stands around a row, are text
abbrev pub invariant-loop-line : goal.invariant-loop-line
invariant-loop-line l =
    (goal.iterator-loop-line).can_next l.line-iterator ×
    (goal.iterator-loop-line).is_finite l.line-iterator ×
    (shadow (Utf8 l.head) × shadow (Utf8 l.frame))
