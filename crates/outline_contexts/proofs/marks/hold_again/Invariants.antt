use Rattle.std.proofs.Common.{◌≡◌, drop}
use Rattle.outline_contexts.specs.Kept.{released}
use Rattle.outline_contexts.proofs.marks.hold_again.Given as goal

abbrev pub invariant-loop-place : goal.invariant-loop-place
invariant-loop-place l = released (drop l.place-index l.places) l.held.items ≡ released l.places l.fn.held.items
