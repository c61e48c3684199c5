use Rattle.std.proofs.Common.{length}
use Rattle.chan_lexer.proofs.Turns.{IsAt, IsSmall}
use Rattle.chan_lexer.proofs.cut.cut.Given as goal

abbrev pub invariant-loop-list : goal.invariant-loop-list
invariant-loop-list l = record {
  at : IsAt l.text l.place l.list l.rest;
  small : IsSmall l.text l.place l.rest;
}

abbrev pub decreases-loop-list : goal.decreases-loop-list
decreases-loop-list l = length l.rest
