use Rattle.std.proofs.Common.{◌≡◌, map, take}
use Rattle.surface_grammar.specs.Grammar as grammar
use Rattle.token_cursor.proofs.cursor.path.Given as goal

abbrev pub invariant-loop-b : goal.invariant-loop-b
invariant-loop-b l = l.path ≡ map grammar.letter_of (take l.b-index l.text)
