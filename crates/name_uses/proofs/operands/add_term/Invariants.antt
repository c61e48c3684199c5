use Rattle.std.proofs.Common.{◌≡◌, ◌++◌, drop, map}
use Rattle.chan_syntax.specs.Reading.{term_of, part_of}
use Rattle.name_uses.specs.Uses.{term_names}
use Rattle.name_uses.proofs.operands.add_term.Given as goal

abbrev pub invariant-parts : goal.invariant-parts
invariant-parts l = l.names.items ++ term_names (map part_of (drop l.part-index l.fn.term.parts)) ≡ l.initial.names.items ++ term_names (term_of l.fn.term)
