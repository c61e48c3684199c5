use Rattle.std.proofs.Common.{◌≡◌, ◌++◌}
use Rattle.core_language.specs.Names.{Ident}
use Rattle.name_uses.specs.Uses.{uses_in, times}
use Rattle.name_uses.proofs.uses.note_all.Given as goal

abbrev pub invariant-names : goal.invariant-names
invariant-names l = (x : Ident) → uses_in l.uses x ++ times x l.number l.name-iterator.rest.items ≡ uses_in l.initial.uses x ++ times x l.number l.initial.name-iterator.rest.items
