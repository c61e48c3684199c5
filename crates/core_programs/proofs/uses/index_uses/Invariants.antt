use Rattle.std.proofs.Common.{◌≡◌, ◌++◌, drop}
use Rattle.core_language.specs.Names.{Ident}
use Rattle.name_uses.specs.Uses.{uses_in}
use Rattle.core_programs.specs.Uses.{uses_from}
use Rattle.core_programs.proofs.uses.index_uses.Given as goal

abbrev pub invariant-nodes : goal.invariant-nodes
invariant-nodes l = (l.number ≡ l.node-index) × ((x : Ident) → uses_in l.uses x ++ uses_from l.number (drop l.node-index l.fn.nodes) x ≡ uses_from 0 l.fn.nodes x)
