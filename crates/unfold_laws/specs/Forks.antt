-- The reference of a node that forks.
use Rattle.std.specs.Prelude.{List, [], ◌∷◌}
use Rattle.core_language.specs.Resources.{Ref}
use Rattle.chan_syntax.specs.Reading.{ref_of}
use Rattle.core_programs.specs.declared.nodes.Node.{Node}
use Rattle.core_programs.specs.declared.nodes.Node.TheVariants as node

abbrev pub refs_of_node : Node → List Ref
refs_of_node (node.Fork name name_at proto func func_at values proof next span) = ref_of proto ∷ []
refs_of_node other = []
