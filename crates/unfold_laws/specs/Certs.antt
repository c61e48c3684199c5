-- The certificates of a node.
use Rattle.std.specs.Prelude.{List, []}
use Rattle.chan_syntax.specs.declared.operands.WrittenCert.{WrittenCert}
use Rattle.core_programs.specs.declared.nodes.Node.{Node}
use Rattle.core_programs.specs.declared.nodes.Node.TheVariants as node

-- those of its proof, where it has one
abbrev pub certs_of_node : Node → List WrittenCert
certs_of_node (node.Call pat func func_at values proof next span) = proof.certs
certs_of_node (node.Tail func func_at values proof span) = proof.certs
certs_of_node (node.Fork name name_at proto func func_at values proof next span) = proof.certs
certs_of_node (node.Send1 channel channel_at path path_at value proof next span) = proof.certs
certs_of_node (node.Recv1 pat channel channel_at path path_at proof next span) = proof.certs
certs_of_node (node.Absurd proof span) = proof.certs
certs_of_node (node.Ret value proof span) = proof.certs
certs_of_node other = []
