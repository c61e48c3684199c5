-- The channel at which an act looks.
use Rattle.std.specs.Prelude.{Bool, true, false, Option, Some, None}
use Rattle.core_language.specs.Names.{Name, Ident}
use Rattle.core_language.specs.Values.{Value}
use Rattle.core_language.specs.Values as value
use Rattle.core_language.specs.Computing.{Env, value_of}
use Rattle.core_language.specs.Acts.{Act}
use Rattle.core_language.specs.Acts as act
use Rattle.core_programs.specs.declared.nodes.Node.{Node}
use Rattle.core_programs.specs.declared.nodes.Node.TheVariants as node
use Rattle.machine_tasks.specs.Kinds.{Kind, Send, Recv}

abbrev pub has_channel : Kind → Bool
has_channel Send = true
has_channel Recv = true
has_channel other = false

-- the variable whose value is the end
abbrev pub channel_named : Node → Option Ident
channel_named (node.Send1 channel channel_at path path_at value proof next span) = Some channel
channel_named (node.Recv1 pat channel channel_at path path_at proof next span) = Some channel
channel_named other = None

abbrev pub end_name : Option Value → Option Name
end_name (Some (value.End c)) = Some c
end_name other = None

abbrev pub end_at : Option Ident → Env → Option Name
end_at None env = None
end_at (Some x) env = end_name (value_of env x)
