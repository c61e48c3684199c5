-- The head of an end as the definitions have it.
use Rattle.core_language.specs.Resources as resource
use Rattle.chan_syntax.specs.Reading.{res_of}
use Rattle.protocols.specs.Duals.{Message}
use Rattle.outline_language.specs.Equations.{Direction, Sends, Receives}
use Rattle.protocols.specs.declared.messages.Head.{Head}
use Rattle.protocols.specs.declared.messages.Head.TheVariants.{Send, Recv}

abbrev pub direction_of : Head → Direction
direction_of (Send res) = Sends
direction_of (Recv res) = Receives

abbrev pub resource_of : Head → resource.Res
resource_of (Send res) = res_of res
resource_of (Recv res) = res_of res

abbrev pub message_in : Head → Message
message_in head = record { direction = direction_of head; res = resource_of head }
