use Rattle.std.proofs.Common.{◌≡◌, None, sym, ap, ◌∙◌}
use Rattle.core_language.specs.Acts.{channel_in}
use Rattle.core_programs.specs.Bodies.{program_of, rest}
use Rattle.machine_values.specs.Reading.{env_of}
use Rattle.machine_tasks.specs.Channels.{channel_named, has_channel}
use Rattle.machine_tasks.specs.Reading.{act_in}
use Rattle.machine_tasks.specs.Steps.{callers_of}
use Rattle.machine_tasks.proofs.Channels.{channel_less}
use Rattle.machine_tasks.proofs.Forms.{act_there, channel_none}
use Rattle.machine_tasks.proofs.tasks.Task.channel.Goals as goal
