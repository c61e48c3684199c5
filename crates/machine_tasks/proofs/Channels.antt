-- An act with no channel in its kind names none.
use Rattle.std.proofs.Common.{◌≡◌, false, None, refl}
use Rattle.core_language.specs.Acts.{Act, channel_in}
use Rattle.core_language.specs.Acts as act
use Rattle.machine_tasks.specs.Kinds.{kind_of}
use Rattle.machine_tasks.specs.Channels.{has_channel}

pub channel_less : (a : Act) → has_channel (kind_of a) ≡ false → channel_in a ≡ None
channel_less (act.Silent place) is = refl
channel_less (act.Print z place) is = refl
channel_less (act.Fork child parent its) is = refl
channel_less (act.Send c v place) is = cc
channel_less (act.Recv c place) is = cc
channel_less act.End is = refl
channel_less act.IsEnded is = refl
channel_less (act.IsHalted why) is = refl
channel_less (act.IsStuck why) is = refl
