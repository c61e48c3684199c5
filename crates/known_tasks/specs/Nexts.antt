-- What a known task does next.
use Rattle.std.specs.Prelude.{Bool, nat_eq, if◌then◌else◌, Option, Some, None}
use Rattle.core_language.specs.Names.{Name}
use Rattle.core_language.specs.Computing.{Halt as WhyHalted}
use Rattle.core_language.specs.Acts.{Act}
use Rattle.core_language.specs.Acts as act
use Rattle.core_language.specs.Endings.{is_ended}
use Rattle.known_tasks.specs.Known.{KnownTask, does}

-- a step that shows nothing or a print is Silent; Spent is a task that has come to the limit
pub data Next : Type 0 where
  Silent : Next
  Fork : Next
  Send : Name → Next
  Recv : Name → Next
  End : Next
  Halt : WhyHalted → Next
  Spent : Next

abbrev pub next_by : Act → Option Next
next_by (act.Silent place) = Some Silent
next_by (act.Print z place) = Some Silent
next_by (act.Fork c parent its) = Some Fork
next_by (act.Send c v place) = Some (Send c)
next_by (act.Recv c place) = Some (Recv c)
next_by act.End = Some End
next_by (act.IsHalted why) = Some (Halt why)
next_by act.IsEnded = None
next_by (act.IsStuck why) = None

-- what the task does next, where it has not ended
abbrev pub next : KnownTask → Option Next
next k = if nat_eq k.time k.limit then Some Spent else next_by (does k)

abbrev pub has_ended : KnownTask → Bool
has_ended k = is_ended k.state.place
