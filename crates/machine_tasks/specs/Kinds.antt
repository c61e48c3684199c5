-- What kind of step a task makes next, whatever becomes of it.
use Rattle.std.specs.Prelude.{ℤ, Option, Some, None}
use Rattle.core_language.specs.Values.{Value}
use Rattle.core_language.specs.Values as value
use Rattle.core_language.specs.Computing as core
use Rattle.core_language.specs.Acts as act
use Rattle.machine_values.specs.Reading.{why_of, halt_of}
use Rattle.machine_tasks.specs.declared.acts.Act.{Act}
use Rattle.machine_tasks.specs.declared.acts.Act.TheVariants as variant

pub data Kind : Type 0 where
  Silent : Kind
  Print : ℤ → Kind
  Fork : Kind
  Send : Kind
  Recv : Kind
  End : Kind
  IsEnded : Kind
  IsHalted : core.Halt → Kind
  IsStuck : core.StuckWhy → Kind

abbrev pub kind_of : act.Act → Kind
kind_of (act.Silent place) = Silent
kind_of (act.Print z place) = Print z
kind_of (act.Fork child parent its) = Fork
kind_of (act.Send channel value place) = Send
kind_of (act.Recv channel place) = Recv
kind_of act.End = End
kind_of act.IsEnded = IsEnded
kind_of (act.IsHalted why) = IsHalted why
kind_of (act.IsStuck why) = IsStuck why

abbrev pub kind_as : Act → Kind
kind_as variant.Silent = Silent
kind_as (variant.Print number) = Print number
kind_as variant.Fork = Fork
kind_as variant.Send = Send
kind_as variant.Recv = Recv
kind_as variant.End = End
kind_as variant.Ended = IsEnded
kind_as (variant.Halts why) = IsHalted (halt_of why)
kind_as (variant.Stuck why) = IsStuck (why_of why)

-- the kind of a step that needs a result first
abbrev pub kind_after : {A : Type 0} → core.Computed A → Kind → Kind
kind_after (core.Done a) kind = kind
kind_after (core.Sticks why) kind = IsStuck why
kind_after (core.Halts why) kind = IsHalted why

abbrev pub print_after : core.Computed ℤ → Kind
print_after (core.Done z) = Print z
print_after (core.Sticks why) = IsStuck why
print_after (core.Halts why) = IsHalted why

-- the kind of a step that needs an end
abbrev pub kind_at_end : Option Value → Kind → Kind
kind_at_end (Some (value.End c)) kind = kind
kind_at_end (Some (value.Int z)) kind = IsStuck core.NotEnd
kind_at_end (Some value.Unit) kind = IsStuck core.NotEnd
kind_at_end (Some (value.Pair a b)) kind = IsStuck core.NotEnd
kind_at_end (Some (value.Arm i a)) kind = IsStuck core.NotEnd
kind_at_end None kind = IsStuck core.NotEnd

-- the kind of a match, where there is an arm with the value's number
abbrev pub kind_chosen : {A : Type 0} → Option A → Kind
kind_chosen (Some arm) = Silent
kind_chosen None = IsStuck core.NotSum
