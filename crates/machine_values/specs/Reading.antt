-- Values, variables and reasons as the core language has them, and values with their cells.
use Rattle.std.specs.Prelude.{List, map}
use Rattle.core_language.specs.Values as core
use Rattle.core_language.specs.Computing as computing
use Rattle.machine_values.specs.Cells as cells
use Rattle.machine_values.specs.Cells.{Celled, uncelled}
use Rattle.machine_values.specs.declared.values.Value.{Value}
use Rattle.machine_values.specs.declared.values.Value.TheVariants as value
use Rattle.machine_values.specs.declared.binds.Bind.{Bind}
use Rattle.machine_values.specs.declared.stops.StuckWhy.{StuckWhy}
use Rattle.machine_values.specs.declared.stops.StuckWhy.TheVariants as why
use Rattle.machine_values.specs.declared.stops.Halt.{Halt}
use Rattle.machine_values.specs.declared.stops.Halt.TheVariants as halt

-- ---- values

abbrev pub celled_of : Value → Celled
celled_of (value.Int number) = cells.Int number
celled_of value.Unit = cells.Unit
celled_of (value.Pair first second) = cells.Pair first second
celled_of (value.Arm number part) = cells.Arm number part
celled_of (value.End channel) = cells.End channel.name channel.cell.0

-- cells aside
abbrev pub value_as : Value → core.Value
value_as v = uncelled (celled_of v)

-- the variables and their values, in the order in which they were bound
abbrev pub env_of : List Bind → computing.Env
env_of binds = map (λ b. (b.name, value_as b.value)) binds

-- ---- reasons

abbrev pub why_of : StuckWhy → computing.StuckWhy
why_of why.NotInt = computing.NotInt
why_of why.NotEnd = computing.NotEnd
why_of why.NotPair = computing.NotPair
why_of why.NotSum = computing.NotSum
why_of why.FullChannel = computing.FullChannel
why_of why.NoChannel = computing.NoChannel
why_of why.Absurd = computing.Absurd
why_of why.Deep = computing.Deep

abbrev pub halt_of : Halt → computing.Halt
halt_of halt.Range = computing.Range
halt_of halt.Depth = computing.Depth
