-- Results of the machine's computing as those of the core language.
use Rattle.std.specs.Prelude.{ℕ, ◌+◌, List, map, min, nat_lt, if◌then◌else◌, Result, Ok, Err}
use Rattle.std.specs.Global.{Vec}
use Rattle.core_language.specs.Values as value
use Rattle.core_language.specs.Values.{depth}
use Rattle.core_language.specs.Computing as core
use Rattle.machine_values.specs.declared.computing.Trouble.{Trouble}
use Rattle.machine_values.specs.declared.computing.Trouble.TheVariants as trouble
use Rattle.machine_values.specs.declared.values.Value.{Value}
use Rattle.machine_values.specs.Reading.{why_of, halt_of, value_as}

abbrev pub computed_of : {A : Type 0} → Result A Trouble → core.Computed A
computed_of (Ok value) = core.Done value
computed_of (Err (trouble.Stuck why)) = core.Sticks (why_of why)
computed_of (Err (trouble.Halts why)) = core.Halts (halt_of why)

-- the depth of the value, up to the first that no value of a run has
abbrev pub depth_of : core.Computed value.Value → core.Computed ℕ
depth_of computed = core.and_then computed (λ v. core.Done (min (depth v) 257))

-- the depth of a value that is made of parts, the deepest of this depth
abbrev pub nested_of : ℕ → core.Computed ℕ
nested_of n = if nat_lt n 256 then core.Done (n + 1) else core.Sticks core.Deep

-- the value that was made, as the core language has it
abbrev pub made_of : Result Value Trouble → core.Computed value.Value
made_of (Ok v) = core.Done (value_as v)
made_of (Err (trouble.Stuck why)) = core.Sticks (why_of why)
made_of (Err (trouble.Halts why)) = core.Halts (halt_of why)

abbrev pub all_made_of : Result (Vec Value) Trouble → core.Computed (List value.Value)
all_made_of (Ok vs) = core.Done (map value_as vs.items)
all_made_of (Err (trouble.Stuck why)) = core.Sticks (why_of why)
all_made_of (Err (trouble.Halts why)) = core.Halts (halt_of why)

-- whether there is a result
abbrev pub done_of : {A : Type 0} → core.Computed A → core.Computed (Unit {0})
done_of computed = core.and_then computed (λ _. core.Done (tt {0}))
