-- Which ends a configuration has.
use Rattle.std.specs.Prelude.{◌≡◌, true, nat_eq, Option, Some}
use Rattle.std.specs.Ordering.{nat_cmp}
use Rattle.std.specs.Cmp.Lexicographic.{slice_cmp}
use Rattle.std.specs.BTreeMap.{BTreeMap, get}
use Rattle.core_language.specs.Names.{Name}
use Rattle.machine_values.specs.declared.values.Value.{Value}
use Rattle.machine_values.specs.Cells.{EndTest}
use Rattle.machine_values.specs.Ends.{ValuePasses}
pub use Rattle.task_tables.specs.Ends.{TasksPass}
use Rattle.chan_machine.specs.declared.configurations.Config.{Config}

-- each end of the values on channels passes the test
abbrev pub ChannelsPass : EndTest → BTreeMap Name (Option Value) → Type 0
ChannelsPass test channels = (c : Name) (v : Value) → get (slice_cmp nat_cmp) channels c ≡ Some (Some v) → ValuePasses test v

abbrev pub ConfigPasses : EndTest → Config → Type 0
ConfigPasses test config = TasksPass test config.tasks × ChannelsPass test config.channels

-- each end is an old one or has the cell 0
abbrev pub NoNewCells : Config → Config → Type 0
NoNewCells before after = (test : EndTest) → ((c : Name) → test c 0 ≡ true) → ConfigPasses test before → ConfigPasses test after

-- the end has the cell 0
abbrev pub has_no_cell : EndTest
has_no_cell c cell = nat_eq cell 0

-- on one thread each end has the cell 0
abbrev pub IsOnOneThread : Config → Type 0
IsOnOneThread config = ConfigPasses has_no_cell config
