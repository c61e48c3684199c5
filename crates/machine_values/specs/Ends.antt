-- Which ends the values of a run have.
use Rattle.std.specs.Prelude.{List, Result, IfOk}
use Rattle.std.specs.List.{All}
use Rattle.machine_values.specs.Cells.{EndTest, Passes}
use Rattle.machine_values.specs.Reading.{celled_of}
use Rattle.machine_values.specs.declared.values.Value.{Value}
use Rattle.machine_values.specs.declared.binds.Bind.{Bind}

-- each end of the value passes the test
abbrev pub ValuePasses : EndTest → Value → Type 0
ValuePasses test v = Passes test (celled_of v)

-- each end of the variables' values does
abbrev pub BindsPass : EndTest → List Bind → Type 0
BindsPass test binds = All (λ b. ValuePasses test b.value) binds

-- each end of what was made does
abbrev pub MadePasses : {E : Type 0} → EndTest → Result Value E → Type 0
MadePasses test made = IfOk made (ValuePasses test)

abbrev pub ValuesPass : EndTest → List Value → Type 0
ValuesPass test values = All (ValuePasses test) values
