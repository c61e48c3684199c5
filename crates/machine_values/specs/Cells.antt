-- Values with the cells of their ends, and tests of those ends.
use Rattle.std.specs.Prelude.{◌≡◌, ⊤, ℕ, ℤ, Bool, true}
use Rattle.core_language.specs.Names.{Name}
use Rattle.core_language.specs.Values as core

-- a value as the machine has it: an end has the name of its channel and the number of its cell
pub data Celled : Type 0 where
  Int : ℤ → Celled
  Unit : Celled
  Pair : Celled → Celled → Celled
  Arm : (number : ℕ) → Celled → Celled
  End : Name → (cell : ℕ) → Celled

-- the value of the core language, where ends have no cells
abbrev pub uncelled : Celled → core.Value
uncelled (Int z) = core.Int z
uncelled Unit = core.Unit
uncelled (Pair a b) = core.Pair (uncelled a) (uncelled b)
uncelled (Arm i a) = core.Arm i (uncelled a)
uncelled (End c cell) = core.End c

-- a test of the names and cells of ends
abbrev pub EndTest : Type 0
EndTest = Name → ℕ → Bool

-- each end of the value passes the test
abbrev pub Passes : EndTest → Celled → Type 0
Passes test (Int z) = ⊤
Passes test Unit = ⊤
Passes test (Pair a b) = Passes test a × Passes test b
Passes test (Arm i a) = Passes test a
Passes test (End c cell) = test c cell ≡ true
