-- The laws of these definitions.
use Rattle.std.specs.Prelude.{◌≡◌, ◌↔◌, Some, None}
use Rattle.core_language.specs.Programs.{Program}
use Rattle.outline_language.specs.Outlined.{Fault, IsOutlined, IsFirstFault, first_fault}

-- a program is outlined exactly where it has no first fault
abbrev pub OutlinedWhereNoFault : Type 0
OutlinedWhereNoFault = (P : Program) → IsOutlined P ↔ (first_fault P ≡ None)

-- what is found first is the first fault
abbrev pub FoundIsFirst : Type 0
FoundIsFirst = (P : Program) (f : Fault) → (first_fault P ≡ Some f) ↔ IsFirstFault P f

-- there is one first fault
abbrev pub FirstFaultIsOne : Type 0
FirstFaultIsOne = (P : Program) (f g : Fault) → IsFirstFault P f → IsFirstFault P g → f ≡ g
