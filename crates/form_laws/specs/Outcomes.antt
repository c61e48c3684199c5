-- The outcome of the form passes.
use Rattle.std.specs.Prelude.{◌≡◌, Option}
use Rattle.form_faults.specs.declared.faults.Ill.{Ill}
use Rattle.core_programs.specs.declared.nodes.Parts.{Parts}
use Rattle.core_programs.specs.Form.{Passes}

-- the passes find one fault, or none
abbrev pub HasOneOutcome : Type 0
HasOneOutcome = (parts : Parts) (r s : Option Ill) → Passes parts r → Passes parts s → r ≡ s
