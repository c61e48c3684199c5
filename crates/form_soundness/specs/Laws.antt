-- What the form of a program gives to soundness.
use Rattle.core_programs.specs.declared.nodes.Parts.{Parts}
use Rattle.core_programs.specs.Bodies.{program_of}
use Rattle.core_programs.specs.Form.{HasForm}
use Rattle.outline_language.specs.Outlined.{IsOutlined}
use Rattle.outline_values.specs.Formed.{IsFormed}

-- where no pass finds a fault, the program has all that outlines rest on
abbrev pub FormIsFormed : Type 0
FormIsFormed = (parts : Parts) → HasForm parts → IsFormed (program_of parts)

-- some program of form is outlined: one that forks, sends, receives and prints
abbrev pub SomeHasForm : Type 0
SomeHasForm = (parts : Parts) × HasForm parts × IsOutlined (program_of parts)
