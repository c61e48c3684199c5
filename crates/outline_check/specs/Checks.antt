-- What a check of a program tells.
use Rattle.std.specs.Prelude.{◌≡◌, Some}
use Rattle.core_programs.specs.declared.nodes.Parts.{Parts}
use Rattle.core_programs.specs.Bodies.{program_of}
use Rattle.outline_language.specs.Outlined.{IsOutlined, first_fault}
use Rattle.outline_walk.specs.Refusals.{fault_of, IsPlaced}
use Rattle.outline_check.specs.declared.checking.Checked.{Checked}
use Rattle.outline_check.specs.declared.checking.Checked.TheVariants.{Accepted, Refused}

-- an accepted program is the one that was checked, and outlined; a refusal is the first fault, at a node that stands there
abbrev pub Tells : Parts → Checked → Type 0
Tells parts (Accepted program) = (program ≡ parts) × IsOutlined (program_of parts)
Tells parts (Refused refusal) = (first_fault (program_of parts) ≡ Some (fault_of refusal)) × IsPlaced parts.nodes (Some refusal)
