use Rattle.std.proofs.Common.{◌-◌, length}
use Rattle.name_texts.proofs.Reading.{Reads}
use Rattle.name_texts.proofs.names.read_parts.Given as goal

abbrev pub invariant-parts : goal.invariant-parts
invariant-parts l = Reads l.fn.text l.name l.rest

abbrev pub decreases-parts : goal.decreases-parts
decreases-parts l = 1024 - length l.name
