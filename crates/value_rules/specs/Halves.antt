-- The resources of a pair as the definitions have them.
use Rattle.outline_language.specs.Nameless.{Res}
use Rattle.value_rules.specs.declared.parts.Halves.{Halves}

abbrev pub halves_of : Halves → Res × Res
halves_of halves = (halves.first.now, halves.second.now)
