-- Names behind references.
use Rattle.std.specs.Prelude.{List, map}
use Rattle.std.proofs.Common.{Bor}
use Rattle.core_language.specs.Names.{Ident}

abbrev pub names_in : List (Bor Ident) → List Ident
names_in names = map (λ name. name.now) names
