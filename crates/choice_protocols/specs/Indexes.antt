-- Protocols found by their names.
use Rattle.std.specs.Prelude.{◌≡◌, ℕ, List, slice_get}
use Rattle.std.specs.Option.{option_and_then}
use Rattle.std.specs.Cmp.Lexicographic.{slice_cmp}
use Rattle.std.specs.Ordering.{nat_cmp}
use Rattle.std.specs.BTreeMap.{BTreeMap, get}
use Rattle.core_language.specs.Names.{Ident}
use Rattle.session_lowering.specs.declared.sources.Source.{Source}
use Rattle.session_lowering.specs.Choices.{source_named}

-- the index leads to the first protocol with each name
abbrev pub LeadsToFirst : List Source → BTreeMap Ident ℕ → Type 0
LeadsToFirst sources index = (name : Ident) → option_and_then (slice_get sources) (get (slice_cmp nat_cmp) index name) ≡ source_named sources name
