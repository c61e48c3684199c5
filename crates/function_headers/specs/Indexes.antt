-- Headers found by their names.
use Rattle.std.specs.Prelude.{◌≡◌, ℕ, List, slice_get}
use Rattle.std.specs.Option.{option_and_then}
use Rattle.std.specs.Cmp.Lexicographic.{slice_cmp}
use Rattle.std.specs.Ordering.{nat_cmp}
use Rattle.std.specs.BTreeMap.{BTreeMap, get}
use Rattle.core_language.specs.Names.{Ident}
use Rattle.function_headers.specs.Headers.{Header, header_named}

-- the index leads to the first header with each name
abbrev pub LeadsToFirst : List Header → BTreeMap Ident ℕ → Type 0
LeadsToFirst headers index = (name : Ident) → option_and_then (slice_get headers) (get (slice_cmp nat_cmp) index name) ≡ header_named name headers
