-- Protocols found by their names.
use Rattle.std.specs.Prelude.{◌≡◌, ℕ, List, Option, slice_get}
use Rattle.std.specs.Option.{option_and_then}
use Rattle.std.specs.Cmp.Lexicographic.{slice_cmp}
use Rattle.std.specs.Ordering.{nat_cmp}
use Rattle.std.specs.BTreeMap.{BTreeMap, get}
use Rattle.core_language.specs.Names.{Ident}
use Rattle.protocol_tables.specs.Protocols.{Protocol, protocol_named}

-- the index leads to the first protocol with each name
abbrev pub LeadsToFirst : List Protocol → BTreeMap Ident ℕ → Type 0
LeadsToFirst protocols index = (name : Ident) → option_and_then (slice_get protocols) (get (slice_cmp nat_cmp) index name) ≡ protocol_named name protocols
