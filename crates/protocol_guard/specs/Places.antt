-- The places of protocols in a map.
use Rattle.std.specs.Prelude.{◌≡◌, ℕ, Bool, if◌then◌else◌, List, Option, Some, None}
use Rattle.std.specs.Cmp.Lexicographic.{slice_cmp}
use Rattle.std.specs.Ordering.{nat_cmp}
use Rattle.std.specs.BTreeMap.{BTreeMap, get}
use Rattle.core_language.specs.Names.{Ident, same}
use Rattle.chan_syntax.specs.declared.resources.Proto.{Proto}
use Rattle.protocol_guard.specs.Guards.{proto_place}

abbrev pub placed : BTreeMap Ident ℕ → Ident → Option ℕ
placed places x = get (slice_cmp nat_cmp) places x

-- a name that has a place keeps it
abbrev pub joined : Option ℕ → Bool → ℕ → Option ℕ
joined (Some k) here place = Some k
joined None here place = if here then Some place else None

abbrev pub AddsPlace : BTreeMap Ident ℕ → BTreeMap Ident ℕ → Ident → ℕ → Type 0
AddsPlace old new name place = (x : Ident) → placed new x ≡ joined (placed old x) (same name x) place

abbrev pub ArePlaces : List Proto → BTreeMap Ident ℕ → Type 0
ArePlaces protos places = (x : Ident) → placed places x ≡ proto_place protos x
