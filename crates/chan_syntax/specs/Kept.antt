-- The bytes of an identifier, in the value itself or shared.
use Rattle.std.specs.Prelude.{ℕ, List}
use Rattle.std.specs.Arc.{arc_value}
use Rattle.chan_syntax.specs.declared.identifiers.Kept.{Kept}
use Rattle.chan_syntax.specs.declared.identifiers.Kept.TheVariants as kept

-- a short identifier's own bytes, or those that a long one shares with its copies
abbrev pub bytes_in : Kept → List ℕ
bytes_in (kept.Short short) = short
bytes_in (kept.Long bytes) = (arc_value bytes).items
