-- The numbers of a row, by their places.
use Rattle.std.specs.Prelude.{ℤ}
use Rattle.farkas_check.specs.Rows.{coefficient}
use Rattle.farkas_check.specs.declared.cert.Row.{Row}
use Rattle.farkas_check.specs.declared.check.Place.{Place}
use Rattle.farkas_check.specs.declared.check.Place.TheVariants.{Variable, Constant}

-- the number of a row at a place
abbrev pub number_at : Place → Row → ℤ
number_at (Variable variable) row = coefficient row variable
number_at Constant row = row.constant
