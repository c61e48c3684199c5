-- The code's settings and what it has followed, as the definitions have them.
use Rattle.std.specs.Prelude.{List, map, Result}
use Rattle.chan_syntax.specs.Reading.{letter_of}
use Rattle.chan_syntax.specs.declared.operands.Letter.{Letter}
use Rattle.outline_language.specs.LinearForms.{LinearForm}
use Rattle.outline_language.specs.Contexts.{Why, Cursor}
use Rattle.outline_language.specs.Paths as written
use Rattle.outline_language.specs.Paths.{asked}
use Rattle.nameless_shapes.specs.Parts.{ref_of}
use Rattle.nameless_shapes.specs.declared.shapes.Ref.{Ref}
use Rattle.outline_obligations.specs.Cursors.{cursor_at}
use Rattle.outline_obligations.specs.declared.cursors.Taken.{Taken}
use Rattle.protocol_tables.specs.Protocols.{Fork}
use Rattle.outline_paths.specs.Following as spec
use Rattle.outline_paths.specs.declared.settings.Setting.{Setting}
use Rattle.outline_paths.specs.declared.unfolding.Followed.{Followed}

abbrev pub followed_of : Setting → Followed → written.Followed
followed_of setting at = record { end = ref_of at.end; cursor = cursor_at setting.proof.now at.taken }

-- what a letter asks of two forms
abbrev pub asked_in : Setting → Letter → (left right : LinearForm) → Taken → Result Cursor Why
asked_in setting letter left right taken =
    spec.obliged setting.variables setting.hyps.now (asked (letter_of letter) left right) (cursor_at setting.proof.now taken)

abbrev pub letter_in : Setting → Letter → Fork → Followed → Result written.Followed Why
letter_in setting letter fork at = spec.take_letter setting.variables setting.hyps.now (letter_of letter) fork (followed_of setting at)

abbrev pub step_in : Setting → Letter → Followed → Result written.Followed Why
step_in setting letter at = spec.follow_letter setting.table.now setting.variables setting.hyps.now (letter_of letter) (followed_of setting at)

abbrev pub follow_in : Setting → List Letter → Followed → Result written.Followed Why
follow_in setting path at = spec.follow setting.table.now setting.variables setting.hyps.now (map letter_of path) (followed_of setting at)

abbrev pub unfolded_in : Setting → Ref → List Letter → Taken → Result written.Unfolded Why
unfolded_in setting end path taken =
    spec.unfolded setting.table.now setting.variables setting.hyps.now (ref_of end) (map letter_of path) (cursor_at setting.proof.now taken)
