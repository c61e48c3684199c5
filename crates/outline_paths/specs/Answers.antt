-- What it takes for an answer to be that of the definitions, and the answer.
use Rattle.std.specs.Prelude.{◌≡◌, ℕ, List, map, length, Result}
use Rattle.core_language.specs.Resources.{Proto}
use Rattle.chan_syntax.specs.Reading.{letter_of}
use Rattle.chan_syntax.specs.declared.operands.Letter.{Letter}
use Rattle.chan_syntax.specs.declared.operands.Proof.{Proof}
use Rattle.farkas_check.specs.declared.cert.Row.{Row}
use Rattle.outline_language.specs.Contexts.{Why, Context}
use Rattle.outline_language.specs.Paths as path
use Rattle.nameless_shapes.specs.Parts.{ref_of}
use Rattle.nameless_shapes.specs.declared.shapes.Ref.{Ref}
use Rattle.outline_obligations.specs.Cursors.{cursor_at}
use Rattle.outline_obligations.specs.declared.cursors.Taken.{Taken}
use Rattle.outline_paths.specs.declared.unfolding.Unfolded.{Unfolded}
use Rattle.protocol_tables.specs.Protocols.{Protocol, protocol_read}
use Rattle.protocol_tables.specs.Reading.{message_of}

-- the protocols read, and a context with these hypotheses over so many integer variables
pub record Serves (protocols : List Protocol) (variables : ℕ) (hyps : List Row) (protos : List Proto) (ctx : Context) : Type 0 where
  pub table : protocols ≡ map protocol_read protos
  pub ints : length ctx.ints ≡ variables
  pub rows : ctx.hyps ≡ hyps

abbrev pub unfolded_of : Proof → Unfolded → path.Unfolded
unfolded_of proof unfolded = record { message = message_of unfolded.message; cursor = cursor_at proof unfolded.taken }

-- whatever protocols and context these serve, the answer is so
abbrev pub Unfolds : (Result path.Unfolded Why → Type 0) → List Protocol → ℕ → List Row → Ref → List Letter → Proof → Taken → Type 0
Unfolds IsSo protocols variables hyps end letters proof taken = (protos : List Proto) (ctx : Context) → Serves protocols variables hyps protos ctx
    → IsSo (path.unfolded protos ctx (ref_of end) (map letter_of letters) (cursor_at proof taken))
