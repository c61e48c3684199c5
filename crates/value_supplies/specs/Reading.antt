-- Answers as the definitions have them.
use Rattle.std.specs.Prelude.{Option}
use Rattle.std.specs.Option.{option_map}
use Rattle.chan_syntax.specs.declared.operands.Proof.{Proof}
use Rattle.outline_language.specs.Nameless.{Res}
use Rattle.outline_language.specs.Giving.{Given}
use Rattle.outline_obligations.specs.declared.cursors.Taken.{Taken}
use Rattle.outline_obligations.specs.Cursors.{cursor_at}
use Rattle.outline_contexts.specs.Trails.{Trail, context_in}
use Rattle.value_supplies.specs.declared.asking.Asked.{Asked}
use Rattle.value_supplies.specs.declared.parts.PairParts.{PairParts}
use Rattle.value_supplies.specs.Asking as asking

-- what is left once a value is given
abbrev pub given_at : Trail → Proof → Taken → Given
given_at trail proof taken = record { context = context_in trail; cursor = cursor_at proof taken }

-- a shape that is asked for, and what is left of the proof
abbrev pub asked_of : Proof → Asked → asking.Asked
asked_of proof asked = record { shape = asked.shape; cursor = cursor_at proof asked.taken }

-- both resources of a pair
abbrev pub parts_of : Option PairParts → Option (Res × Res)
parts_of parts = option_map (λ p. (p.first.now, p.second.now)) parts
