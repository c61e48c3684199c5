-- The hands of a table, at its start and at its end.
use Rattle.std.specs.Prelude.{◌≡◌, ℕ, List, [], ◌∷◌}
use Rattle.cell_rules.specs.declared.view.View.{View}
use Rattle.cell_rules.specs.Rule.{fresh, blank, both}
use Rattle.cell_rules.specs.Closing.{HasNothing}
use Rattle.one_shot_word.specs.declared.cells.Cells.{Cells}
use Rattle.one_shot_word.specs.declared.hand.Hand.{Hand}
use Rattle.one_shot_word.specs.declared.rule.Key.{Key}
use Rattle.one_shot_word.specs.Seats.{told, IsAt}

module _ {L P A : Type 0} where
  -- a table that was opened with this key, and the one hand that stands for all
  abbrev pub IsOpened : Key A → Cells L P A → Hand L P A → Type 0
  IsOpened key cells hand = (cells.table.shared.key ≡ key) × (hand.seat.table_id ≡ cells.table.shared.table_id)
      × (hand.seat.me ≡ (fresh key.hands ((key.program, key.rounds) ∷ []), []))

  -- a hand as it is made: it carries the program with its limit, and nothing else
  abbrev pub IsFirst : Cells L P A → Hand L P A → Type 0
  IsFirst cells hand = (hand.seat.table_id ≡ cells.table.shared.table_id) × (hand.seat.me ≡ (fresh 1 (told cells ∷ []), []))

  -- a hand that may be closed: it has nothing but loads that it keeps, rights and free cells
  abbrev pub IsDone : Cells L P A → Hand L P A → Type 0
  IsDone cells hand = IsAt cells hand × HasNothing hand.seat.me.0

  -- a view with those of the hands taken in, in their order; and the view of all hands
  abbrev pub gathered : View L (A × ℕ) → List (Hand L P A) → View L (A × ℕ)
  gathered v [] = v
  gathered v (h ∷ hs) = gathered (both v h.seat.me.0) hs

  abbrev pub together : List (Hand L P A) → View L (A × ℕ)
  together [] = blank
  together (h ∷ hs) = gathered h.seat.me.0 hs
