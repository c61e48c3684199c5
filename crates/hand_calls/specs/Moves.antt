-- What a call makes of its hand, whatever its worker has besides: the hand before, and after.
use Rattle.std.specs.Prelude.{◌≡◌, ℕ, ◌∷◌}
use Rattle.cell_rules.specs.Rule.{Means}
use Rattle.hand_states.specs.Hands.{Store, Idle, Holds}
use Rattle.one_shot_word.specs.Seats.{size, told}
use Rattle.one_shot_word.specs.declared.cells.Cells.{Cells}
use Rattle.one_shot_word.specs.declared.hand.Hand.{Hand}
use Rattle.one_shot_word.specs.declared.answers.Got as got
use Rattle.one_shot_word.specs.declared.answers.Retired as retired
use Rattle.hand_calls.specs.Answering.{Receiving, Retiring, Ending}

module _ {L P A : Type 0} (x : Means L P (A × ℕ)) (cells : Cells L P A) where
  -- nothing is in hand, or this load
  abbrev pub IsIdle : Store L → Hand L P A → Type 0
  IsIdle s hand = Idle x (told cells) s hand.seat.me.0

  abbrev pub IsHolding : Store L → L → Hand L P A → Type 0
  IsHolding s load hand = Holds x (told cells) s load hand.seat.me.0

  -- for some worker this load is in hand; with the right to retire m; with m as a free cell
  abbrev pub HasLoad : L → Hand L P A → Type 0
  HasLoad load hand = (s : Store L) × IsHolding s load hand

  abbrev pub HasRight : L → ℕ → Hand L P A → Type 0
  HasRight load m hand = (s : Store L) × IsHolding (record s { rights = m ∷ s.rights }) load hand

  abbrev pub HasFree : L → ℕ → Hand L P A → Type 0
  HasFree load m hand = (s : Store L) × IsHolding (record s { free = m ∷ s.free }) load hand

  -- the hand stays as it is, with nothing in hand, or with this load
  abbrev pub StaysIdle : Hand L P A → Hand L P A → Type 0
  StaysIdle hand after = (s : Store L) → IsIdle s hand → IsIdle s after

  abbrev pub StaysHolding : L → Hand L P A → Hand L P A → Type 0
  StaysHolding load hand after = (s : Store L) → IsHolding s load hand → IsHolding s load after

  -- the load of m comes into hand, and goes home
  abbrev pub TakesLoad : ℕ → L → Hand L P A → Hand L P A → Type 0
  TakesLoad m load hand after = (x.number load ≡ m) × ((s : Store L) → IsIdle s hand → IsHolding s load after)

  abbrev pub GoesHome : L → Hand L P A → Hand L P A → Type 0
  GoesHome load hand after = (s : Store L) → IsHolding s load hand → IsIdle s after

  -- what receiving on m made of it; retiring the cell of m as its receiver; and as the end of the task
  abbrev pub Receives : L → ℕ → Hand L P A → Hand L P A → got.Got L P → Type 0
  Receives load m hand after answer = (s : Store L) → IsHolding s load hand → Receiving x (told cells) s load m hand.seat.me.0 after.seat.me.0 answer

  abbrev pub Retires : L → ℕ → Hand L P A → Hand L P A → retired.Retired → Type 0
  Retires load m hand after answer = (s : Store L) → IsHolding (record s { rights = m ∷ s.rights }) load hand
      → Retiring x (told cells) s load (size cells) m after.seat.me.0 answer

  abbrev pub Ends : L → Hand L P A → Hand L P A → retired.Retired → Type 0
  Ends load hand after answer = (s : Store L) → IsHolding s load hand → Ending x (told cells) s load (size cells) after.seat.me.0 answer

  -- the free cell m was given again
  abbrev pub Reopens : L → ℕ → Hand L P A → Hand L P A → Type 0
  Reopens load m hand after = (s : Store L) → IsHolding (record s { free = m ∷ s.free }) load hand → IsHolding s load after
