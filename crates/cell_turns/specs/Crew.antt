-- What a hand of the crew has between its calls.
use Rattle.std.specs.Prelude.{◌≡◌, ℕ, ◌+◌, ◌≤◌, ◌^◌, List, ◌∷◌, Some, None}
use Rattle.std.specs.declared.option.Option as std_option
use Rattle.hand_states.specs.Hands.{Store, Idle, Holds}
use Rattle.one_shot_word.specs.Seats.{told}
use Rattle.one_shot_word.specs.Seats.{size, IsAt}
use Rattle.one_shot_word.specs.declared.cells.Cells.{Cells}
use Rattle.one_shot_word.specs.declared.hand.Hand.{Hand}
use Rattle.one_shot_word.specs.declared.answers.FreeCell.{FreeCell}
use Rattle.one_shot_word.specs.declared.answers.Got as got
use Rattle.one_shot_word.specs.declared.answers.Got.TheVariants.{Value, Parked, Misused}
use Rattle.one_shot_word.specs.declared.answers.Retired as retired
use Rattle.one_shot_word.specs.declared.answers.Retired.TheVariants.{First, Free}
use Rattle.cell_turns.specs.declared.job.Job.{Job}
use Rattle.cell_turns.specs.declared.job.Note.{Note}
use Rattle.cell_turns.specs.Meanings.{meanings}

-- the hand is one of a table of program 7
abbrev pub OfCrew : Cells Job Note ℕ → Hand Job Note ℕ → Type 0
OfCrew cells hand = IsAt cells hand × (told cells ≡ (7, 50)) × (size cells ≤ 1048576) × (hand.seat.me.0.parts ≡ 1)

-- nothing is in hand; but this free cell
abbrev pub IsIdle : Cells Job Note ℕ → Hand Job Note ℕ → Type 0
IsIdle cells hand = OfCrew cells hand × ((s : Store Job) × Idle meanings (told cells) s hand.seat.me.0)

abbrev pub HasFree : Cells Job Note ℕ → Hand Job Note ℕ → FreeCell → Type 0
HasFree cells hand cell = OfCrew cells hand × (cell.next.0 ≡ cell.number.0 + size cells)
    × ((s : Store Job) × Idle meanings (told cells) (record s { free = cell.number.0 ∷ s.free }) hand.seat.me.0)

abbrev pub HasSpare : Cells Job Note ℕ → Hand Job Note ℕ → std_option.Option FreeCell → Type 0
HasSpare cells hand None = IsIdle cells hand
HasSpare cells hand (Some cell) = HasFree cells hand cell

-- this load is in hand; and a free cell
abbrev pub HoldsJob : Cells Job Note ℕ → Hand Job Note ℕ → Job → Type 0
HoldsJob cells hand job = OfCrew cells hand × (job.number.0 ≤ 2 ^ 60) × ((s : Store Job) × Holds meanings (told cells) s job hand.seat.me.0)

abbrev pub HoldsFree : Cells Job Note ℕ → Hand Job Note ℕ → Job → FreeCell → Type 0
HoldsFree cells hand job cell = OfCrew cells hand × (job.number.0 ≤ 2 ^ 60) × (cell.next.0 ≡ cell.number.0 + size cells)
    × ((s : Store Job) × Holds meanings (told cells) (record s { free = cell.number.0 ∷ s.free }) job hand.seat.me.0)

-- this load is in hand, and the right to retire a number that it received
abbrev pub HoldsRight : Cells Job Note ℕ → Hand Job Note ℕ → Job → ℕ → Type 0
HoldsRight cells hand job m = OfCrew cells hand × (job.number.0 ≤ 2 ^ 60)
    × ((s : Store Job) × Holds meanings (told cells) (record s { rights = m ∷ s.rights }) job hand.seat.me.0)

-- what a receive on m by the load of this number left; what retiring left, as the end of a task and as the receiver
abbrev pub Replies : Cells Job Note ℕ → Hand Job Note ℕ → ℕ → ℕ → got.Got Job Note → Type 0
Replies cells hand own m (Value job note) = (job.number.0 ≡ own) × HoldsRight cells hand job m
Replies cells hand own m Parked = IsIdle cells hand
Replies cells hand own m (Misused job what) = HoldsJob cells hand job

abbrev pub EndsOne : Cells Job Note ℕ → Hand Job Note ℕ → retired.Retired → Type 0
EndsOne cells hand First = IsIdle cells hand
EndsOne cells hand (Free cell) = HasFree cells hand cell

abbrev pub RetiresOne : Cells Job Note ℕ → Hand Job Note ℕ → Job → retired.Retired → Type 0
RetiresOne cells hand job First = HoldsJob cells hand job
RetiresOne cells hand job (Free cell) = HoldsFree cells hand job cell
