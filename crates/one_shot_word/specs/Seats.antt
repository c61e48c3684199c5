-- A hand at a table of cells, and the slot that its seat took last.
use Rattle.std.specs.Prelude.{◌≡◌, ℕ, ◌<◌, ◌≤◌, ◌^◌, []}
use Rattle.atomic_table.specs.Table.{Me}
use Rattle.cell_rules.specs.declared.view.View.{View}
use Rattle.cell_rules.specs.Lists.{count, In}
use Rattle.cell_rules.specs.Words.{cell, task_at, claim_at, chan_at, retire_at, load_at, parcel_at}
use Rattle.cell_rules.specs.Marks.{Opening, InHand, Lifted, Reopening, Claimed, Parking, Free, ClaimCleared, ChanCleared}
use Rattle.cell_rules.specs.Rule.{Means, Held}
use Rattle.cell_rules.specs.Asks.{Knows, Tells, IsNew, KnowsParcel}
use Rattle.one_shot_word.specs.declared.cells.Cells.{Cells}
use Rattle.one_shot_word.specs.declared.hand.Hand.{Hand}
use Rattle.one_shot_word.specs.Steps.{HasLoad, HasParcel}

module _ {L P A : Type 0} where
  -- how many cells there are
  abbrev pub size : Cells L P A → ℕ
  size cells = cells.table.shared.key.cells

  -- what it was told when it was made: the program and its limit
  abbrev pub told : Cells L P A → A × ℕ
  told cells = (cells.table.shared.key.program, cells.table.shared.key.rounds)

  -- where the words and the slots of a number lie
  abbrev pub task_of : Cells L P A → ℕ → ℕ
  task_of cells m = task_at (cell cells.table.shared.key.cells m)

  abbrev pub claim_of : Cells L P A → ℕ → ℕ
  claim_of cells m = claim_at (cell cells.table.shared.key.cells m)

  abbrev pub chan_of : Cells L P A → ℕ → ℕ
  chan_of cells m = chan_at (cell cells.table.shared.key.cells m)

  abbrev pub retire_of : Cells L P A → ℕ → ℕ
  retire_of cells m = retire_at (cell cells.table.shared.key.cells m)

  abbrev pub load_of : Cells L P A → ℕ → ℕ
  load_of cells m = load_at (cell cells.table.shared.key.cells m)

  abbrev pub parcel_of : Cells L P A → ℕ → ℕ
  parcel_of cells m = parcel_at (cell cells.table.shared.key.cells m)

  -- the hand is of this table, has no slot, and stands for some hand
  abbrev pub IsAt : Cells L P A → Hand L P A → Type 0
  IsAt cells hand = (hand.seat.table_id ≡ cells.table.shared.table_id) × (hand.seat.me.1 ≡ []) × (0 < hand.seat.me.0.parts)

-- the view has the load of the number in hand
abbrev pub HasInHand : {L A : Type 0} → View L A → ℕ → Type 0
HasInHand v m = (m ≤ 2 ^ 60) × (0 < count (InHand m) v.marks)

-- the view has a load of the number that is being parked
abbrev pub IsParking : {L A : Type 0} → View L A → ℕ → Type 0
IsParking {L} v m = (0 < count (Parking m) v.marks) × ((load : L) × In (m, load) v.resting)

-- the view has the cell of the number as free, with neither word cleared and its slot at home
abbrev pub HasFree : {L A : Type 0} → View L A → ℕ → Type 0
HasFree v m = (0 < count (Free m) v.marks) × (count (ClaimCleared m) v.marks ≡ 0) × (count (ChanCleared m) v.marks ≡ 0) × (count (Reopening m) v.marks ≡ 0)

-- or with both words cleared and its slot in hand
abbrev pub HasCleared : {L A : Type 0} → View L A → ℕ → Type 0
HasCleared v m = (0 < count (Free m) v.marks) × (0 < count (ClaimCleared m) v.marks) × (0 < count (ChanCleared m) v.marks) × (0 < count (Reopening m) v.marks)

module _ {L P A : Type 0} (x : Means L P A) where
  -- the load may go home: the view knows what it tells, and it tells all that the view has as received by it
  abbrev pub MayRest : View L A → L → Type 0
  MayRest v load = Knows x v load × Tells x v load (x.number load)

  -- the slot that was taken last has a load of the number that may go home, or its first load, or a parcel for it
  abbrev pub CarriesKnown : Me (Held L P) (View L A) → ℕ → ℕ → Type 0
  CarriesKnown me p m = (load : L) × HasLoad p load me × (x.number load ≡ m) × Knows x me.0 load × Tells x me.0 load m

  abbrev pub CarriesNew : Me (Held L P) (View L A) → ℕ → ℕ → Type 0
  CarriesNew me p m = (load : L) × HasLoad p load me × (x.number load ≡ m) × IsNew x me.0 load

  abbrev pub CarriesParcel : Me (Held L P) (View L A) → ℕ → ℕ → Type 0
  CarriesParcel me p m = (parcel : P) × HasParcel p parcel me × (x.channel parcel ≡ m) × KnowsParcel x me.0 parcel

  -- and the seat may store it: of n cells, a number that it opened, one that it lifted, a channel that it claimed
  abbrev pub StoresNew : ℕ → ℕ → Me (Held L P) (View L A) → Type 0
  StoresNew n m me = (0 < count (Opening m) me.0.marks) × CarriesNew me (load_at (cell n m)) m

  abbrev pub StoresKnown : ℕ → ℕ → Me (Held L P) (View L A) → Type 0
  StoresKnown n m me = (0 < count (Lifted m) me.0.marks) × CarriesKnown me (load_at (cell n m)) m

  abbrev pub StoresParcel : ℕ → ℕ → Me (Held L P) (View L A) → Type 0
  StoresParcel n m me = (0 < count (Claimed m) me.0.marks) × CarriesParcel me (parcel_at (cell n m)) m
