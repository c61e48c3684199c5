-- What each step makes of the seat that makes it: of n cells, the number m, the word r that was found, the seat before and after.
use Rattle.std.specs.Prelude.{◌≡◌, ℕ, ◌+◌, ◌∷◌, Some, None}
use Rattle.atomic_table.specs.Table.{rest}
use Rattle.cell_rules.specs.declared.item.Item.TheVariants.{Load, Parcel}
use Rattle.cell_rules.specs.Words.{cell, task_at, claim_at, chan_at, retire_at, load_at, parcel_at, READY, RUNNING, WAITING}
use Rattle.cell_rules.specs.Words.{FREE, BY, EMPTY, FULL, DONE, PARKED}
use Rattle.cell_rules.specs.Lists.{In}
use Rattle.cell_rules.specs.Rule.{Means}
use Rattle.cell_rules.specs.Plays.{CanTake, CanCollect}
use Rattle.cell_rules.specs.Plays.{Sat, noted, drawing, spending, opened, lifting, settling, raising, stowing, beginning, leaving, halting, waked}
use Rattle.cell_rules.specs.Plays.{parking, seeing, claiming, sending, sending_to, collecting, spending_right, freeing_right, ending, freeing_end}
use Rattle.cell_rules.specs.Plays.{clearing_claim, clearing_chan, reopening, taking, reclaiming}

module _ {L P A : Type 0} where
  -- the slot that was taken last is empty, or has this load
  abbrev pub HasEmpty : ℕ → Sat L P A → Type 0
  HasEmpty p v = v.1 ≡ (p, None) ∷ rest v.1

  abbrev pub HasLoad : ℕ → L → Sat L P A → Type 0
  HasLoad p load v = v.1 ≡ (p, Some (Load load)) ∷ rest v.1

  abbrev pub HasParcel : ℕ → P → Sat L P A → Type 0
  HasParcel p parcel v = v.1 ≡ (p, Some (Parcel parcel)) ∷ rest v.1

  -- the word w was another than the one asked, and stays
  abbrev pub MissStep : ℕ → ℕ → Sat L P A → Sat L P A → Type 0
  MissStep w r v u = u ≡ (noted w r r v.0, v.1)

  -- a number is drawn, or none is left
  abbrev pub DrawStep : ℕ → Sat L P A → Sat L P A → Type 0
  DrawStep r v u = u ≡ (noted 0 r (r + 1) (drawing r v.0), v.1)

  abbrev pub SpendStep : ℕ → Sat L P A → Sat L P A → Type 0
  SpendStep r v u = u ≡ (noted 0 r (r + 1) (spending v.0), v.1)

  -- an empty slot comes to the seat: of a drawn number, of a load in hand, of a free cell; and goes back: of a load, of a parcel
  abbrev pub OpenStep : ℕ → ℕ → ℕ → Sat L P A → Sat L P A → Type 0
  OpenStep n m r v u = u ≡ (noted (task_at (cell n m)) r r (opened m v.0), (load_at (cell n m), None) ∷ v.1)

  abbrev pub LiftStep : ℕ → ℕ → ℕ → Sat L P A → Sat L P A → Type 0
  LiftStep n m r v u = u ≡ (noted (task_at (cell n m)) r r (lifting m v.0), (load_at (cell n m), None) ∷ v.1)

  abbrev pub RaiseStep : ℕ → ℕ → ℕ → Sat L P A → Sat L P A → Type 0
  RaiseStep n m r v u = u ≡ (noted (task_at (cell n m)) r r (raising m v.0), (load_at (cell n m), None) ∷ v.1)

  abbrev pub SettleStep : ℕ → ℕ → ℕ → Sat L P A → Sat L P A → Type 0
  SettleStep n m r v u = u ≡ (noted (task_at (cell n m)) r r (settling m v.0), rest v.1)

  abbrev pub StowStep : ℕ → ℕ → ℕ → Sat L P A → Sat L P A → Type 0
  StowStep n m r v u = u ≡ (noted (chan_at (cell n m)) r r (stowing m v.0), rest v.1)

  -- a slot goes home with its load: with the word t; or WAITING, where the load is to be parked
  abbrev pub LeaveStep : ℕ → ℕ → ℕ → ℕ → Sat L P A → Sat L P A → Type 0
  LeaveStep n m t r v u = u ≡ (noted (task_at (cell n m)) r t (leaving m v.0), rest v.1)

  abbrev pub HaltStep : ℕ → ℕ → ℕ → Sat L P A → Sat L P A → Type 0
  HaltStep n m r v u = (load : L) → HasLoad (load_at (cell n m)) load v → u ≡ (noted (task_at (cell n m)) r (WAITING m) (halting m load v.0), rest v.1)

  -- a parked task is READY again
  abbrev pub WakeStep : ℕ → ℕ → ℕ → Sat L P A → Sat L P A → Type 0
  WakeStep n m r v u = u ≡ (noted (task_at (cell n m)) r (READY m) (waked m v.0), v.1)

  -- a channel is claimed by a load; its parcel goes home; and the receiver j was parked there
  abbrev pub ClaimStep : ℕ → ℕ → ℕ → ℕ → Sat L P A → Sat L P A → Type 0
  ClaimStep n m by r v u = u ≡ (noted (claim_at (cell n m)) r (BY by) (claiming m v.0), (parcel_at (cell n m), None) ∷ v.1)

  abbrev pub SendStep : ℕ → ℕ → ℕ → Sat L P A → Sat L P A → Type 0
  SendStep n m r v u = u ≡ (noted (chan_at (cell n m)) r (FULL m) (sending m v.0), rest v.1)

  abbrev pub SendToStep : ℕ → ℕ → ℕ → ℕ → Sat L P A → Sat L P A → Type 0
  SendToStep n m j r v u = u ≡ (noted (chan_at (cell n m)) r (FULL m) (sending_to m j v.0), rest v.1)

  -- a load is parked at a channel; or it is FULL, which the view has from then on
  abbrev pub ParkStep : ℕ → ℕ → ℕ → ℕ → Sat L P A → Sat L P A → Type 0
  ParkStep n m own r v u = u ≡ (noted (chan_at (cell n m)) r (PARKED own) (parking own v.0), v.1)

  abbrev pub SeeStep : ℕ → ℕ → ℕ → Sat L P A → Sat L P A → Type 0
  SeeStep n m r v u = u ≡ (noted (chan_at (cell n m)) r r (seeing m v.0), v.1)

  -- a finisher retires a cell: the receiver, as the first or as the second
  abbrev pub RetireStep : ℕ → ℕ → ℕ → Sat L P A → Sat L P A → Type 0
  RetireStep n m r v u = u ≡ (noted (retire_at (cell n m)) r (r + 1) (spending_right m v.0), v.1)

  abbrev pub FreeStep : ℕ → ℕ → ℕ → Sat L P A → Sat L P A → Type 0
  FreeStep n m r v u = u ≡ (noted (retire_at (cell n m)) r (r + 1) (freeing_right m v.0), v.1)

  -- the end of a task with its load, as the first or as the second
  abbrev pub EndStep : ℕ → ℕ → L → ℕ → Sat L P A → Sat L P A → Type 0
  EndStep n m load r v u = u ≡ (noted (retire_at (cell n m)) r (r + 1) (ending m load v.0), v.1)

  abbrev pub FreeEndStep : ℕ → ℕ → L → ℕ → Sat L P A → Sat L P A → Type 0
  FreeEndStep n m load r v u = u ≡ (noted (retire_at (cell n m)) r (r + 1) (freeing_end m load v.0), v.1)

  -- the words of a free cell become those of its next number
  abbrev pub ClearClaimStep : ℕ → ℕ → ℕ → Sat L P A → Sat L P A → Type 0
  ClearClaimStep n m r v u = u ≡ (noted (claim_at (cell n m)) r (FREE (m + n)) (clearing_claim m v.0), v.1)

  abbrev pub ClearChanStep : ℕ → ℕ → ℕ → Sat L P A → Sat L P A → Type 0
  ClearChanStep n m r v u = u ≡ (noted (chan_at (cell n m)) r (EMPTY (m + n)) (clearing_chan m v.0), v.1)

module _ {L P A : Type 0} (x : Means L P A) where
  -- the first load of a number goes home, and its name is known; or that of the next number of a free cell
  abbrev pub BeginStep : ℕ → ℕ → ℕ → Sat L P A → Sat L P A → Type 0
  BeginStep n m r v u = (load : L) → HasLoad (load_at (cell n m)) load v → u
      ≡ (noted (task_at (cell n m)) r (READY m) (beginning m (x.title load) v.0), rest v.1)

  abbrev pub ReopenStep : ℕ → ℕ → ℕ → Sat L P A → Sat L P A → Type 0
  ReopenStep n m r v u = (load : L) → HasLoad (load_at (cell n m)) load v → u
      ≡ (noted (task_at (cell n m)) r (READY (m + n)) (reopening n m (x.title load) v.0), rest v.1)

  -- a load comes into hand with its slot: one of the number, from READY; or back from WAITING, the one that was to be parked
  abbrev pub TakeStep : ℕ → ℕ → ℕ → Sat L P A → Sat L P A → Type 0
  TakeStep n m r v u = (load : L) × (x.number load ≡ m) × CanTake x v.0 load
      × (u ≡ (noted (task_at (cell n m)) r (RUNNING m) (taking x m load v.0), (load_at (cell n m), Some (Load load)) ∷ v.1))

  abbrev pub ReclaimStep : ℕ → ℕ → ℕ → Sat L P A → Sat L P A → Type 0
  ReclaimStep n m r v u = (load : L) → In (m, load) v.0.resting → u
      ≡ (noted (task_at (cell n m)) r (RUNNING m) (reclaiming x m load v.0), (load_at (cell n m), Some (Load load)) ∷ v.1)

  -- that load, once its slot is back
  abbrev pub BackStep : ℕ → ℕ → L → Sat L P A → Sat L P A → Type 0
  BackStep n m back v u = (load : L) → In (m, load) v.0.resting → (back ≡ load)
      × ((a b : ℕ) × (u ≡ (noted (task_at (cell n m)) b b (settling m (noted (task_at (cell n m)) a (RUNNING m) (reclaiming x m load v.0))), v.1)))

  -- the parcel of the channel comes with its slot, by a load
  abbrev pub CollectStep : ℕ → ℕ → ℕ → ℕ → Sat L P A → Sat L P A → Type 0
  CollectStep n m by r v u = (parcel : P) × (x.channel parcel ≡ m) × CanCollect x v.0 parcel
      × (u ≡ (noted (chan_at (cell n m)) r (DONE m) (collecting m (x.tells parcel) by v.0), (parcel_at (cell n m), Some (Parcel parcel)) ∷ v.1))
