-- What each step does to the view of the seat that makes it, and what it tells: of the step, the seat before, the number found and the seat after.
use Rattle.std.specs.Prelude.{◌≡◌, ◌≢◌, ◌⊎◌, ℕ, ◌+◌, ◌*◌, ◌%◌, ◌^◌, ◌<◌, ◌≤◌, List, [], ◌∷◌, ◌++◌, map, Some, None}
use Rattle.atomic_table.specs.Table.{Me, Step, rest}
use Rattle.cell_rules.specs.declared.item.Item.TheVariants.{Load, Parcel}
use Rattle.cell_rules.specs.declared.view.View.{View}
use Rattle.cell_rules.specs.Lists.{count, without, besides, In}
use Rattle.cell_rules.specs.Words.{cell, task_at, chan_at, retire_at, load_at, parcel_at, READY, RUNNING, WAITING, FREE, EMPTY, FULL, PARKED}
use Rattle.cell_rules.specs.Marks.{Drawn, Opening, InHand, Lifted, Reopening, Claimed, Picking, Parking, Waking, Right, Free, ClaimCleared, ChanCleared, Kept}
use Rattle.cell_rules.specs.Rule.{Means, Held}

module _ {L A : Type 0} where
  -- the step is in the log
  abbrev pub noted : ℕ → ℕ → ℕ → View L A → View L A
  noted word found left v = record v { log = (word, found, left) ∷ v.log }

  -- a mark is gained, or lost, or one is made another
  abbrev pub gained : ℕ → View L A → View L A
  gained b v = record v { marks = b ∷ v.marks }

  abbrev pub lost : ℕ → View L A → View L A
  lost a v = record v { marks = without a v.marks }

  abbrev pub turned : ℕ → ℕ → View L A → View L A
  turned a b v = record v { marks = b ∷ without a v.marks }

  -- a number was drawn, or there was none left
  abbrev pub drawing : ℕ → View L A → View L A
  drawing m v = gained (Drawn m) v

  abbrev pub spending : View L A → View L A
  spending v = record v { spent = v.spent + 1 }

  -- slots move: of a drawn number, of a load in hand and back, of a free cell, and of a collected parcel back
  abbrev pub opened : ℕ → View L A → View L A
  opened m v = turned (Drawn m) (Opening m) v

  abbrev pub lifting : ℕ → View L A → View L A
  lifting m v = turned (InHand m) (Lifted m) v

  abbrev pub settling : ℕ → View L A → View L A
  settling m v = turned (Lifted m) (InHand m) v

  abbrev pub raising : ℕ → View L A → View L A
  raising m v = gained (Reopening m) v

  abbrev pub stowing : ℕ → View L A → View L A
  stowing m v = turned (Picking m) (Right m) v

  -- the first load of a number goes home
  abbrev pub beginning : ℕ → List ℕ → View L A → View L A
  beginning m title v = record v { marks = without (Opening m) v.marks; made = m ∷ v.made; names = (m, title) ∷ v.names }

  -- a load goes home: for good, or to be parked
  abbrev pub leaving : ℕ → View L A → View L A
  leaving m v = record v { marks = without (Lifted m) v.marks; receipts = besides m v.receipts }

  abbrev pub halting : ℕ → L → View L A → View L A
  halting m load v = record v { marks = Parking m ∷ without (Lifted m) v.marks; receipts = besides m v.receipts; resting = (m, load) ∷ v.resting }

  -- a task was woken, or was parked
  abbrev pub waked : ℕ → View L A → View L A
  waked m v = lost (Waking m) v

  -- a channel was found FULL, so that something was sent on it
  abbrev pub seeing : ℕ → View L A → View L A
  seeing m v = record v { sends = m ∷ v.sends }

  abbrev pub parking : ℕ → View L A → View L A
  parking m v = record v { marks = without (Parking m) v.marks; resting = besides m v.resting }

  -- the channel was claimed; the parcel went home; and a receiver was parked there
  abbrev pub claiming : ℕ → View L A → View L A
  claiming m v = gained (Claimed m) v

  abbrev pub sending : ℕ → View L A → View L A
  sending m v = record v { marks = without (Claimed m) v.marks; sends = m ∷ v.sends }

  abbrev pub sending_to : ℕ → ℕ → View L A → View L A
  sending_to m i v = record v { marks = Waking i ∷ without (Claimed m) v.marks; sends = m ∷ v.sends }

  -- the parcel came: what it tells, and by which load
  abbrev pub collecting : ℕ → List (ℕ × List ℕ) → ℕ → View L A → View L A
  collecting m names by v = record v { marks = Picking m ∷ v.marks; names = names ++ v.names; receipts = (by, m) ∷ v.receipts }

  -- a finisher retired a cell: the receiver or the end, as the first or as the second
  abbrev pub spending_right : ℕ → View L A → View L A
  spending_right m v = lost (Right m) v

  abbrev pub freeing_right : ℕ → View L A → View L A
  freeing_right m v = turned (Right m) (Free m) v

  abbrev pub ending : ℕ → L → View L A → View L A
  ending m load v = record v { marks = Kept m ∷ without (InHand m) v.marks; kept = (m, load) ∷ v.kept }

  abbrev pub freeing_end : ℕ → L → View L A → View L A
  freeing_end m load v = record v { marks = Free m ∷ Kept m ∷ without (InHand m) v.marks; kept = (m, load) ∷ v.kept }

  -- the words of a free cell are cleared, and it is given again, of n cells
  abbrev pub clearing_claim : ℕ → View L A → View L A
  clearing_claim m v = gained (ClaimCleared m) v

  abbrev pub clearing_chan : ℕ → View L A → View L A
  clearing_chan m v = gained (ChanCleared m) v

  abbrev pub reopening : ℕ → ℕ → List ℕ → View L A → View L A
  reopening n m title v = record v { marks = without (Reopening m) (without (ChanCleared m) (without (ClaimCleared m) (without (Free m) v.marks))); made = (m + n) ∷ v.made; names = (m + n, title) ∷ v.names }

-- a receipt of the load for each number that it tells as received
abbrev pub receipts_of : ℕ → List ℕ → List (ℕ × ℕ)
receipts_of by ms = map (λ m. (by, m)) ms

module _ {L P A : Type 0} (x : Means L P A) where
  -- the load comes into hand, with its slot
  abbrev pub taking : ℕ → L → View L A → View L A
  taking m load v = record v { marks = Lifted m ∷ v.marks; names = x.mentions load ++ v.names; sends = x.sent load ++ v.sends; receipts = receipts_of m (x.received load) ++ v.receipts }

  abbrev pub reclaiming : ℕ → L → View L A → View L A
  reclaiming m load v = record v { marks = Lifted m ∷ without (Parking m) v.marks; resting = besides m v.resting; receipts = receipts_of m (x.received load) ++ v.receipts }

abbrev pub Sat : Type 0 → Type 0 → Type 0 → Type 0
Sat L P A = Me (Held L P) (View L A)

abbrev pub Telling : Type 0 → Type 0 → Type 0 → Type 1
Telling L P A = Step (Held L P) → Sat L P A → ℕ → Sat L P A → Type 0

module _ {L P A : Type 0} where
  -- at a draw of n cells
  abbrev pub draws : Telling L P A
  draws st m r w = (n : ℕ) → st.slots ≡ n + n → (r < n → w ≡ (noted st.word r (r + 1) (drawing r m.0), m.1)) × (n ≤ r → w ≡ (noted st.word r (r + 1) (spending m.0), m.1))

  -- at a load of a cell's word, at which a slot moves: the number is the one whose mark the seat has
  abbrev pub opens : Telling L P A
  opens st m r w = (n i : ℕ) → st.slots ≡ n + n → st.word ≡ task_at (cell n i) → 0 < count (Drawn i) m.0.marks → w ≡ (noted st.word r r (opened i m.0), (load_at (cell n i), None) ∷ m.1)

  abbrev pub lifts : Telling L P A
  lifts st m r w = (n i : ℕ) → st.slots ≡ n + n → st.word ≡ task_at (cell n i) → 0 < count (InHand i) m.0.marks → w ≡ (noted st.word r r (lifting i m.0), (load_at (cell n i), None) ∷ m.1)

  abbrev pub settles : Telling L P A
  settles st m r w = (n i : ℕ) → st.slots ≡ n + n → st.word ≡ task_at (cell n i) → 0 < count (Lifted i) m.0.marks → w ≡ (noted st.word r r (settling i m.0), rest m.1)

  abbrev pub raises : Telling L P A
  raises st m r w = (n i : ℕ) → st.slots ≡ n + n → st.word ≡ task_at (cell n i) → 0 < count (Free i) m.0.marks → w ≡ (noted st.word r r (raising i m.0), (load_at (cell n i), None) ∷ m.1)

  abbrev pub stows : Telling L P A
  stows st m r w = (n i : ℕ) → st.slots ≡ n + n → st.word ≡ chan_at (cell n i) → 0 < count (Picking i) m.0.marks → w ≡ (noted st.word r r (stowing i m.0), rest m.1)

  -- at an exchange of a task word
  abbrev pub leaves : Telling L P A
  leaves st m r w = (i : ℕ) → 0 < count (Lifted i) m.0.marks → (st.first ≡ 8 * i + 1) ⊎ (st.first ≡ 8 * i + 4) ⊎ (st.first ≡ 8 * i + 5) → w ≡ (noted st.word r st.first (leaving i m.0), rest m.1)

  abbrev pub wakes : Telling L P A
  wakes st m r w = (i : ℕ) → st.first ≡ READY i → w ≡ (noted st.word r st.first (waked i m.0), m.1)

  -- the load comes from the slot that goes home
  abbrev pub halts : Telling L P A
  halts st m r w = (i at : ℕ) (load : L) → st.first ≡ WAITING i → m.1 ≡ (at, Some (Load load)) ∷ rest m.1 → w ≡ (noted st.word r st.first (halting i load m.0), rest m.1)

  -- at a compare and exchange of a claim word, and an exchange of a channel word
  abbrev pub claims : Telling L P A
  claims st m r w = (n i : ℕ) → st.slots ≡ n + n → st.first ≡ FREE i → (r ≡ FREE i → w ≡ (noted st.word r st.second (claiming i m.0), (parcel_at (cell n i), None) ∷ m.1)) × (r ≢ FREE i → w ≡ (noted st.word r r m.0, m.1))

  abbrev pub sends : Telling L P A
  sends st m r w = (i : ℕ) → st.first ≡ FULL i → (r ≡ EMPTY i → w ≡ (noted st.word r st.first (sending i m.0), rest m.1)) × ((j : ℕ) → r ≡ PARKED j → (w ≡ (noted st.word r st.first (sending_to i j m.0), rest m.1)) × (j ≤ 2 ^ 60)) × ((r ≡ EMPTY i) ⊎ ((j : ℕ) × (r ≡ PARKED j)))

  -- where the channel is found FULL the view has that something was sent on it
  abbrev pub parks : Telling L P A
  parks st m r w = (c i : ℕ) → st.first ≡ EMPTY c → st.second ≡ PARKED i
      → (r ≡ EMPTY c → w ≡ (noted st.word r st.second (parking i m.0), m.1)) × (r ≡ FULL c → w ≡ (noted st.word r r (seeing c m.0), m.1)) × (r ≢ EMPTY c → r ≢ FULL c → w ≡ (noted st.word r r m.0, m.1))

  -- at a fetch of a retire word by the receiver: the cell is free where the count is odd
  abbrev pub retires : Telling L P A
  retires st m r w = (n i : ℕ) → st.slots ≡ n + n → st.word ≡ retire_at (cell n i) → 0 < count (Right i) m.0.marks → (r % 2 ≡ 0 → w ≡ (noted st.word r (r + 1) (spending_right i m.0), m.1)) × (r % 2 ≡ 1 → w ≡ (noted st.word r (r + 1) (freeing_right i m.0), m.1))

  -- and by the end of a task with this load
  abbrev pub ends : List L → Telling L P A
  ends loads st m r w = (n i : ℕ) (load : L) → st.slots ≡ n + n → st.word ≡ retire_at (cell n i) → 0 < count (InHand i) m.0.marks → loads ≡ load ∷ [] → (r % 2 ≡ 0 → w ≡ (noted st.word r (r + 1) (ending i load m.0), m.1)) × (r % 2 ≡ 1 → w ≡ (noted st.word r (r + 1) (freeing_end i load m.0), m.1))

  -- at an exchange of a word of a free cell
  abbrev pub clears_claim : Telling L P A
  clears_claim st m r w = (n i : ℕ) → st.slots ≡ n + n → st.first ≡ FREE (i + n) → w ≡ (noted st.word r st.first (clearing_claim i m.0), m.1)

  abbrev pub clears_chan : Telling L P A
  clears_chan st m r w = (n i : ℕ) → st.slots ≡ n + n → st.first ≡ EMPTY (i + n) → w ≡ (noted st.word r st.first (clearing_chan i m.0), m.1)

module _ {L P A : Type 0} (x : Means L P A) where
  -- what is known of a load that is taken: it is of the view's program, and the view keeps none of its number
  abbrev pub CanTake : View L A → L → Type 0
  CanTake v load = (v.about ≡ x.about load ∷ []) × (count (Kept (x.number load)) v.marks ≡ 0)

  -- and of a parcel that is collected: it is of the view's program, and gives each number the name that it has in the view
  abbrev pub CanCollect : View L A → P → Type 0
  CanCollect v parcel = (v.about ≡ x.origin parcel ∷ []) × ((m : ℕ) (title other : List ℕ) → In (m, title) v.names → In (m, other) (x.tells parcel) → title ≡ other)

  -- the name comes from the load that goes home
  abbrev pub begins : Telling L P A
  begins st m r w = (i at : ℕ) (load : L) → st.first ≡ READY i → m.1 ≡ (at, Some (Load load)) ∷ rest m.1 → w ≡ (noted st.word r st.first (beginning i (x.title load) m.0), rest m.1)

  abbrev pub reopens : Telling L P A
  reopens st m r w = (n i at : ℕ) (load : L) → st.slots ≡ n + n → st.first ≡ READY (i + n) → m.1 ≡ (at, Some (Load load)) ∷ rest m.1 → w ≡ (noted st.word r st.first (reopening n i (x.title load) m.0), rest m.1)

  abbrev pub takes_load : Telling L P A
  takes_load st m r w = (n i : ℕ) → st.slots ≡ n + n → st.first ≡ READY i → (r ≡ READY i → (load : L) × (x.number load ≡ i) × CanTake m.0 load × (w ≡ (noted st.word r st.second (taking x i load m.0), (load_at (cell n i), Some (Load load)) ∷ m.1))) × (r ≢ READY i → w ≡ (noted st.word r r m.0, m.1))

  -- the load is the one that was to be parked
  abbrev pub reclaims : Telling L P A
  reclaims st m r w = (n i : ℕ) (load : L) → st.slots ≡ n + n → st.first ≡ RUNNING i → In (i, load) m.0.resting → w ≡ (noted st.word r st.first (reclaiming x i load m.0), (load_at (cell n i), Some (Load load)) ∷ m.1)

  -- on a number on which something was sent EMPTY is not found
  abbrev pub collects : ℕ → Telling L P A
  collects by st m r w = (n i : ℕ) → st.slots ≡ n + n → st.first ≡ FULL i → (r ≡ FULL i → (parcel : P) × (x.channel parcel ≡ i) × CanCollect m.0 parcel × (w ≡ (noted st.word r st.second (collecting i (x.tells parcel) by m.0), (parcel_at (cell n i), Some (Parcel parcel)) ∷ m.1))) × (r ≢ FULL i → w ≡ (noted st.word r r m.0, m.1)) × (In i m.0.sends → r ≢ EMPTY i)
