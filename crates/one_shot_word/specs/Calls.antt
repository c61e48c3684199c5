-- What each call does: the words that it read, what it left there, and the view of its hand before and after.
use Rattle.std.specs.Prelude.{◌≡◌, ◌≢◌, ◌⊎◌, ℕ, ◌+◌, ◌%◌, ◌^◌, ◌<◌, ◌≤◌, List, []}
use Rattle.atomic_table.specs.Table.{Me}
use Rattle.cell_rules.specs.declared.view.View.{View}
use Rattle.cell_rules.specs.Lists.{count}
use Rattle.cell_rules.specs.Words.{cell, task_at, claim_at, chan_at, retire_at, READY, RUNNING, WAITING, FREE, BY, EMPTY, FULL, DONE, PARKED}
use Rattle.cell_rules.specs.Rule.{Means, Held}
use Rattle.cell_rules.specs.Plays.{CanTake, CanCollect, noted, drawing, spending, opened, beginning, taking, leaving, lifting, settling, raising}
use Rattle.cell_rules.specs.Plays.{stowing, halting, parking, seeing, collecting, reclaiming, claiming, sending, sending_to, waked, spending_right}
use Rattle.cell_rules.specs.Plays.{freeing_right, ending, freeing_end, clearing_claim, clearing_chan, reopening}
use Rattle.one_shot_word.specs.declared.answers.Place.{Place}
use Rattle.one_shot_word.specs.declared.answers.State.{State}
use Rattle.one_shot_word.specs.declared.answers.Retired as retired
use Rattle.one_shot_word.specs.declared.answers.Retired.TheVariants.{First, Free}
use Rattle.one_shot_word.specs.declared.answers.Sent as sent
use Rattle.one_shot_word.specs.declared.answers.Sent.TheVariants.{Left, Wakes, Misused}
use Rattle.one_shot_word.specs.declared.answers.Got as got
use Rattle.one_shot_word.specs.declared.answers.Got.TheVariants.{Value, Parked}
use Rattle.one_shot_word.specs.declared.answers.Got.TheVariants.{Misused as Misuse}
use Rattle.one_shot_word.specs.Found.{state_at, stored_as, claim_found, chan_found}

module _ {L P A : Type 0} where
  -- m was drawn of n numbers, or none was left
  abbrev pub Draws : ℕ → ℕ → View L A → Me (Held L P) (View L A) → Type 0
  Draws n m v w = (m < n) × (w ≡ (noted 0 m (m + 1) (drawing m v), []))

  abbrev pub Spends : ℕ → ℕ → View L A → Me (Held L P) (View L A) → Type 0
  Spends n count v w = (n ≤ count) × (w ≡ (noted 0 count (count + 1) (spending v), []))

  -- a drawn number has its first load, whose name is the title
  abbrev pub Begins : ℕ → List ℕ → ℕ → View L A → Me (Held L P) (View L A) → Type 0
  Begins n title m v w = (a b : ℕ) × (w ≡ (noted (task_at (cell n m)) b (READY m) (beginning m title (noted (task_at (cell n m)) a a (opened m v))), []))

  -- the word found was not READY of the number
  abbrev pub NotReady : ℕ → ℕ → State → View L A → Me (Held L P) (View L A) → Type 0
  NotReady n m state v w = (found : ℕ) × (found ≢ READY m) × (state ≡ state_at m found) × (w ≡ (noted (task_at (cell n m)) found found v, []))

  -- the load of the number went home with the word of the place
  abbrev pub GoesHome : ℕ → Place → ℕ → View L A → Me (Held L P) (View L A) → Type 0
  GoesHome n place m v w = (a b : ℕ) × (w ≡ (noted (task_at (cell n m)) b (stored_as place m) (leaving m (noted (task_at (cell n m)) a a (lifting m v))), []))

-- the first of two finishers finds an even count, the second an odd one and has the cell as free
abbrev pub Retires : ℕ → ℕ → ℕ → retired.Retired → Type 0
Retires m n found First = found % 2 ≡ 0
Retires m n found (Free cell) = (found % 2 ≡ 1) × (cell.number.0 ≡ m) × (cell.next.0 ≡ m + n)

abbrev pub received_by : {L A : Type 0} → ℕ → retired.Retired → View L A → View L A
received_by m First v = spending_right m v
received_by m (Free cell) v = freeing_right m v

abbrev pub ended_by : {L A : Type 0} → ℕ → L → retired.Retired → View L A → View L A
ended_by m load First v = ending m load v
ended_by m load (Free cell) v = freeing_end m load v

-- the receiver of m retired its cell, of n cells; and the end of its task with the load
abbrev pub RetiresReceived : {L P A : Type 0} → ℕ → ℕ → View L A → Me (Held L P) (View L A) → retired.Retired → Type 0
RetiresReceived n m v w answer = (found : ℕ) × Retires m n found answer × (w ≡ (noted (retire_at (cell n m)) found (found + 1) (received_by m answer v), []))

abbrev pub RetiresEnded : {L P A : Type 0} → ℕ → ℕ → L → View L A → Me (Held L P) (View L A) → retired.Retired → Type 0
RetiresEnded n m load v w answer = (found : ℕ) × Retires m n found answer
    × (w ≡ (noted (retire_at (cell n m)) found (found + 1) (ended_by m load answer v), []))

-- a send on m by a load, of n cells: the view before, the seat after, the parcel and the answer
abbrev pub Sends : {L P A : Type 0} → ℕ → ℕ → ℕ → View L A → Me (Held L P) (View L A) → P → sent.Sent P → Type 0
Sends n m by v w p Left = w ≡ (noted (chan_at (cell n m)) (EMPTY m) (FULL m) (sending m (noted (claim_at (cell n m)) (FREE m) (BY by) (claiming m v))), [])
Sends n m by v w p (Wakes j) = (j.0 ≤ 2 ^ 60)
    × ((a : ℕ) × (w ≡ (
      noted (task_at (cell n j.0)) a (READY j.0) (waked j.0 (noted (chan_at (cell n m)) (PARKED j.0) (FULL m)
          (sending_to m j.0 (noted (claim_at (cell n m)) (FREE m) (BY by) (claiming m v))))),
      [],
    )))
Sends n m by v w p (Misused q what) = (found : ℕ) × (found ≢ FREE m) × (what ≡ claim_found found) × (q ≡ p)
    × (w ≡ (noted (claim_at (cell n m)) found found v, []))

-- a load was stored as WAITING: of n cells, its number, the view before and after
abbrev pub Rests : {L A : Type 0} → ℕ → ℕ → L → View L A → View L A → Type 0
Rests n own load v w = (a b : ℕ) × (w ≡ noted (task_at (cell n own)) b (WAITING own) (halting own load (noted (task_at (cell n own)) a a (lifting own v))))

-- and the seat has the slots that it had before
abbrev pub StoresWaiting : {L P A : Type 0} → ℕ → ℕ → L → Me (Held L P) (View L A) → Me (Held L P) (View L A) → Type 0
StoresWaiting n own load v u = Rests n own load v.0 u.0 × (u.1 ≡ v.1)

module _ {L P A : Type 0} (x : Means L P A) where
  -- the load of the number was taken
  abbrev pub Takes : ℕ → ℕ → L → View L A → Me (Held L P) (View L A) → Type 0
  Takes n m load v w = (x.number load ≡ m) × CanTake x v load
      × ((a : ℕ) × (w ≡ (noted (task_at (cell n m)) a a (settling m (noted (task_at (cell n m)) (READY m) (RUNNING m) (taking x m load v))), [])))

  -- the channel was not FULL
  abbrev pub NotFull : ℕ → ℕ → ℕ → View L A → Me (Held L P) (View L A) → Type 0
  NotFull n m found v w = (found ≢ FULL m) × (w ≡ (noted (chan_at (cell n m)) found found v, []))

  -- the parcel of m was collected by a load
  abbrev pub Collects : ℕ → ℕ → ℕ → P → View L A → Me (Held L P) (View L A) → Type 0
  Collects n m by parcel v w = (x.channel parcel ≡ m) × CanCollect x v parcel
      × ((a : ℕ) × (w ≡ (noted (chan_at (cell n m)) a a (stowing m (noted (chan_at (cell n m)) (FULL m) (DONE m) (collecting m (x.tells parcel) by v))), [])))

  -- a load that was to be parked came back
  abbrev pub Back : ℕ → L → View L A → View L A → Type 0
  Back n load v w = (a b : ℕ)
      × (w ≡ noted (task_at (cell n (x.number load))) b b (settling (x.number load)
      (noted (task_at (cell n (x.number load))) a (RUNNING (x.number load)) (reclaiming x (x.number load) load v))))

  -- a load was to be parked at m, but the channel was FULL, or in another state; it came back
  abbrev pub Missed : ℕ → ℕ → L → View L A → View L A → Type 0
  Missed n m load v w = (u : View L A) × Rests n (x.number load) load v u × Back n load (noted (chan_at (cell n m)) (FULL m) (FULL m) (seeing m u)) w

  abbrev pub Turned : ℕ → ℕ → ℕ → L → View L A → View L A → Type 0
  Turned n m found load v w = (u : View L A) × Rests n (x.number load) load v u × Back n load (noted (chan_at (cell n m)) found found u) w

  -- so that it is in hand again
  abbrev pub TurnsBack : ℕ → ℕ → ℕ → L → View L A → Me (Held L P) (View L A) → Type 0
  TurnsBack n m found load v w = (u : View L A) × Turned n m found load v u × (w ≡ (u, []))

  -- by the word that was found there
  abbrev pub BackAtFull : ℕ → ℕ → ℕ → L → View L A → Me (Held L P) (View L A) → Type 0
  BackAtFull n m found load v w = found ≡ FULL m → (u : View L A) × Missed n m load v u × (w ≡ (u, []))

  abbrev pub BackElse : ℕ → ℕ → ℕ → L → View L A → Me (Held L P) (View L A) → Type 0
  BackElse n m found load v w = found ≢ FULL m → TurnsBack n m found load v w

  -- the load is parked at m
  abbrev pub Parks : ℕ → ℕ → L → View L A → Me (Held L P) (View L A) → Type 0
  Parks n m load v w = (u : View L A) × Rests n (x.number load) load v u
      × (w ≡ (noted (chan_at (cell n m)) (EMPTY m) (PARKED (x.number load)) (parking (x.number load) u), []))

  -- the view in which the last word of the channel was read: that before the call, or one after the load was stored and came back
  abbrev pub Reading : ℕ → ℕ → L → View L A → View L A → Type 0
  Reading n m load v u = (u ≡ v) ⊎ Missed n m load (noted (chan_at (cell n m)) (EMPTY m) (EMPTY m) v) u

  -- a receive on m, of n cells: the view before, the seat after, the load and the answer
  abbrev pub Receives : ℕ → ℕ → View L A → Me (Held L P) (View L A) → L → got.Got L P → Type 0
  Receives n m v w load (Value back parcel) = (back ≡ load) × ((u : View L A) × Reading n m load v u × Collects n m (x.number load) parcel u w)
  Receives n m v w load Parked = Parks n m load (noted (chan_at (cell n m)) (EMPTY m) (EMPTY m) v) w
  Receives n m v w load (Misuse back what) = (back ≡ load) × ((found : ℕ) × (found ≢ EMPTY m) × (found ≢ FULL m) × (what ≡ chan_found m found)
      × (((u : View L A) × Reading n m load v u × (w ≡ (noted (chan_at (cell n m)) found found u, [])))
      ⊎ TurnsBack n m found load (noted (chan_at (cell n m)) (EMPTY m) (EMPTY m) v) w))

-- a free cell m is given again: the words were cleared, the slot taken, and the first load of the next number stored
abbrev pub Reopens : {L P A : Type 0} → ℕ → ℕ → List ℕ → View L A → Me (Held L P) (View L A) → Type 0
Reopens n m title v w = (a b c d : ℕ)
    × (w ≡ (
      noted (task_at (cell n m)) d (READY (m + n)) (reopening n m title (noted (task_at (cell n m)) c c (raising m
          (noted (chan_at (cell n m)) b (EMPTY (m + n)) (clearing_chan m (noted (claim_at (cell n m)) a (FREE (m + n)) (clearing_claim m v))))))),
      [],
    ))
