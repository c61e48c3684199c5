-- The table of the fourteen kinds of step, and histories made of them.
use Rattle.std.specs.Prelude.{◌≡◌, ◌⊎◌, ℕ, ◌+◌, List, [], ◌∷◌, get_or, set, ◌==◌, if◌then◌else◌}
use Rattle.cell_rules.specs.Words.{cell, task_at, claim_at, chan_at, retire_at, UNMADE, READY, RUNNING, WAITING, ENDED, HALTED, FREE, BY, EMPTY, FULL, DONE, PARKED, words_at_start}

-- a step: its seat, its word, what was found there and what is there now
pub record Event : Type 0 where
  pub seat : ℕ
  pub word : ℕ
  pub found : ℕ
  pub left : ℕ

pub data Kind : Type 0 where
  draw : Kind
  begin : Kind
  take : Kind
  home : Kind
  wake : Kind
  reclaim : Kind
  claim : Kind
  send : Kind
  park : Kind
  collect : Kind
  retire : Kind
  clear_claim : Kind
  clear_chan : Kind
  reopen : Kind

-- the table, on n cells: of the kind and the number m, the word, what was found there and what is there now
-- what the view of the hand that makes the step gains or loses stands beside it in Plays.antt:
-- draw: a number to begin, or the hand is spent; begin: the number made, with its name; take: the load, its sends, receipts and names;
-- home: loses the load and its receipts, and with WAITING has it as being parked; wake: loses what was to be woken; reclaim: the load again;
-- claim: the claim, unsent; send: the claim is sent, and a parked receiver is to be woken; park: loses what was being parked;
-- collect: the parcel's names, the receipt, and the right to retire; retire: spends the right or the load, and the second has the cell as free;
-- clear_claim, clear_chan: the word as cleared; reopen: loses the free cell and both, and has made the next number
abbrev pub Row : ℕ → Kind → ℕ → ℕ → ℕ → ℕ → Type 0
Row n draw m w f t = (w ≡ 0) × (t ≡ f + 1)
Row n begin m w f t = (w ≡ task_at (cell n m)) × (f ≡ UNMADE) × (t ≡ READY m)
Row n take m w f t = (w ≡ task_at (cell n m)) × (f ≡ READY m) × (t ≡ RUNNING m)
Row n home m w f t = (w ≡ task_at (cell n m)) × (f ≡ RUNNING m) × ((t ≡ READY m) ⊎ (t ≡ ENDED m) ⊎ (t ≡ HALTED m) ⊎ (t ≡ WAITING m))
Row n wake m w f t = (w ≡ task_at (cell n m)) × (f ≡ WAITING m) × (t ≡ READY m)
Row n reclaim m w f t = (w ≡ task_at (cell n m)) × (f ≡ WAITING m) × (t ≡ RUNNING m)
Row n claim m w f t = (w ≡ claim_at (cell n m)) × (f ≡ FREE m) × ((i : ℕ) × (t ≡ BY i))
Row n send m w f t = (w ≡ chan_at (cell n m)) × ((f ≡ EMPTY m) ⊎ ((i : ℕ) × (f ≡ PARKED i))) × (t ≡ FULL m)
Row n park m w f t = (w ≡ chan_at (cell n m)) × (f ≡ EMPTY m) × ((i : ℕ) × (t ≡ PARKED i))
Row n collect m w f t = (w ≡ chan_at (cell n m)) × (f ≡ FULL m) × (t ≡ DONE m)
Row n retire m w f t = (w ≡ retire_at (cell n m)) × (t ≡ f + 1)
Row n clear_claim m w f t = (w ≡ claim_at (cell n m)) × ((i : ℕ) × (f ≡ BY i)) × (t ≡ FREE (m + n))
Row n clear_chan m w f t = (w ≡ chan_at (cell n m)) × (f ≡ DONE m) × (t ≡ EMPTY (m + n))
Row n reopen m w f t = (w ≡ task_at (cell n m)) × (f ≡ RUNNING m) × (t ≡ READY (m + n))

-- a step of the table; or the word stayed as it was, because it was another than the one asked, or since only a slot was moved
abbrev pub IsStep : ℕ → Event → Type 0
IsStep n e = (e.left ≡ e.found) ⊎ ((k : Kind) × (m : ℕ) × Row n k m e.word e.found e.left)

-- the words after a history, the newest step first
abbrev pub run : ℕ → List Event → List ℕ
run n [] = words_at_start n
run n (e ∷ es) = set (run n es) e.word e.left

-- each step found what was there, and is one of the table
abbrev pub Legal : ℕ → List Event → Type 0
Legal n [] = Unit {0}
Legal n (e ∷ es) = (e.found ≡ get_or (run n es) e.word 0) × IsStep n e × Legal n es

-- the steps of one seat: the word, what was found there and what was left
abbrev pub own : ℕ → List Event → List (ℕ × ℕ × ℕ)
own j [] = []
own j (e ∷ es) = if e.seat == j then ((e.word, e.found, e.left) ∷ own j es) else own j es
