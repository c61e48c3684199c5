-- What a hand has of a number: each mark is a kind and a number in one.
use Rattle.std.specs.Prelude.{ℕ, ◌+◌, ◌*◌}

abbrev pub mark : ℕ → ℕ → ℕ
mark k m = 16 * m + k

-- a number to begin; and its slot is out with the hand for the moment
abbrev pub Drawn : ℕ → ℕ
Drawn m = 16 * m + 0

abbrev pub Opening : ℕ → ℕ
Opening m = 16 * m + 1

-- the load of the number is in hand; and its slot is out; the slot of a free cell is out
abbrev pub InHand : ℕ → ℕ
InHand m = 16 * m + 2

abbrev pub Lifted : ℕ → ℕ
Lifted m = 16 * m + 3

abbrev pub Reopening : ℕ → ℕ
Reopening m = 16 * m + 4

-- a claim that is not sent yet; a channel whose parcel was collected, and its slot is out
abbrev pub Claimed : ℕ → ℕ
Claimed m = 16 * m + 5

abbrev pub Picking : ℕ → ℕ
Picking m = 16 * m + 6

-- a task that is being parked, and one to be woken
abbrev pub Parking : ℕ → ℕ
Parking m = 16 * m + 7

abbrev pub Waking : ℕ → ℕ
Waking m = 16 * m + 8

-- the receiver's right to retire the cell; the cell as free; its claim word and its channel word as cleared
abbrev pub Right : ℕ → ℕ
Right m = 16 * m + 9

abbrev pub Free : ℕ → ℕ
Free m = 16 * m + 10

abbrev pub ClaimCleared : ℕ → ℕ
ClaimCleared m = 16 * m + 11

abbrev pub ChanCleared : ℕ → ℕ
ChanCleared m = 16 * m + 12

-- the load of a task whose end has retired
abbrev pub Kept : ℕ → ℕ
Kept m = 16 * m + 13
