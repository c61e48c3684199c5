-- Where the words and slots of a cell lie, and what a word says.
use Rattle.std.specs.Prelude.{◌≡◌, ℕ, zero, suc, ◌+◌, ◌*◌, ◌%◌, List, [], ◌∷◌, ◌++◌, get_or}

-- the cell of a number, of n cells
unfoldable pub cell : ℕ → ℕ → ℕ
cell n m = m % n

-- the words: first that of the drawing, then four a cell
abbrev pub task_at : ℕ → ℕ
task_at i = 1 + 4 * i

abbrev pub claim_at : ℕ → ℕ
claim_at i = 2 + 4 * i

abbrev pub chan_at : ℕ → ℕ
chan_at i = 3 + 4 * i

abbrev pub retire_at : ℕ → ℕ
retire_at i = 4 + 4 * i

-- the slots: two a cell
abbrev pub load_at : ℕ → ℕ
load_at i = 2 * i

abbrev pub parcel_at : ℕ → ℕ
parcel_at i = 1 + 2 * i

abbrev pub task : List ℕ → ℕ → ℕ
task ws i = get_or ws (task_at i) 0

abbrev pub claim : List ℕ → ℕ → ℕ
claim ws i = get_or ws (claim_at i) 0

abbrev pub chan : List ℕ → ℕ → ℕ
chan ws i = get_or ws (chan_at i) 0

abbrev pub retire : List ℕ → ℕ → ℕ
retire ws i = get_or ws (retire_at i) 0

-- the states of a task, with its number
abbrev pub UNMADE : ℕ
UNMADE = 0

abbrev pub READY : ℕ → ℕ
READY m = 8 * m + 1

abbrev pub RUNNING : ℕ → ℕ
RUNNING m = 8 * m + 2

abbrev pub WAITING : ℕ → ℕ
WAITING m = 8 * m + 3

abbrev pub ENDED : ℕ → ℕ
ENDED m = 8 * m + 4

abbrev pub HALTED : ℕ → ℕ
HALTED m = 8 * m + 5

-- free for a claim, with the number; or claimed, with the number of the claimer
abbrev pub FREE : ℕ → ℕ
FREE m = 2 * m

abbrev pub BY : ℕ → ℕ
BY i = 2 * i + 1

-- the states of a channel, with its number; or the number of the receiver that is parked there
abbrev pub EMPTY : ℕ → ℕ
EMPTY m = 4 * m

abbrev pub FULL : ℕ → ℕ
FULL m = 4 * m + 1

abbrev pub DONE : ℕ → ℕ
DONE m = 4 * m + 2

abbrev pub PARKED : ℕ → ℕ
PARKED i = 4 * i + 3

-- the word carries a claimer, or a receiver
abbrev pub IsClaimed : ℕ → Type 0
IsClaimed w = w % 2 ≡ 1

abbrev pub IsParked : ℕ → Type 0
IsParked w = w % 4 ≡ 3

-- the words at the start: of the first k cells, and of all
abbrev pub cells_at_start : ℕ → List ℕ
cells_at_start zero = []
cells_at_start (suc k) = cells_at_start k ++ UNMADE ∷ FREE k ∷ EMPTY k ∷ 0 ∷ []

abbrev pub words_at_start : ℕ → List ℕ
words_at_start n = 0 ∷ cells_at_start n
