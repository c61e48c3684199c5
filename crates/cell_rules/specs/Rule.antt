-- The rule of the cells: between any two steps, over the words, the slots at home and all views.
--
-- A cell has a task and the one channel of that task. Its task word says where the load is, its claim word who may send, its channel word
-- where the parcel is, its retire word how many of its two finishers have come. A number is generation * n + cell, and every word carries
-- whole numbers, so that a hand with an old number finds a word that is not its own. Whoever changes a word makes one step of the table of
-- fourteen kinds (Table.antt), and has in its view what lets it:
--
-- task     UNMADE to READY: the hand that drew the number. READY to RUNNING: any hand, which has then the load. RUNNING to READY, ENDED,
--          HALTED or WAITING: the hand that has the load. WAITING to READY: the sender that found the receiver parked. WAITING to RUNNING:
--          the hand that was to park it. RUNNING to READY of the next number: the hand that has the cell as free.
-- claim    FREE to BY: the first sender, which has then the slot of the parcel. BY to FREE of the next number: the hand that has the cell as free.
-- channel  EMPTY or PARKED to FULL: the claimer, whose parcel goes home. EMPTY to PARKED: a hand whose task is WAITING. FULL to DONE: a
--          receiver, which has then the parcel. DONE to EMPTY of the next number: the hand that has the cell as free.
-- retire   plus 1: the receiver of the channel and the end of the task, once each. The second of them has the cell as free.
--
-- What each part keeps, in words:
--
-- (a) one load: of a made present number it is at home, or with one hand exactly where the word is RUNNING; that of an old number is kept by one hand.
-- (b) one parcel: it is at home exactly where the channel is FULL; from the claim to the send its slot is with the claimer alone.
-- (c) one name: a number has one name in all views, loads and parcels, and all that they tell of is made.
-- (d) no send is lost: where something was sent the channel is FULL or DONE, or the number is free or old; what is DONE is told as received.
-- (e) one program: all views, loads and parcels carry the same, with the same limit.
-- (f) one who wakes: a task is WAITING exactly where it stands in one PARKED word, or in one view as being parked or to be woken.
-- (g) two finishers: each retires a cell once, the cell is free where both have, and it is free to one hand.
use Rattle.std.specs.Prelude.{◌≡◌, ◌≢◌, ◌⊎◌, ℕ, ◌+◌, ◌-◌, ◌*◌, ◌^◌, ◌<◌, ◌≤◌, Bool, true, List, [], ◌∷◌, ◌++◌, length, get_or, None, Some}
use Rattle.std.specs.declared.option.Option as std_option
use mathlib.Core.Option.{Option, some, none}
use lib.ListN.{get_elem?}
use Rattle.atomic_table.specs.Table.{State}
use Rattle.cell_rules.specs.declared.item.Item.{Item}
use Rattle.cell_rules.specs.declared.item.Item.TheVariants.{Load, Parcel}
use Rattle.cell_rules.specs.declared.view.View.{View}
use Rattle.cell_rules.specs.Lists.{total, below, one, count, In}
use Rattle.cell_rules.specs.Words.{cell, task, claim, chan, retire, load_at, parcel_at, UNMADE, RUNNING, WAITING, FREE, EMPTY, FULL, DONE, PARKED, IsClaimed, IsParked}
use Rattle.cell_rules.specs.Marks.{mark, Drawn, Opening, InHand, Lifted, Reopening, Claimed, Picking, Parking, Waking, Right, Free, ClaimCleared, ChanCleared, Kept}
use Rattle.cell_rules.specs.Table.{Event, run, Legal, own}

-- what loads and parcels mean; A is what is told of a program and its limit of rounds
pub record Means (L P A : Type 0) : Type 0 where
  pub number : L → ℕ
  pub title : L → List ℕ
  pub mentions : L → List (ℕ × List ℕ)
  pub forked : L → List ℕ
  pub sent : L → List ℕ
  pub received : L → List ℕ
  pub ended : L → Bool
  pub about : L → A
  pub channel : P → ℕ
  pub tells : P → List (ℕ × List ℕ)
  pub origin : P → A

-- what a slot holds
abbrev pub Held : Type 0 → Type 0 → Type 0
Held L P = std_option.Option (Item L P)

-- a slot: out with a hand, or at home with what it holds
abbrev pub Home : Type 0 → Type 0 → Type 0
Home L P = Option (Option (Held L P))

abbrev pub vacant_home : {L P : Type 0} → Home L P
vacant_home = some (some None)

abbrev pub load_in : {L P : Type 0} → L → Home L P
load_in load = some (some (Some (Load load)))

abbrev pub parcel_in : {L P : Type 0} → P → Home L P
parcel_in parcel = some (some (Some (Parcel parcel)))

-- the view at the start, for so many hands; and that of a seat that was joined into another
abbrev pub fresh : {L A : Type 0} → ℕ → List A → View L A
fresh parts about = record { parts = parts; spent = 0; about = about; marks = []; made = []; kept = []; resting = []; names = []; sends = []; receipts = []; log = []; of = record {} }

abbrev pub blank : {L A : Type 0} → View L A
blank = fresh 0 []

-- one hand is cut off, and what it is; two views in one
abbrev pub dealt : {L A : Type 0} → View L A → View L A
dealt v = record v { parts = v.parts - 1 }

abbrev pub hand_of : {L A : Type 0} → View L A → View L A
hand_of v = fresh 1 v.about

abbrev pub both : {L A : Type 0} → View L A → View L A → View L A
both v w = record {
  parts = v.parts + w.parts;
  spent = v.spent + w.spent;
  about = v.about;
  marks = v.marks ++ w.marks;
  made = v.made ++ w.made;
  kept = v.kept ++ w.kept;
  resting = v.resting ++ w.resting;
  names = v.names ++ w.names;
  sends = v.sends ++ w.sends;
  receipts = v.receipts ++ w.receipts;
  log = v.log;
  of = v.of;
}

-- how often all views have a mark
abbrev pub tally : {L A : Type 0} → List (View L A) → ℕ → ℕ
tally vs q = total (λ v. count q v.marks) vs

-- in how many channel words of the first n cells the task m is parked
abbrev pub parked : ℕ → List ℕ → ℕ → ℕ
parked n ws m = below (λ c. one (PARKED m) (chan ws c)) n

-- a number is made: it is not above the present number of its cell, which is made
abbrev pub Made : ℕ → (ℕ → ℕ) → List ℕ → ℕ → Type 0
Made n now ws m = (m ≤ now (cell n m)) × (task ws (cell n m) ≢ UNMADE)

-- both finishers of a cell in its generation have retired
abbrev pub Freed : (ℕ → ℕ) → List ℕ → ℕ → Type 0
Freed age ws i = retire ws i ≡ 2 * age i + 2

-- what was sent on a number was received: its channel word is DONE, or its cell is free, or it is an older number
abbrev pub Done : ℕ → (ℕ → ℕ) → (ℕ → ℕ) → List ℕ → ℕ → Type 0
Done n now age ws m = (chan ws (cell n m) ≡ DONE m) ⊎ ((now (cell n m) ≡ m) × Freed age ws (cell n m)) ⊎ (m < now (cell n m))

-- something was sent on a number
abbrev pub Sent : ℕ → (ℕ → ℕ) → (ℕ → ℕ) → List ℕ → ℕ → Type 0
Sent n now age ws m = (chan ws (cell n m) ≡ FULL m) ⊎ Done n now age ws m

-- (f) a task waits where it stands in one PARKED word, or in one view as being parked or to be woken: of its number, its word, how often it is parked, and the tally
pub record OneWait (m task parked : ℕ) (T : ℕ → ℕ) : Type 0 where
  pub waiting : task ≡ WAITING m → parked + T (Parking m) + T (Waking m) ≡ 1
  pub awake : task ≢ WAITING m → parked + T (Parking m) + T (Waking m) ≡ 0

-- (g) each of two finishers retires a cell once: of the generation and the present number of a cell, its channel word, its retire word and the tally
pub record TwoFinishers (age m chan retire : ℕ) (T : ℕ → ℕ) : Type 0 where
  -- how often the receiver has retired
  pub receivers : ℕ
  pub counted : retire ≡ 2 * age + receivers + T (Kept m)
  pub once : receivers ≤ 1
  -- the cell is free where both have
  pub free : receivers + T (Kept m) ≡ 2 → T (Free m) ≡ 1
  pub bound : receivers + T (Kept m) < 2 → T (Free m) ≡ 0
  -- the receiver's right stands in one view where the channel is DONE and the receiver has not retired, first with the slot of the parcel
  pub right : receivers ≡ 0 → chan ≡ DONE m → T (Right m) + T (Picking m) ≡ 1
  pub none : chan ≢ DONE m → T (Right m) + T (Picking m) ≡ 0
  pub used : receivers ≡ 1 → T (Right m) + T (Picking m) ≡ 0
  pub done : receivers ≡ 1 → receivers + T (Kept m) < 2 → chan ≡ DONE m

module _ {L P A : Type 0} (x : Means L P A) where
  -- the load with its number is at home
  abbrev pub HasLoad : ℕ → Home L P → Type 0
  HasLoad m home = (load : L) × (home ≡ load_in load) × (x.number load ≡ m)

  abbrev pub HasParcel : ℕ → Home L P → Type 0
  HasParcel m home = (parcel : P) × (home ≡ parcel_in parcel) × (x.channel parcel ≡ m)

  -- (a) the load of a cell's present number is in one place: how far numbers are drawn, the cell, its present number, its task word, the tally and its slot
  pub record OneLoad (draw i m task : ℕ) (T : ℕ → ℕ) (home : Home L P) : Type 0 where
    pub unmade : task ≡ UNMADE → m ≡ i
    pub carried : task ≢ UNMADE → (8 * m < task) × (task ≤ 8 * m + 5)
    -- a number is drawn and not made exactly where one view has it to begin
    pub fresh : draw ≤ i → (task ≡ UNMADE) × (T (Drawn m) + T (Opening m) ≡ 0)
    pub owed : i < draw → task ≡ UNMADE → T (Drawn m) + T (Opening m) ≡ 1
    pub begun : task ≢ UNMADE → T (Drawn m) + T (Opening m) ≡ 0
    -- the load is in one hand where the task is RUNNING, else at home
    pub running : task ≡ RUNNING m → T (InHand m) + T (Lifted m) + T (Kept m) ≡ 1
    pub resting : task ≢ RUNNING m → T (InHand m) + T (Lifted m) + T (Kept m) ≡ 0
    pub stored : task ≢ UNMADE → task ≢ RUNNING m → HasLoad m home
    -- where there is no load the slot is vacant, or out with one hand
    pub vacant : task ≡ UNMADE → T (Opening m) ≡ 0 → home ≡ vacant_home
    pub vacated : task ≡ RUNNING m → T (Lifted m) + T (Reopening m) ≡ 0 → home ≡ vacant_home
    pub away : 0 < T (Opening m) + T (Lifted m) + T (Reopening m) → home ≡ some none
    pub reopens : 0 < T (Reopening m) → (T (Reopening m) ≡ 1) × (T (Kept m) ≡ 1)

  -- (b) the parcel of a cell's present number is in one place, and its claim in one view: of n cells, the number, its claim word, its channel word, the tally and its slot
  pub record OneParcel (n m claim chan : ℕ) (T : ℕ → ℕ) (home : Home L P) : Type 0 where
    -- the words of a cell that is not free
    pub claim_word : T (Free m) ≡ 0 → claim ≢ FREE m → IsClaimed claim
    pub chan_word : T (Free m) ≡ 0 → ¬ (IsParked chan) → (EMPTY m ≤ chan) × (chan ≤ DONE m)
    pub unclaimed : T (Free m) ≡ 0 → claim ≡ FREE m → (chan ≢ FULL m) × (chan ≢ DONE m)
    pub unsent : 0 < T (Claimed m) → (T (Claimed m) ≡ 1) × (T (Free m) ≡ 0) × IsClaimed claim × (chan ≢ FULL m) × (chan ≢ DONE m)
    pub sent : T (Free m) ≡ 0 → IsClaimed claim → T (Claimed m) ≡ 0 → (FULL m ≤ chan) × (chan ≤ DONE m)
    -- the words of a free cell
    pub once : T (Free m) ≤ 1
    pub claim_stays : T (Free m) ≡ 1 → T (ClaimCleared m) ≡ 0 → IsClaimed claim
    pub claim_cleared : 0 < T (ClaimCleared m) → (T (Free m) ≡ 1) × (T (ClaimCleared m) ≡ 1) × (claim ≡ FREE (m + n))
    pub chan_stays : T (Free m) ≡ 1 → T (ChanCleared m) ≡ 0 → chan ≡ DONE m
    pub chan_cleared : 0 < T (ChanCleared m) → (T (Free m) ≡ 1) × (T (ChanCleared m) ≡ 1) × (chan ≡ EMPTY (m + n))
    -- the parcel is at home where the channel is FULL; else the slot is vacant, or out with one hand
    pub full : chan ≡ FULL m → HasParcel m home
    pub vacant : chan ≢ FULL m → T (Claimed m) + T (Picking m) ≡ 0 → home ≡ vacant_home
    pub away : 0 < T (Claimed m) + T (Picking m) → home ≡ some none

  -- (c) names are one function's, and what is named, forked or received on is made; (d) on what was sent the channel says so; (e) the program is one
  module _ (n : ℕ) (name : ℕ → List ℕ) (about : A) (now age : ℕ → ℕ) (ws : List ℕ) where
    pub record GoodLoad (load : L) : Type 0 where
      pub named : (e : ℕ × List ℕ) → In e (x.mentions load) → (name e.0 ≡ e.1) × Made n now ws e.0
      pub forked : (m : ℕ) → In m (x.forked load) → Made n now ws m
      pub sent : (m : ℕ) → In m (x.sent load) → Sent n now age ws m
      pub received : (m : ℕ) → In m (x.received load) → Made n now ws m
      pub program : x.about load ≡ about

    pub record GoodParcel (parcel : P) : Type 0 where
      pub named : (e : ℕ × List ℕ) → In e (x.tells parcel) → (name e.0 ≡ e.1) × Made n now ws e.0
      pub program : x.origin parcel ≡ about

    pub record GoodView (v : View L A) : Type 0 where
      pub named : (e : ℕ × List ℕ) → In e v.names → (name e.0 ≡ e.1) × Made n now ws e.0
      pub made : (m : ℕ) → In m v.made → Made n now ws m
      pub sent : (m : ℕ) → In m v.sends → Sent n now age ws m
      pub received : (by m : ℕ) → In (by, m) v.receipts → Made n now ws m
      pub kept : (e : ℕ × L) → In e v.kept → GoodLoad e.1
      -- each mark but that of a kept load is of the present number of its cell
      pub present : (k m : ℕ) → k < 13 → 0 < count (mark k m) v.marks → now (cell n m) ≡ m
      pub program : 0 < v.parts → v.about ≡ about ∷ []

  -- what ties the parts of one view
  pub record Tied (v : View L A) : Type 0 where
    pub spends : v.spent ≤ v.parts
    pub idle : v.parts ≡ 0 → v ≡ blank
    -- a receipt is of a load in hand
    pub receipts : (by m : ℕ) → In (by, m) v.receipts → 0 < count (InHand by) v.marks + count (Lifted by) v.marks + count (Kept by) v.marks
    -- a kept load has ended, and tells what was received by it
    pub kept : (m : ℕ) (load : L) → In (m, load) v.kept → (x.number load ≡ m) × (x.ended load ≡ true) × (0 < count (Kept m) v.marks) × ((k : ℕ) → In (m, k) v.receipts → In k (x.received load))
    pub keeps : (m : ℕ) → 0 < count (Kept m) v.marks → (load : L) × In (m, load) v.kept
    -- words are cleared, and a slot is out to be opened again, only of a cell that the view has as free
    pub clears : (m : ℕ) → (count (ClaimCleared m) v.marks ≤ count (Free m) v.marks) × (count (ChanCleared m) v.marks ≤ count (Free m) v.marks) × (count (Reopening m) v.marks ≤ count (Free m) v.marks)
    pub rests : (m : ℕ) (load : L) → In (m, load) v.resting → (x.number load ≡ m) × (0 < count (Parking m) v.marks)

  -- the number stands as received in a view, or in a load at home
  abbrev pub Received : List (Option (Held L P)) → List (View L A) → ℕ → Type 0
  Received hs vs m = ((j : ℕ) × (v : View L A) × (by : ℕ) × (get_elem? vs j ≡ some v) × In (by, m) v.receipts) ⊎ ((k : ℕ) × (load : L) × (get_elem? hs k ≡ load_in load) × In m (x.received load))

  -- the rule, of how many cells, how many hands, and the program with its limit
  pub record Rules (key : ℕ × ℕ × A) (s : State (Held L P) (View L A)) : Type 0 where
    -- the name of each number; the present number of each cell, and its generation
    pub name : ℕ → List ℕ
    pub now : ℕ → ℕ
    pub age : ℕ → ℕ
    pub whole : (i : ℕ) → now i ≡ age i * key.0 + i
    pub placed : (i : ℕ) → i < key.0 → cell key.0 (now i) ≡ i
    pub low : (i : ℕ) → i < key.0 → now i ≤ 2 ^ 60
    pub wide : length s.words ≡ 1 + 4 * key.0
    pub tall : length s.homes ≡ 2 * key.0
    pub small : (0 < key.0) × (key.0 + key.1 < 4294967296)
    -- numbers are drawn once: the count is at most that of the cells and of the spent hands
    pub draws : get_or s.words 0 0 ≤ key.0 + total (λ v. v.spent) s.views
    pub parts : total (λ v. v.parts) s.views ≡ key.1
    -- (a) the load of the present number of a cell is in one place
    pub loads : (i : ℕ) → i < key.0 → OneLoad (get_or s.words 0 0) i (now i) (task s.words i) (tally s.views) (get_elem? s.homes (load_at i))
    -- and that of an older number is kept by one hand
    pub older : (m : ℕ) → m < now (cell key.0 m) → tally s.views (Kept m) ≡ 1
    pub newer : (m : ℕ) → now (cell key.0 m) < m → tally s.views (Kept m) ≡ 0
    -- (b) its parcel is in one place, and its claim in one view
    pub chans : (i : ℕ) → i < key.0 → OneParcel key.0 (now i) (claim s.words i) (chan s.words i) (tally s.views) (get_elem? s.homes (parcel_at i))
    -- (c), (d), (e) what the views, the loads and the parcels tell of numbers is so, and of one program
    pub views : (j : ℕ) (v : View L A) → get_elem? s.views j ≡ some v → GoodView key.0 name key.2 now age s.words v
    pub items : (k : ℕ) (load : L) → get_elem? s.homes k ≡ load_in load → GoodLoad key.0 name key.2 now age s.words load
    pub parcels : (k : ℕ) (parcel : P) → get_elem? s.homes k ≡ parcel_in parcel → GoodParcel key.0 name key.2 now age s.words parcel
    pub received : (m : ℕ) → Done key.0 now age s.words m → Received s.homes s.views m
    -- (f) a task waits where it stands in one PARKED word or one view
    pub waits : (i : ℕ) → i < key.0 → OneWait (now i) (task s.words i) (parked key.0 s.words (now i)) (tally s.views)
    pub parks : (c j : ℕ) → c < key.0 → chan s.words c ≡ PARKED j → now (cell key.0 j) ≡ j
    -- (g) the two finishers of a cell retire it once each
    pub retires : (i : ℕ) → i < key.0 → TwoFinishers (age i) (now i) (chan s.words i) (retire s.words i) (tally s.views)
    -- each view hangs together, and a load that is being parked is at home
    pub tied : (j : ℕ) (v : View L A) → get_elem? s.views j ≡ some v → Tied v
    pub rested : (j : ℕ) (v : View L A) (m : ℕ) (load : L) → get_elem? s.views j ≡ some v → In (m, load) v.resting → get_elem? s.homes (load_at (cell key.0 m)) ≡ load_in load
    -- one history of all steps, in which each step found what was there, and each seat's log is its part of it
    pub trace : List Event
    pub runs : s.words ≡ run key.0 trace
    pub legal : Legal key.0 trace
    pub logs : (j : ℕ) (v : View L A) → get_elem? s.views j ≡ some v → 0 < v.parts → own j trace ≡ v.log
    pub later : (j : ℕ) → length s.views ≤ j → own j trace ≡ []
