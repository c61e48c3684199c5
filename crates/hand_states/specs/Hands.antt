-- What a hand has between two calls of its worker.
use Rattle.std.specs.Prelude.{◌≡◌, ◌⊎◌, ℕ, ◌<◌, ◌≤◌, List, [], ◌∷◌, ◌++◌}
use Rattle.cell_rules.specs.declared.view.View.{View}
use Rattle.cell_rules.specs.Lists.{count, In}
use Rattle.cell_rules.specs.Marks.{mark, InHand, Right, Free, Kept}
use Rattle.cell_rules.specs.Rule.{Means}
use Rattle.cell_rules.specs.Asks.{Knows, Tells}

-- what the worker has beside its hand: the numbers that it made, with their names, the loads that it keeps, the numbers of its free cells and of its rights to retire
pub record Store (L : Type 0) : Type 0 where
  pub made : List (ℕ × List ℕ)
  pub kept : List L
  pub free : List ℕ
  pub rights : List ℕ

module _ {L P A : Type 0} (x : Means L P A) (about : A) where
  -- the hand is of one program, and has what the worker has
  pub record Has (s : Store L) (v : View L A) : Type 0 where
    pub program : v.about ≡ about ∷ []
    pub made : (e : ℕ × List ℕ) → In e s.made → In e.0 v.made × In e v.names
    -- the kept loads are those of the view
    pub keeps : (m : ℕ) (load : L) → In (m, load) v.kept → In load s.kept
    pub kept : (load : L) → In load s.kept → In (x.number load, load) v.kept
    pub free : (m : ℕ) → count m s.free ≤ count (Free m) v.marks
    pub rights : (m : ℕ) → count m s.rights ≤ count (Right m) v.marks
    -- no word is cleared between two calls
    pub clear : (q m : ℕ) → 10 < q → q < 13 → count (mark q m) v.marks ≡ 0

  -- the marks that must be gone before the cells are closed are just these
  abbrev pub HasInHand : List ℕ → View L A → Type 0
  HasInHand ms v = (q m : ℕ) → q < 9 → count (mark q m) v.marks ≡ count (mark q m) ms

  -- each receipt is that of the load of this number, or of a kept load
  abbrev pub ReceivedBy : List ℕ → View L A → Type 0
  ReceivedBy ms v = (by m : ℕ) → In (by, m) v.receipts → In by ms ⊎ (0 < count (Kept by) v.marks)

  -- nothing is in hand
  pub record Idle (s : Store L) (v : View L A) : Type 0 where
    pub has : Has s v
    pub nothing : HasInHand [] v
    pub receipts : ReceivedBy [] v

  -- a load is in hand, which tells all that it received
  pub record Holds (s : Store L) (load : L) (v : View L A) : Type 0 where
    pub has : Has s v
    pub one : HasInHand (InHand (x.number load) ∷ []) v
    pub receipts : ReceivedBy (x.number load ∷ []) v
    pub knows : Knows x v load
    pub tells : Tells x v load (x.number load)

  -- a load is in hand, which tells all that it received but the number m
  pub record Owes (s : Store L) (load : L) (m : ℕ) (v : View L A) : Type 0 where
    pub has : Has s v
    pub one : HasInHand (InHand (x.number load) ∷ []) v
    pub receipts : ReceivedBy (x.number load ∷ []) v
    pub knows : Knows x v load
    pub tells : (k : ℕ) → In (x.number load, k) v.receipts → (k ≡ m) ⊎ In k (x.received load)

  -- of a load and what became of it: the same number and program
  pub record IsOf (load next : L) : Type 0 where
    pub number : x.number next ≡ x.number load
    pub program : x.about next ≡ x.about load
    pub received : (m : ℕ) → In m (x.received load) → In m (x.received next)

-- what two workers have
abbrev pub joined : {L : Type 0} → Store L → Store L → Store L
joined s t = record { made = s.made ++ t.made; kept = s.kept ++ t.kept; free = s.free ++ t.free; rights = s.rights ++ t.rights }

-- of loads and parcels, those that hands kept included: one number has one name, all are of one program, what was made and forked is there, and what was sent is there or received
pub record AreAll {L P A : Type 0} (x : Means L P A) (about : A) (made : List (ℕ × List ℕ)) (loads : List L) (parcels : List P) : Type 0 where
  pub name : ℕ → List ℕ
  pub named : (load : L) → In load loads → (e : ℕ × List ℕ) → In e (x.mentions load) → name e.0 ≡ e.1
  pub told : (parcel : P) → In parcel parcels → (e : ℕ × List ℕ) → In e (x.tells parcel) → name e.0 ≡ e.1
  pub program : (load : L) → In load loads → x.about load ≡ about
  pub origin : (parcel : P) → In parcel parcels → x.origin parcel ≡ about
  pub begun : (e : ℕ × List ℕ) → In e made → (name e.0 ≡ e.1) × ((load : L) × In load loads × (x.number load ≡ e.0))
  pub forked : (load : L) → In load loads → (m : ℕ) → In m (x.forked load) → (other : L) × In other loads × (x.number other ≡ m)
  pub received : (load : L) → In load loads → (m : ℕ) → In m (x.received load) → (other : L) × In other loads × (x.number other ≡ m)
  pub sent : (load : L) → In load loads → (m : ℕ) → In m (x.sent load) → ((parcel : P) × In parcel parcels × (x.channel parcel ≡ m)) ⊎ ((other : L) × In other loads × In m (x.received other))
