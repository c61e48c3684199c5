-- What stands at home once one hand stands for all, and has nothing in hand.
use Rattle.std.specs.Prelude.{◌≡◌, ◌⊎◌, ℕ, ◌<◌, List, [], ◌∷◌, Some, None}
use Rattle.cell_rules.specs.declared.item.Item.TheVariants.{Load, Parcel}
use Rattle.cell_rules.specs.declared.view.View.{View}
use Rattle.cell_rules.specs.Lists.{count, In}
use Rattle.cell_rules.specs.Marks.{mark}
use Rattle.cell_rules.specs.Rule.{Means, Held}

-- the loads and the parcels in slots, in their order
abbrev pub loads_in : {L P : Type 0} → List (Held L P) → List L
loads_in [] = []
loads_in (None ∷ xs) = loads_in xs
loads_in (Some (Load load) ∷ xs) = load ∷ loads_in xs
loads_in (Some (Parcel parcel) ∷ xs) = loads_in xs

abbrev pub parcels_in : {L P : Type 0} → List (Held L P) → List P
parcels_in [] = []
parcels_in (None ∷ xs) = parcels_in xs
parcels_in (Some (Load load) ∷ xs) = parcels_in xs
parcels_in (Some (Parcel parcel) ∷ xs) = parcel ∷ parcels_in xs

-- of each kind of mark but rights, free cells, cleared words and kept loads there is none
abbrev pub HasNothing : {L A : Type 0} → View L A → Type 0
HasNothing v = (q m : ℕ) → q < 9 → count (mark q m) v.marks ≡ 0

-- the load is at home, or one that the view keeps
abbrev pub Among : {L A : Type 0} → List L → View L A → L → Type 0
Among loads v load = In load loads ⊎ ((m : ℕ) × In (m, load) v.kept)

-- of the program with its limit, the view of all hands, and the loads and parcels at home
pub record AtRest {L P A : Type 0} (x : Means L P A) (about : A) (v : View L A) (loads : List L) (parcels : List P) : Type 0 where
  -- one number has one name, and all carry one program
  pub name : ℕ → List ℕ
  pub names : (e : ℕ × List ℕ) → In e v.names → name e.0 ≡ e.1
  pub mentions : (load : L) → Among loads v load → (e : ℕ × List ℕ) → In e (x.mentions load) → name e.0 ≡ e.1
  pub tells : (parcel : P) → In parcel parcels → (e : ℕ × List ℕ) → In e (x.tells parcel) → name e.0 ≡ e.1
  pub program : (load : L) → Among loads v load → x.about load ≡ about
  pub origin : (parcel : P) → In parcel parcels → x.origin parcel ≡ about
  -- each number that was made, forked or received on is that of a load
  pub made : (m : ℕ) → In m v.made → (load : L) × Among loads v load × (x.number load ≡ m)
  pub forked : (load : L) → Among loads v load → (m : ℕ) → In m (x.forked load) → (other : L) × Among loads v other × (x.number other ≡ m)
  pub received : (load : L) → Among loads v load → (m : ℕ) → In m (x.received load) → (other : L) × Among loads v other × (x.number other ≡ m)
  -- each number that was sent on is the channel of a parcel, or a load tells it as received
  pub sent : (load : L) → Among loads v load → (m : ℕ) → In m (x.sent load) → ((parcel : P) × In parcel parcels × (x.channel parcel ≡ m)) ⊎ ((other : L) × Among loads v other × In m (x.received other))
