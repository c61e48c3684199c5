-- What receiving and retiring make of a hand that holds a load.
use Rattle.std.specs.Prelude.{◌≡◌, ℕ, ◌+◌, List, ◌∷◌}
use Rattle.cell_rules.specs.declared.view.View.{View}
use Rattle.cell_rules.specs.Lists.{In}
use Rattle.cell_rules.specs.Rule.{Means}
use Rattle.hand_states.specs.Hands.{Store, Idle, Holds, Owes}
use Rattle.one_shot_word.specs.declared.answers.Got as got
use Rattle.one_shot_word.specs.declared.answers.Got.TheVariants.{Value, Parked, Misused}
use Rattle.one_shot_word.specs.declared.answers.Retired as retired
use Rattle.one_shot_word.specs.declared.answers.Retired.TheVariants.{First, Free}

module _ {L P A : Type 0} (x : Means L P A) (about : A) (s : Store L) where
  -- the load owes to tell the parcel, which is of the program and names what the view named so
  pub record IsReceived (load : L) (m : ℕ) (v : View L A) (parcel : P) (w : View L A) : Type 0 where
    pub channel : x.channel parcel ≡ m
    pub owes : Owes x about (record s { rights = m ∷ s.rights }) load m w
    pub program : x.origin parcel ≡ about
    pub names : (k : ℕ) (title other : List ℕ) → In (k, title) v.names → In (k, other) (x.tells parcel) → title ≡ other
    -- the view knows no less than before
    pub more : (e : ℕ × List ℕ) → In e v.names → In e w.names

  -- where the load comes back without a value it is held as before
  abbrev pub Receiving : L → ℕ → View L A → View L A → got.Got L P → Type 0
  Receiving load m v w (Value back parcel) = (back ≡ load) × IsReceived load m v parcel w
  Receiving load m v w Parked = Idle x about s w
  Receiving load m v w (Misused back what) = (back ≡ load) × Holds x about s load w

  -- the receiver of m retires its cell, of n cells, with a load in hand
  abbrev pub Retiring : L → ℕ → ℕ → View L A → retired.Retired → Type 0
  Retiring load n m w First = Holds x about s load w
  Retiring load n m w (Free cell) = (cell.number.0 ≡ m) × (cell.next.0 ≡ m + n) × Holds x about (record s { free = m ∷ s.free }) load w

  -- the end of a task retires its cell, and its load is kept
  abbrev pub Ending : L → ℕ → View L A → retired.Retired → Type 0
  Ending load n w First = Idle x about (record s { kept = load ∷ s.kept }) w
  Ending load n w (Free cell) = (cell.number.0 ≡ x.number load) × (cell.next.0 ≡ x.number load + n) × Idle x about (record s { kept = load ∷ s.kept; free = x.number load ∷ s.free }) w
