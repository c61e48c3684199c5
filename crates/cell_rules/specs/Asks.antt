-- What a call asks of a load or a parcel that goes home.
use Rattle.std.specs.Prelude.{◌≡◌, ◌⊎◌, ℕ, List, [], ◌∷◌}
use Rattle.cell_rules.specs.declared.view.View.{View}
use Rattle.cell_rules.specs.Lists.{In}
use Rattle.cell_rules.specs.Rule.{Means}

-- the number stands in the view, with its name
abbrev pub Names : {L A : Type 0} → View L A → ℕ → Type 0
Names v m = (title : List ℕ) × In (m, title) v.names

module _ {L P A : Type 0} (x : Means L P A) where
  -- what the load mentions, forked, sent and received is known to the view, and it is of the view's program
  pub record Knows (v : View L A) (load : L) : Type 0 where
    pub mentions : (e : ℕ × List ℕ) → In e (x.mentions load) → In e v.names
    pub forked : (m : ℕ) → In m (x.forked load) → Names v m
    pub sent : (m : ℕ) → In m (x.sent load) → In m v.sends
    pub received : (m : ℕ) → In m (x.received load) → Names v m
    pub program : v.about ≡ x.about load ∷ []

  -- the load tells each number that the view has as received by it
  abbrev pub Tells : View L A → L → ℕ → Type 0
  Tells v load by = (m : ℕ) → In (by, m) v.receipts → In m (x.received load)

  -- the load mentions nothing but its own name and what the view knows, and has done nothing
  pub record IsNew (v : View L A) (load : L) : Type 0 where
    pub mentions : (e : ℕ × List ℕ) → In e (x.mentions load) → (e ≡ (x.number load, x.title load)) ⊎ In e v.names
    pub forked : x.forked load ≡ []
    pub sent : x.sent load ≡ []
    pub received : x.received load ≡ []
    pub program : v.about ≡ x.about load ∷ []

  pub record KnowsParcel (v : View L A) (parcel : P) : Type 0 where
    pub mentions : (e : ℕ × List ℕ) → In e (x.tells parcel) → In e v.names
    pub program : v.about ≡ x.origin parcel ∷ []
