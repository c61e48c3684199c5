-- What loads and parcels tell, from the members of their traits.
use Rattle.std.specs.Prelude.{ℕ, List, Bool}
use Rattle.cell_rules.specs.Rule.{Means}

-- of a load, in a program of type A
pub record LoadMeans (L A : Type 0) : Type 0 where
  -- its number, and the name of its task
  pub number : L → ℕ
  pub title : L → List ℕ
  -- each number that it mentions, with its name: its own, those of tasks that it forked, and those of channels that it has or used
  pub mentions : L → List (ℕ × List ℕ)
  -- numbers of tasks that it forked, and numbers on which it sent and received
  pub forked : L → List ℕ
  pub sent : L → List ℕ
  pub received : L → List ℕ
  -- its task has ended
  pub ended : L → Bool
  -- its program, and the limit of rounds
  pub program : L → A
  pub rounds : L → ℕ

-- of a parcel
pub record ParcelMeans (P A : Type 0) : Type 0 where
  pub channel : P → ℕ
  -- each number that it mentions, with its name, that of its channel among them
  pub mentions : P → List (ℕ × List ℕ)
  pub program : P → A
  pub rounds : P → ℕ

-- the program and its limit are one thing to the rule
abbrev pub means : {L P A : Type 0} → LoadMeans L A → ParcelMeans P A → Means L P (A × ℕ)
means load parcel = record {
  number = load.number;
  title = load.title;
  mentions = load.mentions;
  forked = load.forked;
  sent = load.sent;
  received = load.received;
  ended = load.ended;
  about = λ l. (load.program l, load.rounds l);
  channel = parcel.channel;
  tells = parcel.mentions;
  origin = λ p. (parcel.program p, parcel.rounds p);
}
