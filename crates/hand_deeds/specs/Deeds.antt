-- What a fork and a send make of a hand, where the load that is in hand tells them afterwards.
use Rattle.std.specs.Prelude.{◌≡◌, ◌⊎◌, ℕ, ◌+◌, List, ◌∷◌}
use Rattle.cell_rules.specs.declared.view.View.{View}
use Rattle.cell_rules.specs.Lists.{In}
use Rattle.cell_rules.specs.Rule.{Means}
use Rattle.cell_rules.specs.Plays.{noted, drawing}
use Rattle.hand_states.specs.Hands.{Store, Idle, Holds, IsOf}
use Rattle.one_shot_word.specs.Seats.{told, size}
use Rattle.one_shot_word.specs.declared.cells.Cells.{Cells}
use Rattle.one_shot_word.specs.declared.hand.Hand.{Hand}
use Rattle.one_shot_word.specs.declared.answers.Sent as sent
use Rattle.one_shot_word.specs.declared.answers.Sent.TheVariants.{Left, Wakes, Misused}
use Rattle.hand_calls.specs.Moves.{IsIdle, IsHolding}

-- a view in which m was drawn
abbrev pub IsDrawn : {L A : Type 0} → ℕ → View L A → View L A → Type 0
IsDrawn m v w = w ≡ noted 0 m (m + 1) (drawing m v)

module _ {L P A : Type 0} (x : Means L P A) (about : A) where
  -- what became of a load that forked m, a task with this name
  pub record HasForked (before next : L) (m : ℕ) (title : List ℕ) : Type 0 where
    pub same : IsOf x about before next
    pub mentions : (e : ℕ × List ℕ) → In e (x.mentions next) → (e ≡ (m, title)) ⊎ In e (x.mentions before)
    pub forked : (k : ℕ) → In k (x.forked next) → (k ≡ m) ⊎ In k (x.forked before)
    pub sent : (k : ℕ) → In k (x.sent next) → In k (x.sent before)
    pub received : (k : ℕ) → In k (x.received next) → In k (x.received before)

  -- what became of a load that sent on m
  pub record HasSent (before next : L) (m : ℕ) : Type 0 where
    pub same : IsOf x about before next
    pub mentions : (e : ℕ × List ℕ) → In e (x.mentions next) → In e (x.mentions before)
    pub forked : (k : ℕ) → In k (x.forked next) → In k (x.forked before)
    pub sent : (k : ℕ) → In k (x.sent next) → (k ≡ m) ⊎ In k (x.sent before)
    pub received : (k : ℕ) → In k (x.received next) → In k (x.received before)

  -- where another load had claimed the channel nothing was sent
  abbrev pub Sending : Store L → L → L → View L A → sent.Sent P → Type 0
  Sending s before next w Left = Holds x about s next w
  Sending s before next w (Wakes j) = Holds x about s next w
  Sending s before next w (Misused parcel what) = Holds x about s before w

module _ {L P A : Type 0} (x : Means L P (A × ℕ)) (cells : Cells L P A) where
  -- the drawn number m was begun as a fork; and as the first task of all
  abbrev pub Begins : ℕ → List ℕ → Hand L P A → Hand L P A → Type 0
  Begins m title hand after = (s : Store L) (v : View L (A × ℕ)) (before next : L) → IsDrawn m v hand.seat.me.0 → Holds x (told cells) s before v → HasForked x (told cells) before next m title → IsHolding x cells s next after

  abbrev pub Starts : ℕ → List ℕ → Hand L P A → Hand L P A → Type 0
  Starts m title hand after = (s : Store L) (v : View L (A × ℕ)) → IsDrawn m v hand.seat.me.0 → Idle x (told cells) s v → IsIdle x cells (record s { made = (m, title) ∷ s.made }) after

  -- the free cell m was given again, as a fork
  abbrev pub Reopens : ℕ → List ℕ → Hand L P A → Hand L P A → Type 0
  Reopens m title hand after = (s : Store L) (before next : L) → IsHolding x cells (record s { free = m ∷ s.free }) before hand → HasForked x (told cells) before next (m + size cells) title → IsHolding x cells s next after

  -- a send on m was answered
  abbrev pub Sends : ℕ → Hand L P A → Hand L P A → sent.Sent P → Type 0
  Sends m hand after answer = (s : Store L) (before next : L) → IsHolding x cells s before hand → HasSent x (told cells) before next m → Sending x (told cells) s before next after.seat.me.0 answer
