-- What each call makes of a hand.
use Rattle.std.specs.Prelude.{◌≡◌, ◌⊎◌, ℕ, ◌+◌, List, ◌∷◌, ◌++◌}
use Rattle.cell_rules.specs.declared.view.View.{View}
use Rattle.cell_rules.specs.Lists.{count, In}
use Rattle.cell_rules.specs.Marks.{Kept}
use Rattle.cell_rules.specs.Rule.{Means}
use Rattle.cell_rules.specs.Asks.{Knows}
use Rattle.cell_rules.specs.Plays.{noted, drawing, opened, beginning, lifting, settling, leaving, halting, parking, seeing, claiming, sending, sending_to, waked, collecting, stowing, spending_right, freeing_right, ending, freeing_end, clearing_claim, clearing_chan, raising, reopening, taking, reclaiming}
use Rattle.cell_rules.specs.Rule.{both}
use Rattle.cell_rules.specs.Closing.{AtRest, HasNothing}
use Rattle.hand_states.specs.Hands.{Store, Idle, Holds, Owes, IsOf, joined, AreAll}

module _ {L P A : Type 0} (x : Means L P A) (about : A) (s : Store L) where
  -- a load is taken: no kept load has its number, and what it forked it mentions
  abbrev pub TakesIn : Type 0
  TakesIn = (v : View L A) (load : L) (w a r a' r' : ℕ) → Idle x about s v → count (Kept (x.number load)) v.marks ≡ 0 → x.about load ≡ about
      → ((m : ℕ) → In m (x.forked load) → (title : List ℕ) × In (m, title) (x.mentions load)) → ((m : ℕ) → In m (x.received load) → (title : List ℕ) × In (m, title) (x.mentions load))
      → Holds x about s load (noted w a a' (settling (x.number load) (noted w r r' (taking x (x.number load) load v))))

  abbrev pub GoesHomeIn : Type 0
  GoesHomeIn = (v : View L A) (load : L) (w a b b' a' : ℕ) → Holds x about s load v
      → Idle x about s (noted w b b' (leaving (x.number load) (noted w a a' (lifting (x.number load) v))))

  -- a step of a task that mentions, forked and sent what the view knows
  abbrev pub ContinuesIn : Type 0
  ContinuesIn = (v : View L A) (load next : L) → Holds x about s load v → IsOf x about load next → Knows x v next → Holds x about s next v

  abbrev pub SendsIn : Type 0
  SendsIn = (v : View L A) (load next : L) (m u a w b b' a' : ℕ) → Holds x about s load v → IsOf x about load next
      → ((e : ℕ × List ℕ) → In e (x.mentions next) → In e (x.mentions load)) → ((k : ℕ) → In k (x.forked next) → In k (x.forked load)) → ((k : ℕ) → In k (x.sent next) → (k ≡ m) ⊎ In k (x.sent load)) → ((k : ℕ) → In k (x.received next) → In k (x.received load))
      → Holds x about s next (noted u b b' (sending m (noted w a a' (claiming m v))))

  abbrev pub SendsToIn : Type 0
  SendsToIn = (v : View L A) (load next : L) (m j t u w a b c c' b' a' : ℕ) → Holds x about s load v → IsOf x about load next
      → ((e : ℕ × List ℕ) → In e (x.mentions next) → In e (x.mentions load)) → ((k : ℕ) → In k (x.forked next) → In k (x.forked load)) → ((k : ℕ) → In k (x.sent next) → (k ≡ m) ⊎ In k (x.sent load)) → ((k : ℕ) → In k (x.received next) → In k (x.received load))
      → Holds x about s next (noted t c c' (waked j (noted u b b' (sending_to m j (noted w a a' (claiming m v))))))

  -- a parcel came: the load owes to tell it, and the right is there
  abbrev pub CollectsIn : Type 0
  CollectsIn = (v : View L A) (load : L) (m w a b b' a' : ℕ) (names : List (ℕ × List ℕ)) → Holds x about s load v
      → Owes x about (record s { rights = m ∷ s.rights }) load m (noted w b b' (stowing m (noted w a a' (collecting m names (x.number load) v))))

  -- an ended load stays with its hand
  abbrev pub KeepsIn : Type 0
  KeepsIn = (v : View L A) (load : L) (w a a' : ℕ) → Holds x about s load v
      → Idle x about (record s { kept = load ∷ s.kept }) (noted w a a' (ending (x.number load) load v))
      × Idle x about (record s { kept = load ∷ s.kept; free = x.number load ∷ s.free }) (noted w a a' (freeing_end (x.number load) load v))

  -- a number was drawn and begun: the parent may tell it as forked
  abbrev pub BeginsIn : Type 0
  BeginsIn = (v : View L A) (load next : L) (m : ℕ) (title : List ℕ) (w r a b b' a' r' : ℕ) → Holds x about s load v → IsOf x about load next
      → ((e : ℕ × List ℕ) → In e (x.mentions next) → (e ≡ (m, title)) ⊎ In e (x.mentions load)) → ((k : ℕ) → In k (x.forked next) → (k ≡ m) ⊎ In k (x.forked load)) → ((k : ℕ) → In k (x.sent next) → In k (x.sent load)) → ((k : ℕ) → In k (x.received next) → In k (x.received load))
      → Holds x about s next (noted w b b' (beginning m title (noted w a a' (opened m (noted 0 r r' (drawing m v))))))

  -- the load that tells what it received is one in hand
  abbrev pub ReceivesIn : Type 0
  ReceivesIn = (v : View L A) (load next : L) (m : ℕ) → Owes x about s load m v → IsOf x about load next → In m (x.received next) → Knows x v next → Holds x about s next v

  -- a load was parked
  abbrev pub ParksIn : Type 0
  ParksIn = (v : View L A) (load : L) (t c a b d e d' b' a' e' : ℕ) → Holds x about s load v
      → Idle x about s (noted c d d' (parking (x.number load) (noted t b b' (halting (x.number load) load (noted t a a' (lifting (x.number load) (noted c e e' v)))))))

  -- it could not be parked, and came back
  abbrev pub ComesBackIn : Type 0
  ComesBackIn = (v : View L A) (load : L) (t c a b d e f g g' f' d' b' a' e' : ℕ) → Holds x about s load v
      → Holds x about s load (noted t g g' (settling (x.number load) (noted t f f' (reclaiming x (x.number load) load (noted c d d' (noted t b b' (halting (x.number load) load (noted t a a' (lifting (x.number load) (noted c e e' v))))))))))

  -- and where the channel was found FULL the view has besides that something was sent there
  abbrev pub SeesIn : Type 0
  SeesIn = (v : View L A) (load : L) (m : ℕ) → Holds x about s load v → Holds x about s load (seeing m v)

  -- the receiver retires a cell: as the first of two, or as the second
  abbrev pub RetiresIn : Type 0
  RetiresIn = (v : View L A) (load : L) (m w a a' : ℕ) → Holds x about (record s { rights = m ∷ s.rights }) load v
      → Holds x about s load (noted w a a' (spending_right m v)) × Holds x about (record s { free = m ∷ s.free }) load (noted w a a' (freeing_right m v))

  -- a free cell is given again, of n cells
  abbrev pub ReopensIn : Type 0
  ReopensIn = (v : View L A) (load next : L) (n m : ℕ) (title : List ℕ) (p q t a b c d d' c' b' a' : ℕ) → Holds x about (record s { free = m ∷ s.free }) load v → IsOf x about load next
      → ((e : ℕ × List ℕ) → In e (x.mentions next) → (e ≡ (m + n, title)) ⊎ In e (x.mentions load)) → ((k : ℕ) → In k (x.forked next) → (k ≡ m + n) ⊎ In k (x.forked load)) → ((k : ℕ) → In k (x.sent next) → In k (x.sent load)) → ((k : ℕ) → In k (x.received next) → In k (x.received load))
      → Holds x about s next (noted t d d' (reopening n m title (noted t c c' (raising m (noted q b b' (clearing_chan m (noted p a a' (clearing_claim m v))))))))

  -- the first load of all goes home
  abbrev pub StartsIn : Type 0
  StartsIn = (v : View L A) (m : ℕ) (title : List ℕ) (w r a b b' a' r' : ℕ) → Idle x about s v
      → Idle x about (record s { made = (m, title) ∷ s.made }) (noted w b b' (beginning m title (noted w a a' (opened m (noted 0 r r' (drawing m v))))))

  -- two hands are joined
  abbrev pub JoinsIn : Type 0
  JoinsIn = (t : Store L) (v w : View L A) → Idle x about s v → Idle x about t w → Idle x about (joined s t) (both v w)

  -- the hand of all may close the cells, and has then all loads and parcels
  abbrev pub ClosesIn : Type 0
  ClosesIn = (v : View L A) (loads : List L) (parcels : List P) → Idle x about s v → HasNothing v × (AtRest x about v loads parcels → AreAll x about s.made (loads ++ s.kept) parcels)

  -- a step that changes nothing but the log
  abbrev pub NotesIn : Type 0
  NotesIn = (v : View L A) (w a a' : ℕ) → (Idle x about s v → Idle x about s (noted w a a' v)) × ((load : L) → Holds x about s load v → Holds x about s load (noted w a a' v))
