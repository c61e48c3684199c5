-- What a hand has where it may not draw again, and where it drew.
use Rattle.std.proofs.Common.{◌≡◌, ◌⊎◌, ℕ, ◌+◌, List, [], ◌∷◌, sym, refl, ap, subst, ◌∙◌, inr}
use Rattle.atomic_table.specs.Table.{Me}
use Rattle.cell_rules.specs.declared.view.View.{View}
use Rattle.cell_rules.specs.Words.{cell, claim_at, chan_at, task_at, EMPTY, FREE, FULL, BY, PARKED, READY}
use Rattle.cell_rules.specs.Lists.{In}
use Rattle.cell_rules.specs.Rule.{Means, Held}
use Rattle.cell_rules.specs.Plays.{noted, spending}
use Rattle.hand_states.specs.Hands.{Store, Has, Idle, Holds, IsOf}
use Rattle.hand_states.proofs.Having as having
use Rattle.hand_states.proofs.Closing as closing
use Rattle.one_shot_word.specs.Calls as calls
use Rattle.one_shot_word.specs.declared.answers.Sent as sent
use Rattle.one_shot_word.specs.declared.answers.Sent.TheVariants.{Left, Wakes, Misused}
use Rattle.hand_deeds.specs.Deeds.{HasSent, Sending}

module _ {L P A : Type 0} (x : Means L P A) (about : A) (s : Store L) (v : View L A) (w a b : ℕ) where
  has_spent : Has x about s v → Has x about s (noted w a b (spending v))
  has_spent has = record { program = has.program; made = has.made; keeps = has.keeps; kept = has.kept; free = has.free; rights = has.rights; clear = has.clear }

  pub idle_spent : Idle x about s v → Idle x about s (noted w a b (spending v))
  idle_spent idle = record { has = has_spent idle.has; nothing = idle.nothing; receipts = idle.receipts }

  pub holds_spent : (load : L) → Holds x about s load v → Holds x about s load (noted w a b (spending v))
  holds_spent load holds = record {
    has = has_spent holds.has;
    one = holds.one;
    receipts = holds.receipts;
    knows = record { mentions = holds.knows.mentions; forked = holds.knows.forked; sent = holds.knows.sent; received = holds.knows.received; program = holds.knows.program };
    tells = holds.tells;
  }

module _ {L P A : Type 0} (x : Means L P A) (about : A) (s : Store L) where
  -- a send was made by a load that tells it afterwards
  pub sent_holds : (n m by : ℕ) (v : View L A) (w : Me (Held L P) (View L A)) (p : P) (answer : sent.Sent P) (before next : L) → Holds x about s before v → HasSent x about before next m
      → calls.Sends n m by v w p answer → Sending x about s before next w.0 answer
  sent_holds n m by v w p Left before next holds t does = subst (λ (z : View L A). Holds x about s next z) (sym (ap (λ (z : Me (Held L P) (View L A)). z.0) does))
      (having.sends x about s v before next m (chan_at (cell n m)) (FREE m) (claim_at (cell n m)) (EMPTY m) (FULL m) (BY by) holds t.same t.mentions t.forked t.sent t.received)
  sent_holds n m by v w p (Wakes j) before next holds t does = subst (λ (z : View L A). Holds x about s next z) (sym (ap (λ (z : Me (Held L P) (View L A)). z.0) does.1.1))
      (having.sends_to x about s v before next m j.0 (task_at (cell n j.0)) (chan_at (cell n m)) (claim_at (cell n m)) (FREE m) (PARKED j.0) does.1.0 (READY j.0) (FULL m) (BY by) holds t.same t.mentions t.forked t.sent t.received)
  sent_holds n m by v w p (Misused q what) before next holds t does = subst (λ (z : View L A). Holds x about s before z) (sym (ap (λ (z : Me (Held L P) (View L A)). z.0) does.4))
      ((closing.notes x about s v (claim_at (cell n m)) does.0 does.0).1 before holds)
