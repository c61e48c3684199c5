-- What each answer makes of a hand that holds a load.
use Rattle.std.proofs.Common.{◌≡◌, ℕ, ◌+◌, List, [], ◌∷◌, sym, refl, ap, subst, ◌∙◌, inr, ⊎_elim}
use Rattle.atomic_table.specs.Table.{Me}
use Rattle.cell_rules.specs.declared.view.View.{View}
use Rattle.cell_rules.specs.Words.{cell, task_at, claim_at, chan_at, retire_at, READY, RUNNING, WAITING, FREE, BY, EMPTY, FULL, DONE, PARKED}
use Rattle.cell_rules.specs.Lists.{In}
use Rattle.cell_rules.specs.Rule.{Means, Held}
use Rattle.cell_rules.specs.Plays.{noted, lifting, settling, halting, parking, seeing, reclaiming}
use Rattle.hand_states.specs.Hands.{Store, Idle, Holds, Owes, IsOf}
use Rattle.cell_rules.proofs.Totals.{In-right}
use Rattle.hand_states.proofs.Having as having
use Rattle.hand_states.proofs.Closing as closing
use Rattle.one_shot_word.specs.Calls.{Sends, Rests, Back, Reading, Receives, Retires, received_by, ended_by}
use Rattle.one_shot_word.specs.declared.answers.Got as got
use Rattle.one_shot_word.specs.declared.answers.Got.TheVariants.{Value, Parked}
use Rattle.one_shot_word.specs.declared.answers.Got.TheVariants.{Misused as Misuse}
use Rattle.one_shot_word.specs.declared.answers.Sent as sent
use Rattle.one_shot_word.specs.declared.answers.Sent.TheVariants.{Left, Wakes, Misused}
use Rattle.one_shot_word.specs.declared.answers.Retired as retired
use Rattle.one_shot_word.specs.declared.answers.Retired.TheVariants.{First, Free}
use Rattle.hand_calls.specs.Answering.{Receiving, Retiring, Ending}

-- no slot is out, and the view stands for as many hands and has the same names
abbrev pub Stays : {L P A : Type 0} → View L A → Me (Held L P) (View L A) → Type 0
Stays v w = (w.1 ≡ []) × (w.0.parts ≡ v.parts) × (w.0.names ≡ v.names)

stays : {L P A : Type 0} (v u : View L A) (w : Me (Held L P) (View L A)) → w ≡ (u, []) → u.parts ≡ v.parts → u.names ≡ v.names → Stays v w
stays v u w e parts names = (ap (λ m. m.1) e, ap (λ m. m.0.parts) e ∙ parts, ap (λ m. m.0.names) e ∙ names)

pub retired_parts : {L A : Type 0} (m : ℕ) (answer : retired.Retired) (v : View L A) → ((received_by m answer v).parts ≡ v.parts) × ((received_by m answer v).names ≡ v.names)
retired_parts m First v = (refl, refl)
retired_parts m (Free freed) v = (refl, refl)

pub ended_parts : {L A : Type 0} (m : ℕ) (load : L) (answer : retired.Retired) (v : View L A) → ((ended_by m load answer v).parts ≡ v.parts) × ((ended_by m load answer v).names ≡ v.names)
ended_parts m load First v = (refl, refl)
ended_parts m load (Free freed) v = (refl, refl)

module _ {L P A : Type 0} where
  pub sends_stay : (n m by : ℕ) (v : View L A) (w : Me (Held L P) (View L A)) (p : P) (answer : sent.Sent P) → Sends n m by v w p answer → Stays v w
  sends_stay n m by v w p Left does = stays v _ w does refl refl
  sends_stay n m by v w p (Wakes j) does = stays v _ w does.1.1 refl refl
  sends_stay n m by v w p (Misused q what) does = stays v _ w does.4 refl refl

module _ {L P A : Type 0} (x : Means L P A) where
  reading_parts : (n m : ℕ) (load : L) (v u : View L A) → Reading x n m load v u → (u.parts ≡ v.parts) × (u.names ≡ v.names)
  reading_parts n m load v u how = ⊎_elim (λ e. (ap (λ (z : View L A). z.parts) e, ap (λ (z : View L A). z.names) e))
      (λ t. (ap (λ (z : View L A). z.parts) t.2.2 ∙ ap (λ (z : View L A). z.parts) t.1.2, ap (λ (z : View L A). z.names) t.2.2 ∙ ap (λ (z : View L A). z.names) t.1.2)) how

  pub receives_stay : (n m : ℕ) (v : View L A) (w : Me (Held L P) (View L A)) (load : L) (answer : got.Got L P) → Receives x n m v w load answer → (w.1 ≡ []) × (w.0.parts ≡ v.parts) × ((e : ℕ × List ℕ) → In e v.names → In e w.0.names)
  receives_stay n m v w load (Value back parcel) does =
      let e = does.1.2.2.1 in
      let r = reading_parts n m load v does.1.0 does.1.1 in (
        ap (λ (z : Me (Held L P) (View L A)). z.1) e,
        ap (λ (z : Me (Held L P) (View L A)). z.0.parts) e ∙ r.0,
        λ t i. subst (λ (z : Me (Held L P) (View L A)). In t z.0.names) (sym e) (In-right t (x.tells parcel) does.1.0.names (subst (λ l. In t l) (sym r.1) i)),
      )
  receives_stay n m v w load Parked does = (
    ap (λ (z : Me (Held L P) (View L A)). z.1) does.2,
    ap (λ (z : Me (Held L P) (View L A)). z.0.parts) does.2 ∙ ap (λ (z : View L A). z.parts) does.1.2,
    λ t i. subst (λ l. In t l) (sym (ap (λ (z : Me (Held L P) (View L A)). z.0.names) does.2 ∙ ap (λ (z : View L A). z.names) does.1.2)) i,
  )
  receives_stay n m v w load (Misuse back what) does = ⊎_elim
      (λ t. let r = reading_parts n m load v t.0 t.1 in (
        ap (λ (z : Me (Held L P) (View L A)). z.1) t.2,
        ap (λ (z : Me (Held L P) (View L A)). z.0.parts) t.2 ∙ r.0,
        λ y i. subst (λ l. In y l) (sym (ap (λ (z : Me (Held L P) (View L A)). z.0.names) t.2 ∙ r.1)) i,
      ))
      (λ t. (
        ap (λ (z : Me (Held L P) (View L A)). z.1) t.2,
        ap (λ (z : Me (Held L P) (View L A)). z.0.parts) t.2 ∙ (ap (λ (z : View L A). z.parts) t.1.2.2 ∙ ap (λ (z : View L A). z.parts) t.1.1.2),
        λ y i. subst (λ l. In y l) (sym (ap (λ (z : Me (Held L P) (View L A)). z.0.names) t.2 ∙ (ap (λ (z : View L A). z.names) t.1.2.2 ∙ ap (λ (z : View L A). z.names) t.1.1.2))) i,
      )) does.1.4

module _ {L P A : Type 0} (x : Means L P A) (about : A) (s : Store L) where
  same_load : (load : L) → IsOf x about load load
  same_load load = record { number = refl; program = refl; received = λ m i. i }

  pub sending_holds : (n m by : ℕ) (v : View L A) (w : Me (Held L P) (View L A)) (p : P) (answer : sent.Sent P) (load : L) → Holds x about s load v → Sends n m by v w p answer → Holds x about s load w.0
  sending_holds n m by v w p Left load holds does = subst (λ (z : View L A). Holds x about s load z) (sym (ap (λ (z : Me (Held L P) (View L A)). z.0) does))
      (having.sends x about s v load load m (chan_at (cell n m)) (FREE m) (claim_at (cell n m)) (EMPTY m) (FULL m) (BY by) holds (same_load load) (λ e i. i) (λ k i. i) (λ k i. inr i) (λ k i. i))
  sending_holds n m by v w p (Wakes j) load holds does = subst (λ (z : View L A). Holds x about s load z) (sym (ap (λ (z : Me (Held L P) (View L A)). z.0) does.1.1))
      (having.sends_to x about s v load load m j.0 (task_at (cell n j.0)) (chan_at (cell n m)) (claim_at (cell n m)) (FREE m) (PARKED j.0) does.1.0 (READY j.0) (FULL m) (BY by) holds (same_load load) (λ e i. i) (λ k i. i) (λ k i. inr i) (λ k i. i))
  sending_holds n m by v w p (Misused q what) load holds does = subst (λ (z : View L A). Holds x about s load z) (sym (ap (λ (z : Me (Held L P) (View L A)). z.0) does.4))
      ((closing.notes x about s v (claim_at (cell n m)) does.0 does.0).1 load holds)

  module _ (n m : ℕ) (load : L) where
    -- a load that was to be parked came back, in a view in which the channel was read
    returned : (v r u : View L A) (c a b : ℕ) → Holds x about s load v → Rests n (x.number load) load (noted (chan_at (cell n m)) (EMPTY m) (EMPTY m) v) r → Back x n load (noted (chan_at (cell n m)) c c r) u → Holds x about s load u × (u.names ≡ v.names)
    returned v r u c a b holds rests again =
        let own : ℕ = x.number load in
        let t : ℕ = task_at (cell n own) in
        let h : ℕ = chan_at (cell n m) in
        let whole : u ≡ noted t again.1 again.1 (settling own (noted t again.0 (RUNNING own) (reclaiming x own load (noted h c c (noted t rests.1 (WAITING own) (halting own load (noted t rests.0 rests.0 (lifting own (noted h (EMPTY m) (EMPTY m) v))))))))) =
        again.2 ∙ ap (λ (z : View L A). noted t again.1 again.1 (settling own (noted t again.0 (RUNNING own) (reclaiming x own load (noted h c c z))))) rests.2 in
        (subst (λ (z : View L A). Holds x about s load z) (sym whole) (closing.comes_back x about s v load t h rests.0 rests.1 c (EMPTY m) again.0 again.1 again.1 (RUNNING own) c (WAITING own) rests.0 (EMPTY m) holds), ap (λ (z : View L A). z.names) whole)

    saw : (v r u : View L A) → Holds x about s load v → Rests n (x.number load) load (noted (chan_at (cell n m)) (EMPTY m) (EMPTY m) v) r → Back x n load (noted (chan_at (cell n m)) (FULL m) (FULL m) (seeing m r)) u → Holds x about s load u × (u.names ≡ v.names)
    saw v r u holds rests again =
        let own : ℕ = x.number load in
        let t : ℕ = task_at (cell n own) in
        let h : ℕ = chan_at (cell n m) in
        let calm : View L A = noted t again.1 again.1 (settling own (noted t again.0 (RUNNING own) (reclaiming x own load (noted h (FULL m) (FULL m) (noted t rests.1 (WAITING own) (halting own load (noted t rests.0 rests.0 (lifting own (noted h (EMPTY m) (EMPTY m) v))))))))) in
        let whole : u ≡ seeing m calm = again.2 ∙ ap (λ (z : View L A). noted t again.1 again.1 (settling own (noted t again.0 (RUNNING own) (reclaiming x own load (noted h (FULL m) (FULL m) (seeing m z)))))) rests.2 in
        (subst (λ (z : View L A). Holds x about s load z) (sym whole) (closing.sees x about s calm load m (closing.comes_back x about s v load t h rests.0 rests.1 (FULL m) (EMPTY m) again.0 again.1 again.1 (RUNNING own) (FULL m) (WAITING own) rests.0 (EMPTY m) holds)), ap (λ (z : View L A). z.names) whole)

    -- the view in which the channel was read last
    read : (v u : View L A) → Holds x about s load v → Reading x n m load v u → Holds x about s load u × (u.names ≡ v.names)
    read v u holds how = ⊎_elim
        (λ e. (subst (λ (z : View L A). Holds x about s load z) (sym e) holds, ap (λ (z : View L A). z.names) e))
        (λ t. saw v t.0 u holds t.1 t.2) how

    pub receiving : (v : View L A) (w : Me (Held L P) (View L A)) (answer : got.Got L P) → Holds x about s load v → Receives x n m v w load answer → Receiving x about s load m v w.0 answer
    receiving v w (Value back parcel) holds does =
        let u : View L A = does.1.0 in
        let reading = read v u holds does.1.1 in
        let collected = does.1.2 in
        let can = collected.1 in
        let after = collected.2 in
        let both : x.origin parcel ∷ [] ≡ about ∷ [] = sym can.0 ∙ reading.0.has.program in
        let program : x.origin parcel ≡ about = cc in
        let h : ℕ = chan_at (cell n m) in (
          does.0,
          record {
            channel = collected.0;
            owes = subst (λ (z : View L A). Owes x about (record s { rights = m ∷ s.rights }) load m z) (sym (ap (λ (z : Me (Held L P) (View L A)). z.0) after.1)) (having.collects x about s u load m h (FULL m) after.0 after.0 (DONE m) (x.tells parcel) reading.0);
            program = program;
            names = λ k title other i i'. can.1 k title other (subst (λ l. In (k, title) l) (sym reading.1) i) i';
            more = λ e i. subst (λ (z : Me (Held L P) (View L A)). In e z.0.names) (sym after.1) (In-right e (x.tells parcel) u.names (subst (λ l. In e l) (sym reading.1) i));
          },
        )
    receiving v w Parked holds does =
        let own : ℕ = x.number load in
        let t : ℕ = task_at (cell n own) in
        let h : ℕ = chan_at (cell n m) in
        let rests = does.1 in
        let whole : w.0 ≡ noted h (EMPTY m) (PARKED own) (parking own (noted t rests.1 (WAITING own) (halting own load (noted t rests.0 rests.0 (lifting own (noted h (EMPTY m) (EMPTY m) v)))))) =
        ap (λ (z : Me (Held L P) (View L A)). z.0) does.2 ∙ ap (λ (z : View L A). noted h (EMPTY m) (PARKED own) (parking own z)) rests.2 in
        subst (λ (z : View L A). Idle x about s z) (sym whole) (closing.parks x about s v load t h rests.0 rests.1 (EMPTY m) (EMPTY m) (PARKED own) (WAITING own) rests.0 (EMPTY m) holds)
    receiving v w (Misuse back what) holds does = (
      does.0,
      ⊎_elim
          (λ t. let reading = read v t.0 holds t.1 in subst (λ (z : View L A). Holds x about s load z) (sym (ap (λ (z : Me (Held L P) (View L A)). z.0) t.2)) ((closing.notes x about s t.0 (chan_at (cell n m)) does.1.0 does.1.0).1 load reading.0))
          (λ t. subst (λ (z : View L A). Holds x about s load z) (sym (ap (λ (z : Me (Held L P) (View L A)). z.0) t.2)) (returned v t.1.0 t.0 does.1.0 0 0 holds t.1.1 t.1.2).0) does.1.4,
    )

    pub retiring : (v : View L A) (w : Me (Held L P) (View L A)) (found : ℕ) (answer : retired.Retired) → Holds x about (record s { rights = m ∷ s.rights }) load v → Retires m n found answer
        → w ≡ (noted (retire_at (cell n m)) found (found + 1) (received_by m answer v), []) → Retiring x about s load n m w.0 answer
    retiring v w found First holds does e = subst (λ (z : View L A). Holds x about s load z) (sym (ap (λ (z : Me (Held L P) (View L A)). z.0) e)) (closing.retires x about s v load m (retire_at (cell n m)) found (found + 1) holds).0
    retiring v w found (Free freed) holds does e = (does.1, does.2, subst (λ (z : View L A). Holds x about (record s { free = m ∷ s.free }) load z) (sym (ap (λ (z : Me (Held L P) (View L A)). z.0) e)) (closing.retires x about s v load m (retire_at (cell n m)) found (found + 1) holds).1)

  pub ends : (n : ℕ) (load : L) (v : View L A) (w : Me (Held L P) (View L A)) (found : ℕ) (answer : retired.Retired) → Holds x about s load v → Retires (x.number load) n found answer
      → w ≡ (noted (retire_at (cell n (x.number load))) found (found + 1) (ended_by (x.number load) load answer v), []) → Ending x about s load n w.0 answer
  ends n load v w found First holds does e = subst (λ (z : View L A). Idle x about (record s { kept = load ∷ s.kept }) z) (sym (ap (λ (z : Me (Held L P) (View L A)). z.0) e)) (having.keeps x about s v load (retire_at (cell n (x.number load))) found (found + 1) holds).0
  ends n load v w found (Free freed) holds does e = (does.1, does.2, subst (λ (z : View L A). Idle x about (record s { kept = load ∷ s.kept; free = x.number load ∷ s.free }) z) (sym (ap (λ (z : Me (Held L P) (View L A)). z.0) e)) (having.keeps x about s v load (retire_at (cell n (x.number load))) found (found + 1) holds).1)
