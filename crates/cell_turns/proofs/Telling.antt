-- What the loads tell as received they mention.
use Rattle.std.proofs.Common.{◌≡◌, ◌⊎◌, ℕ, zero, suc, ◌<◌, All, List, [], ◌∷◌, ◌++◌, ◌+◌, ◌*◌, ◌≤◌, ◌^◌, arith, sym, subst, refl, ap, ◌∙◌, inl, inr, ⊎_elim, Some, None}
use Rattle.std.specs.declared.option.Option as std_option
use Rattle.chan_base.specs.declared.Number.{Number}
use Rattle.cell_rules.specs.declared.view.View.{View}
use Rattle.cell_rules.specs.Lists.{In}
use Rattle.hand_states.specs.Hands.{Store, Holds, Owes}
use Rattle.hand_states.proofs.Having as having
use Rattle.hand_states.proofs.Closing as closing
use Rattle.hand_calls.specs.Answering.{Retiring, Ending}
use Rattle.one_shot_word.specs.declared.answers.Retired as retired
use Rattle.one_shot_word.specs.declared.answers.Retired.TheVariants.{First, Free}
use Rattle.cell_rules.specs.Rule.{fresh}
use Rattle.cell_rules.specs.Plays.{Sat, noted, spending}
use Rattle.hand_states.specs.Hands.{Idle}
use Rattle.one_shot_word.specs.Seats.{told}
use Rattle.one_shot_word.specs.Seats.{size}
use Rattle.one_shot_word.specs.Hands.{IsFirst}
use Rattle.one_shot_word.specs.declared.cells.Cells.{Cells}
use Rattle.one_shot_word.specs.declared.hand.Hand.{Hand}
use Rattle.one_shot_word.specs.declared.answers.FreeCell.{FreeCell}
use Rattle.cell_turns.specs.Crew.{OfCrew, IsIdle, HasFree, HasSpare, RetiresOne, EndsOne}
use Rattle.cell_turns.specs.declared.job.Note.{Note}
use Rattle.cell_turns.specs.declared.job.Job.{Job}
use Rattle.cell_turns.specs.Meanings.{numbers, named, meanings}

pub told_received : (own : ℕ) (got : std_option.Option Number) (m : ℕ) → In m (numbers got) → (title : List ℕ) × In (m, title) ((own, []) ∷ named got)
told_received own None m i = absurd i
told_received own (Some n) m i = ([], inr (⊎_elim (λ e. inl (ap (λ z. (z, [])) e)) (λ t. absurd t) i))

-- the same load that tells one number more
pub told_next : (about : ℕ × ℕ) (s : Store Job) (load next : Job) (m : Number) (v : View Job (ℕ × ℕ)) → Owes meanings about s load m.0 v → next.number ≡ load.number → load.got ≡ None → next.got ≡ Some m → In (m.0, []) v.names → about ≡ (7, 50)
    → Holds meanings about s next v
told_next about s load next m v owes same none got named-so is =
    let number : next.number.0 ≡ load.number.0 = ap (λ z. z.0) same in
    closing.receives meanings about s v load next m.0 owes
    record { number = number; program = refl; received = λ k i. absurd (subst (λ z. In k (numbers z)) none i) }
    (subst (λ z. In m.0 (numbers z)) (sym got) (inl refl))
    record {
      mentions = λ e i. ⊎_elim (λ q. owes.knows.mentions e (inl (q ∙ ap (λ z. (z, [])) number))) (λ t. ⊎_elim (λ q. subst (λ z. In z v.names) (sym q) named-so) (λ z. absurd z) (subst (λ z. In e (named z)) got t)) i;
      forked = λ k i. absurd i;
      sent = λ k i. absurd i;
      received = λ k i. ⊎_elim (λ q. ([], subst (λ z. In (z, []) v.names) (sym q) named-so)) (λ z. absurd z) (subst (λ z. In k (numbers z)) got i);
      program = owes.knows.program;
    }

-- what holds of two things holds of the list of them
pub all_two : {X : Type 0} (P : X → Type 0) (a b : X) → P a → P b → All P (a ∷ b ∷ [])
all_two P a b here there zero d lt = here
all_two P a b here there (suc zero) d lt = there
all_two P a b here there (suc (suc k)) d lt = absurd (omega arith)

-- and of the last of a list, and of those before it
pub all_last : {X : Type 0} (P : X → Type 0) (xs : List X) (x : X) → All P (xs ++ x ∷ []) → P x
all_last P [] x all = all 0 x (omega arith)
all_last P (y ∷ ys) x all = all_last P ys x (λ k d lt. all (suc k) d (omega arith))

pub all_front : {X : Type 0} (P : X → Type 0) (xs : List X) (x : X) → All P (xs ++ x ∷ []) → All P xs
all_front P [] x all k d lt = absurd (omega arith)
all_front P (y ∷ ys) x all zero d lt = all 0 y (omega arith)
all_front P (y ∷ ys) x all (suc k) d lt = all_front P ys x (λ i e l. all (suc i) e (omega arith)) k d (omega arith)

-- a hand is idle as it is made
pub first_idle : (cells : Cells Job Note ℕ) (hand : Hand Job Note ℕ) → IsFirst cells hand → told cells ≡ (7, 50) → size cells ≤ 1048576 → IsIdle cells hand
first_idle cells hand first is small =
    let v : View Job (ℕ × ℕ) = fresh 1 (told cells ∷ []) in
    let at : hand.seat.me ≡ (v, []) = first.1 in
    let idle : Idle meanings (told cells) (record { made = []; kept = []; free = []; rights = [] }) v = record {
      has = record { program = refl; made = λ e i. absurd i; keeps = λ m load i. absurd i; kept = λ load i. absurd i; free = λ m. omega arith; rights = λ m. omega arith; clear = λ q m lo hi. refl };
      nothing = λ q m lt. refl;
      receipts = λ by m i. absurd i;
    } in (
      ((first.0, ap (λ (s : Sat Job Note (ℕ × ℕ)). s.1) at, subst (λ (s : Sat Job Note (ℕ × ℕ)). 0 < s.0.parts) (sym at) (omega arith)), is, small, ap (λ (s : Sat Job Note (ℕ × ℕ)). s.0.parts) at),
      (record { made = []; kept = []; free = []; rights = [] }, subst (λ (s : Sat Job Note (ℕ × ℕ)). Idle meanings (told cells) (record { made = []; kept = []; free = []; rights = [] }) s.0) (sym at) idle),
    )

-- a free cell may be forgotten
pub spare_idle : (cells : Cells Job Note ℕ) (hand : Hand Job Note ℕ) (spare : std_option.Option FreeCell) → HasSpare cells hand spare → IsIdle cells hand
spare_idle cells hand None has = has
spare_idle cells hand (Some cell) has = (has.0, (record has.2.0 { free = cell.number.0 ∷ has.2.0.free }, has.2.1))

-- the same load but for its end
pub like : (about : ℕ × ℕ) (s : Store Job) (load next : Job) (v : View Job (ℕ × ℕ)) → next.number ≡ load.number → next.got ≡ load.got → Holds meanings about s load v → Holds meanings about s next v
like about s load next v number got holds = having.continues meanings about s v load next holds
    record { number = ap (λ z. z.0) number; program = refl; received = λ k i. subst (λ z. In k (numbers z)) (sym got) i }
    record {
      mentions = λ e i. holds.knows.mentions e (subst (λ (z : Number × std_option.Option Number). In e ((z.0.0, []) ∷ named z.1)) (λ q. (number q, got q)) i);
      forked = λ k i. absurd i;
      sent = λ k i. absurd i;
      received = λ k i. holds.knows.received k (subst (λ z. In k (numbers z)) got i);
      program = holds.knows.program;
    }

-- a hand that drew in vain is as idle as before
pub idle_spent : (about : ℕ × ℕ) (s : Store Job) (v : View Job (ℕ × ℕ)) (a b : ℕ) → Idle meanings about s v → Idle meanings about s (noted 0 a b (spending v))
idle_spent about s v a b idle = record {
  has = record { program = idle.has.program; made = idle.has.made; keeps = idle.has.keeps; kept = idle.has.kept; free = idle.has.free; rights = idle.has.rights; clear = idle.has.clear };
  nothing = idle.nothing;
  receipts = idle.receipts;
}

pub retires_one : (cells : Cells Job Note ℕ) (hand : Hand Job Note ℕ) (job : Job) (s : Store Job) (m : ℕ) (answer : retired.Retired) → OfCrew cells hand → job.number.0 ≤ 2 ^ 60 → Retiring meanings (told cells) s job (size cells) m hand.seat.me.0 answer
    → RetiresOne cells hand job answer
retires_one cells hand job s m First crew small holds = (crew, small, (s, holds))
retires_one cells hand job s m (Free freed) crew small does = (crew, small, does.1 ∙ ap (λ z. z + size cells) (sym does.0), (s, subst (λ z. Holds meanings (told cells) (record s { free = z ∷ s.free }) job hand.seat.me.0) (sym does.0) does.2))

pub ends_one : (cells : Cells Job Note ℕ) (hand : Hand Job Note ℕ) (job : Job) (s : Store Job) (answer : retired.Retired) → OfCrew cells hand → Ending meanings (told cells) s job (size cells) hand.seat.me.0 answer → EndsOne cells hand answer
ends_one cells hand job s First crew idle = (crew, (record s { kept = job ∷ s.kept }, idle))
ends_one cells hand job s (Free freed) crew does = (crew, does.1 ∙ ap (λ z. z + size cells) (sym does.0), (record s { kept = job ∷ s.kept }, subst (λ z. Idle meanings (told cells) (record s { kept = job ∷ s.kept; free = z ∷ s.free }) hand.seat.me.0) (sym does.0) does.2))
