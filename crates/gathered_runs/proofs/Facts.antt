-- What is known of each task and parcel of the lists, in the terms of their one run.
use Rattle.std.proofs.Common.{◌≡◌, ◌⊎◌, inl, inr, ℕ, ◌≤◌, Bool, true, false, nat_eq, if◌then◌else◌, List, Some, refl, sym, ap, subst, ◌∙◌, eqb-true, arith}
use Rattle.core_language.specs.Names.{Name}
use Rattle.core_language.specs.Values.{Value}
use Rattle.core_language.specs.Programs.{Program}
use Rattle.core_language.specs.Computing.{Halt, machine}
use Rattle.core_language.specs.Configurations.{Place, Running, Ended}
use Rattle.core_language.specs.Acts.{Act, act_of}
use Rattle.core_language.specs.Acts as act
use Rattle.core_language.specs.Endings.{is_ended}
use Rattle.task_rounds.specs.Members.{In}
use Rattle.task_rounds.specs.Tasks.{task_after, entries_after, IsPut}
use Rattle.known_tasks.specs.Known.{KnownTask, KnownParcel, does}
use Rattle.known_tasks.specs.Nexts.{Spent, next_by, next, has_ended}
use Rattle.gathered_runs.specs.Complete.{HasParcel, KeepsLate, IsOnHand, AreKnown, AreComplete, AreAtRest, RestsAt}

ended_acts : (program : Program) (p : Name) (forks : ℕ) (place : Place) → is_ended place ≡ true → act_of machine program p forks place ≡ act.IsEnded
ended_acts program p forks Ended h = refl
ended_acts program p forks (Running rest env callers) h = let bad : ⊥ = cc in absurd bad

module _ (program : Program) (limit : ℕ) (tasks : List KnownTask) (parcels : List KnownParcel) (known : AreKnown tasks parcels) (complete : AreComplete program limit tasks parcels) where
  -- where a task of the lists stands in the run
  pub record Stands (k : KnownTask) : Type 0 where
    pub within : k.time ≤ limit
    pub state : task_after program k.time k.name ≡ Some k.state
    pub noted : entries_after program k.time k.name ≡ k.entries

  pub stands : (k : KnownTask) → In k tasks → Stands k
  stands k h =
      let is = known.each_task k h in
      let (same_program, same_limit) = complete.tasks_of_run k h in
      let within = is.within in
      record {
        within = omega (arith, same_limit);
        state = subst (λ P. task_after P k.time k.name ≡ Some k.state) same_program is.stands;
        noted = subst (λ P. entries_after P k.time k.name ≡ k.entries) same_program is.noted;
      }

  -- what the task does next in the run
  abbrev pub acts : KnownTask → Act
  acts k = act_of machine program k.name k.state.forks k.state.place

  does_is : (k : KnownTask) → In k tasks → does k ≡ acts k
  does_is k h = ap (λ P. act_of machine P k.name k.state.forks k.state.place) (complete.tasks_of_run k h).0

  -- why a task can't go on
  pub data Rests (k : KnownTask) : Type 0 where
    AtLimit : k.time ≡ limit → Rests k
    HasEnded : act_of machine program k.name k.state.forks k.state.place ≡ act.IsEnded → Rests k
    Halts : (why : Halt) → act_of machine program k.name k.state.forks k.state.place ≡ act.IsHalted why → Rests k
    Waits : (c : Name) (place : Value → Place) → act_of machine program k.name k.state.forks k.state.place ≡ act.Recv c place → ((v : Value) → HasParcel parcels c v → ⊥) → Rests k

  rests_by : (k : KnownTask) (a : Act) → act_of machine program k.name k.state.forks k.state.place ≡ a → RestsAt parcels (next_by a) → Rests k
  rests_by k (act.IsHalted why) is h = Halts why is
  rests_by k (act.Recv c place) is h = Waits c place is h
  rests_by k (act.Silent place) is h = absurd h
  rests_by k (act.Print z place) is h = absurd h
  rests_by k (act.Fork c parent its) is h = absurd h
  rests_by k (act.Send c v place) is h = absurd h
  rests_by k act.End is h = absurd h
  rests_by k act.IsEnded is h = absurd h
  rests_by k (act.IsStuck why) is h = absurd h

  pub rests : AreAtRest tasks parcels → (k : KnownTask) → In k tasks → Rests k
  rests at_rest k h = by (at_rest k h)
    where
      by_time : (b : Bool) → nat_eq k.time k.limit ≡ b → RestsAt parcels (if b then Some Spent else next_by (does k)) → Rests k
      by_time true e r = AtLimit (eqb-true k.time k.limit e ∙ (complete.tasks_of_run k h).1)
      by_time false e r = rests_by k (does k) (sym (does_is k h)) r

      by : (has_ended k ≡ true) ⊎ RestsAt parcels (next k) → Rests k
      by (inl ended) = HasEnded (ended_acts program k.name k.state.forks k.state.place ended)
      by (inr r) = by_time (nat_eq k.time k.limit) refl r

  -- ---- what is on hand was put there

  pub kept_put : (c : Name) (v : Value) → KeepsLate tasks c v → IsPut program limit c v
  kept_put c v (k, place, h, waits, late) =
      let is = (known.each_task k h).keeps v late in
      let (same_program, same_limit) = complete.tasks_of_run k h in
      let both = sym is.waits ∙ waits in
      let channel : is.channel ≡ c = cc in
      subst (λ P. IsPut P limit c v) same_program (subst (λ T. IsPut k.program T c v) same_limit (subst (λ d. IsPut k.program k.limit d v) channel is.put))

  -- a round put the value on the channel
  pub record WasPut (c : Name) (v : Value) : Type 0 where
    pub round : ℕ
    pub within : round ≤ limit
    pub put : IsPut program round c v

  pub parcel_put : (c : Name) (v : Value) → HasParcel parcels c v → WasPut c v
  parcel_put c v (q, h, channel, value) =
      let is = known.each_parcel q h in
      let (same_program, same_limit) = complete.parcels_of_run q h in
      let within = is.within in
      record {
        round = q.round;
        within = omega (arith, same_limit);
        put = subst (λ P. IsPut P q.round c v) same_program (subst (λ w. IsPut q.program q.round c w) value (subst (λ d. IsPut q.program q.round d q.value) channel is.put));
      }

  pub on_hand_put : (c : Name) (v : Value) → IsOnHand tasks parcels c v → WasPut c v
  on_hand_put c v (inl parcel) = parcel_put c v parcel
  on_hand_put c v (inr late) = record { round = limit; within = omega arith; put = kept_put c v late }
