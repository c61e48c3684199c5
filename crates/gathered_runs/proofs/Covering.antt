-- The lists cover the run: each task of each round is there, and none went on after the time at which it is there.
use Rattle.std.proofs.Common.{◌≡◌, ◌⊎◌, inl, inr, ℕ, zero, suc, ◌≤◌, ◌<◌, Bool, true, false, List, [], ◌∷◌, Option, Some, None, is_some, refl, sym, ap, subst, ◌∙◌, arith}
use Rattle.std.specs.Ordering.{nat_cmp}
use Rattle.std.specs.Cmp.Lexicographic.{slice_cmp}
use Rattle.std.specs.FinMap.{empty, get-empty}
use Rattle.std.proofs.lemmas.Bool.{cases_lt}
use Rattle.core_language.specs.Names.{Name, NameMap, main, same_name}
use Rattle.core_language.specs.Values.{Value}
use Rattle.core_language.specs.Programs.{Program, main_function}
use Rattle.core_language.specs.Configurations.{Place, Task, started}
use Rattle.core_language.specs.Computing.{machine}
use Rattle.core_language.specs.Acts.{act_of}
use Rattle.core_language.specs.Acts as act
use Rattle.core_language.specs.Steps.{Fork, Recv}
use Rattle.core_language.specs.Rounds.{Entry, run_of}
use Rattle.machine_rounds.proofs.Rounded.{same-self, same-is}
use Rattle.task_rounds.specs.Members.{In}
use Rattle.task_rounds.specs.Telling.{is_send_on, is_receive_on, was_sent, was_received}
use Rattle.task_rounds.specs.Tasks.{placed, task_after, channel_after, entries_after}
use Rattle.task_rounds.proofs.Members.{any_member, member_any, in_right}
use Rattle.task_rounds.proofs.Names.{by_name}
use Rattle.task_rounds.proofs.Own.{in_own, from_own}
use Rattle.task_rounds.proofs.Runs.{is_run}
use Rattle.task_rounds.proofs.Stepping.{born}
use Rattle.task_rounds.proofs.Acting.{Stays, fork, receive, wait, finds_it, halt, ended}
use Rattle.task_rounds.proofs.History.{sends_there, entry_kept, own_kept, stage, not_sent_before}
use Rattle.known_tasks.specs.Known.{KnownTask, KnownParcel}
use Rattle.gathered_runs.specs.Complete.{HasTask, Shows, HasParcel, KeepsLate, IsOnHand}
use Rattle.gathered_runs.specs.Gathered.{IsLatest, AreDone}
use Rattle.gathered_runs.proofs.Facts.{Stands, stands, Rests, AtLimit, HasEnded, Halts, Waits, rests, kept_put}

-- ---- the latest of a name

-- of the tasks with this name one that has come furthest
record Furthest (tasks : List KnownTask) (p : Name) : Type 0 where
  task : KnownTask
  is_there : In task tasks
  named : task.name ≡ p
  last : (l : KnownTask) → In l tasks → l.name ≡ p → l.time ≤ task.time

furthest : (tasks : List KnownTask) (p : Name) → ((k : KnownTask) → In k tasks → k.name ≡ p → ⊥) ⊎ Furthest tasks p
furthest [] p = inl (λ k h e. h)
furthest (k ∷ ks) p = by (same_name k.name p) refl (furthest ks p)
  where
    none_more : (l : KnownTask) → In l (k ∷ ks) → (k.name ≡ p → ⊥) → ((l : KnownTask) → In l ks → l.name ≡ p → ⊥) → l.name ≡ p → ⊥
    none_more l (inl is) other none e = other (ap (λ (x : KnownTask). x.name) (sym is) ∙ e)
    none_more l (inr h) other none e = none l h e

    no_later : (l : KnownTask) → In l (k ∷ ks) → (n : ℕ) → k.time ≤ n → ((l : KnownTask) → In l ks → l.name ≡ p → l.time ≤ n) → l.name ≡ p → l.time ≤ n
    no_later l (inl is) n less rest e = let same_time = ap (λ (x : KnownTask). x.time) is in omega arith
    no_later l (inr h) n less rest e = rest l h e

    by : (b : Bool) → same_name k.name p ≡ b → ((l : KnownTask) → In l ks → l.name ≡ p → ⊥) ⊎ Furthest ks p → ((l : KnownTask) → In l (k ∷ ks) → l.name ≡ p → ⊥) ⊎ Furthest (k ∷ ks) p
    by false e (inl none) = inl (λ l h is. none_more l h (λ f. let both = sym e ∙ ap (λ q. same_name q p) f ∙ same-self p in cc) none is)
    by false e (inr far) = inr (record {
      task = far.task;
      is_there = inr far.is_there;
      named = far.named;
      last = λ l h is. other l h is;
    })
      where
        other : (l : KnownTask) → In l (k ∷ ks) → l.name ≡ p → l.time ≤ far.task.time
        other l (inl is) f = let both = sym e ∙ ap (λ q. same_name q p) (ap (λ (x : KnownTask). x.name) (sym is) ∙ f) ∙ same-self p in let bad : ⊥ = cc in absurd bad
        other l (inr h) f = far.last l h f
    by true e (inl none) = inr (record { task = k; is_there = inl refl; named = same-is k.name p e; last = λ l h is. no_later l h k.time (omega arith) (λ m g f. absurd (none m g f)) is })
    by true e (inr far) = of_two (cases_lt far.task.time k.time)
      where
        of_two : (far.task.time < k.time) ⊎ (k.time ≤ far.task.time) → ((l : KnownTask) → In l (k ∷ ks) → l.name ≡ p → ⊥) ⊎ Furthest (k ∷ ks) p
        of_two (inl less) = inr (record { task = k; is_there = inl refl; named = same-is k.name p e; last = λ l h is. no_later l h k.time (omega arith) (λ m g f. let before = far.last m g f in omega arith) is })
        of_two (inr less) = inr (record { task = far.task; is_there = inr far.is_there; named = far.named; last = λ l h is. no_later l h far.task.time less far.last is })

-- the latest task of a name that is there
pub latest_of : (tasks : List KnownTask) (p : Name) → HasTask tasks p → (k : KnownTask) × IsLatest tasks k × (k.name ≡ p)
latest_of tasks p (k, h, named) = by (furthest tasks p)
  where
    by : ((l : KnownTask) → In l tasks → l.name ≡ p → ⊥) ⊎ Furthest tasks p → (k : KnownTask) × IsLatest tasks k × (k.name ≡ p)
    by (inl none) = absurd (none k h named)
    by (inr far) = (far.task, record { is_there = far.is_there; last = λ l g e. far.last l g (e ∙ far.named) }, far.named)

module _ (program : Program) (limit : ℕ) (tasks : List KnownTask) (parcels : List KnownParcel) (done : AreDone program limit tasks parcels) where
  at : (k : KnownTask) → In k tasks → Stands program limit tasks parcels done.known done.complete k
  at k h = stands program limit tasks parcels done.known done.complete k h

  -- after t rounds each task is in the lists, and the latest of each name stands as it did at its time
  pub record Covers (t : ℕ) : Type 0 where
    pub there : (p : Name) (s : Task) → task_after program t p ≡ Some s → HasTask tasks p
    pub state : (k : KnownTask) → IsLatest tasks k → k.time ≤ t → task_after program t k.name ≡ Some k.state
    pub noted : (k : KnownTask) → IsLatest tasks k → k.time ≤ t → entries_after program t k.name ≡ k.entries

  -- an entry of a task is in the log of its latest known task
  in_log : (t : ℕ) → Covers t → (k : KnownTask) → IsLatest tasks k → (e : Entry) → In e (entries_after program t k.name) → In e k.entries
  in_log t covers k latest e h = by (cases_lt t k.time)
    where
      by : (t < k.time) ⊎ (k.time ≤ t) → In e k.entries
      by (inl less) = subst (In e) (at k latest.is_there).noted (own_kept program t k.time (omega arith) k.name e h)
      by (inr less) = subst (In e) (covers.noted k latest less) h

  pub logged : (t : ℕ) → Covers t → (e : Entry) → In e (run_of program t).entries → (k : KnownTask) × IsLatest tasks k × In e k.entries
  logged t covers e h = by (task_after program t e.name) refl ((is_run program t).tells.owners e h)
    where
      by : (o : Option Task) → task_after program t e.name ≡ o → is_some (task_after program t e.name) ≡ true → (k : KnownTask) × IsLatest tasks k × In e k.entries
      by None g there = let both = sym there ∙ ap is_some g in let bad : ⊥ = cc in absurd bad
      by (Some s) g there =
          let (k, latest, named) = latest_of tasks e.name (covers.there e.name s g) in
          (k, latest, in_log t covers k latest e (in_own k.name e (run_of program t).entries h (sym named)))

  -- ---- the start

  -- at its time a task stands as it is known
  at_time : (t : ℕ) (k : KnownTask) → In k tasks → k.time ≡ t → (task_after program t k.name ≡ Some k.state) × (entries_after program t k.name ≡ k.entries)
  at_time t k h is = (ap (λ n. task_after program n k.name) (sym is) ∙ (at k h).state, ap (λ n. entries_after program n k.name) (sym is) ∙ (at k h).noted)

  only_main : (p : Name) (s : Task) → task_after program 0 p ≡ Some s → HasTask tasks p
  unfolding run_of
  only_main p s = by_name nobody main first (λ o. o ≡ Some s → HasTask tasks p) p
      (λ e got. subst (HasTask tasks) (sym e) done.complete.has_main)
      (λ e got. let both = sym (get-empty (slice_cmp nat_cmp) p) ∙ got in let bad : ⊥ = cc in absurd bad)
    where
      nobody : NameMap Task
      nobody = empty

      first : Task
      first = placed (started (main_function program)) 0

  covers_start : Covers 0
  covers_start = record {
    there = only_main;
    state = λ k latest less. (at_time 0 k latest.is_there (omega arith)).0;
    noted = λ k latest less. (at_time 0 k latest.is_there (omega arith)).1;
  }

  -- ---- one round more

  module _ (t : ℕ) (early : t < limit) (covers : Covers t) where
    -- a task that forked in the round is known from after it, and so its child is there
    forked_there : (p q : Name) (u : Task) → task_after program t q ≡ Some u → (after its : Place) → act_of machine program q u.forks u.place ≡ act.Fork p after its → HasTask tasks p
    forked_there p q u here after its forks =
        let (k, latest, named) = latest_of tasks q (covers.there q u here) in
        by k latest named (cases_lt t k.time)
      where
        noted_fork : In (record { time = suc t; name = q; event = Fork p }) (entries_after program (suc t) q)
        noted_fork = subst (In (record { time = suc t; name = q; event = Fork p })) (sym (fork program done.never t q u here p after its forks).noted) (in_right _ (entries_after program t q) _ (inl refl))

        rested : (k : KnownTask) → IsLatest tasks k → k.name ≡ q → k.time ≤ t → u ≡ k.state → Rests program limit tasks parcels done.known done.complete k → ⊥
        rested k latest named less same_state (AtLimit is) = omega arith
        rested k latest named less same_state (HasEnded is) = let both = sym is ∙ ap (λ r. act_of machine program r k.state.forks k.state.place) named ∙ ap (λ (x : Task). act_of machine program q x.forks x.place) (sym same_state) ∙ forks in cc
        rested k latest named less same_state (Halts why is) = let both = sym is ∙ ap (λ r. act_of machine program r k.state.forks k.state.place) named ∙ ap (λ (x : Task). act_of machine program q x.forks x.place) (sym same_state) ∙ forks in cc
        rested k latest named less same_state (Waits c place is nothing) = let both = sym is ∙ ap (λ r. act_of machine program r k.state.forks k.state.place) named ∙ ap (λ (x : Task). act_of machine program q x.forks x.place) (sym same_state) ∙ forks in cc

        by : (k : KnownTask) → IsLatest tasks k → k.name ≡ q → (t < k.time) ⊎ (k.time ≤ t) → HasTask tasks p
        by k latest named (inl less) =
            done.complete.has_forked p (
              k,
              record { time = suc t; name = q; event = Fork p },
              latest.is_there,
              subst (In _) (ap (entries_after program k.time) (sym named) ∙ (at k latest.is_there).noted) (own_kept program (suc t) k.time less q _ noted_fork),
              refl,
            )
        by k latest named (inr less) =
            let both = sym here ∙ ap (task_after program t) (sym named) ∙ covers.state k latest less in
            let same_state : u ≡ k.state = cc in
            absurd (rested k latest named less same_state (rests program limit tasks parcels done.known done.complete done.at_rest k latest.is_there))

    there_next : (p : Name) (s : Task) → task_after program (suc t) p ≡ Some s → HasTask tasks p
    there_next p s got = by (task_after program t p) refl
      where
        by : (o : Option Task) → task_after program t p ≡ o → HasTask tasks p
        by (Some u) e = covers.there p u e
        by None e = let is = born program done.never t p e s got in forked_there p is.by is.parent is.there is.after is.its is.forks

    -- a task that waits at rest finds nothing on its channel
    module _ (k : KnownTask) (latest : IsLatest tasks k) (less : k.time ≤ t) (c : Name) (place : Value → Place) (is : act_of machine program k.name k.state.forks k.state.place ≡ act.Recv c place)
        (nothing : (v : Value) → HasParcel parcels c v → ⊥) where
      abbrev stands_there : task_after program t k.name ≡ Some k.state
      stands_there = covers.state k latest less

      module _ (v : Value) (full : channel_after program t c ≡ Some (Some v)) where
        sent : was_sent c (run_of program t).entries ≡ true
        sent = (stage program t c (Some (Some v)) full).1

        -- the value isn't kept for the last round, since it was sent before
        not_late : (w : Value) → KeepsLate tasks c w → ⊥
        not_late w late = not_sent_before program limit t c w (kept_put program limit tasks parcels done.known done.complete c w late) early sent

        -- nor did another task receive it
        not_received : Shows tasks (Recv c) → ⊥
        not_received (l, e, h, in_log_of_l, event) = by (cases_lt t l.time)
          where
            found : In e (entries_after program l.time l.name)
            found = subst (In e) (sym (at l h).noted) in_log_of_l

            in_run : In e (run_of program l.time).entries
            in_run = (from_own l.name e (run_of program l.time).entries found).0

            receipt : Entry
            receipt = record { time = suc t; name = k.name; event = Recv c }

            receives : In receipt (run_of program (suc t)).entries
            receives = (from_own k.name receipt (run_of program (suc t)).entries (subst (In receipt) (sym (receive program done.never t k.name k.state stands_there c place is v full).noted) (in_right receipt (entries_after program t k.name) _ (inl refl)))).0

            by : (t < l.time) ⊎ (l.time ≤ t) → ⊥
            by (inr earlier) =
                let got : was_received c (run_of program t).entries ≡ true = member_any (λ x. is_receive_on c x.event) e (run_of program t).entries (entry_kept program l.time t earlier e in_run) (ap (is_receive_on c) event ∙ same-self c) in
                let both = sym got ∙ (stage program t c (Some (Some v)) full).2 in
                cc
            by (inl later) =
                let one : e ≡ receipt = (is_run program l.time).tells.receives c e receipt in_run (entry_kept program (suc t) l.time later receipt receives) event refl in
                let named : l.name ≡ k.name = sym (from_own l.name e (run_of program l.time).entries found).1 ∙ ap (λ (x : Entry). x.name) one in
                let last = latest.last l h named in
                omega arith

        not_full : ⊥
        not_full =
            let (e, h, passes) = any_member (λ x. is_send_on c x.event) (run_of program t).entries sent in
            let (l, of_name, in_log_of_l) = logged t covers e h in
            by (done.complete.has_sent c (l, e, of_name.is_there, in_log_of_l, sends_there c e.event passes))
          where
            by : ((w : Value) × IsOnHand tasks parcels c w) ⊎ Shows tasks (Recv c) → ⊥
            by (inl (w, inl parcel)) = nothing w parcel
            by (inl (w, inr late)) = not_late w late
            by (inr received) = not_received received

      waits_on : Stays program done.never t k.name k.state stands_there
      waits_on = by (channel_after program t c) refl
        where
          by : (o : Option (Option Value)) → channel_after program t c ≡ o → Stays program done.never t k.name k.state stands_there
          by None e = absurd (finds_it program done.never t k.name k.state stands_there c place is e)
          by (Some None) e = wait program done.never t k.name k.state stands_there c place is e
          by (Some (Some v)) e = absurd (not_full v e)

    stays_on : (k : KnownTask) (latest : IsLatest tasks k) (less : k.time ≤ t) → Stays program done.never t k.name k.state (covers.state k latest less)
    stays_on k latest less = by (rests program limit tasks parcels done.known done.complete done.at_rest k latest.is_there)
      where
        by : Rests program limit tasks parcels done.known done.complete k → Stays program done.never t k.name k.state (covers.state k latest less)
        by (AtLimit is) = let bad : ⊥ = omega arith in absurd bad
        by (HasEnded is) = ended program done.never t k.name k.state (covers.state k latest less) is
        by (Halts why is) = halt program done.never t k.name k.state (covers.state k latest less) why is
        by (Waits c place is nothing) = waits_on k latest less c place is nothing

    -- the latest known tasks stand as they are known, also after the next round
    stands_next : (k : KnownTask) → IsLatest tasks k → k.time ≤ suc t → (task_after program (suc t) k.name ≡ Some k.state) × (entries_after program (suc t) k.name ≡ k.entries)
    stands_next k latest less = by (cases_lt t k.time)
      where
        by : (t < k.time) ⊎ (k.time ≤ t) → (task_after program (suc t) k.name ≡ Some k.state) × (entries_after program (suc t) k.name ≡ k.entries)
        by (inl later) = at_time (suc t) k latest.is_there (omega arith)
        by (inr earlier) = let stays = stays_on k latest earlier in (stays.state, stays.noted ∙ covers.noted k latest earlier)

    covers_next : Covers (suc t)
    covers_next = record {
      there = there_next;
      state = λ k latest less. (stands_next k latest less).0;
      noted = λ k latest less. (stands_next k latest less).1;
    }

  -- the lists cover each round up to the limit
  pub covers_round : (t : ℕ) → t ≤ limit → Covers t
  covers_round zero less = covers_start
  covers_round (suc t) less = covers_next t less (covers_round t (omega arith))
