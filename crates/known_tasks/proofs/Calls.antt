-- Each call keeps what is known.
use Rattle.std.proofs.Common.{◌≡◌, ℕ, suc, ◌≤◌, ◌<◌, max, Bool, true, false, nat_eq, nat_lt, if◌then◌else◌, ◌++◌, Some, refl, sym, ap, subst, ◌∙◌, ◌-◌, eq-eqb, ltb-true, ltb-false, arith}
use Rattle.std.specs.FinMap.{empty}
use Rattle.core_language.specs.Names.{Name, NameMap, main}
use Rattle.core_language.specs.Values.{Value}
use Rattle.core_language.specs.Programs.{main_function}
use Rattle.core_language.specs.Computing.{machine}
use Rattle.core_language.specs.Configurations.{Place, Ended, Task, started}
use Rattle.core_language.specs.Acts.{Act, act_of}
use Rattle.core_language.specs.Acts as act
use Rattle.core_language.specs.Steps.{Event}
use Rattle.core_language.specs.Steps as event
use Rattle.core_language.specs.Rounds.{event_entries, run_of}
use Rattle.machine_rounds.proofs.Rounded.{same-self}
use Rattle.task_rounds.specs.Reaching.{NeverSticks}
use Rattle.task_rounds.specs.Tasks.{placed, IsPut}
use Rattle.task_rounds.proofs.Names.{put_here}
use Rattle.task_rounds.proofs.Forking.{ends_only_ended}
use Rattle.task_rounds.proofs.Acting.{Goes, silent, print, end, fork, forked, forked_none, send, put, receive, not_stuck_act}
use Rattle.known_tasks.specs.Known.{KnownTask, KnownParcel, does, IsLate, IsKnown, IsKnownParcel}
use Rattle.known_tasks.specs.Nexts.{Next, Silent, Fork, Send, Recv, End, Spent, next_by, next, has_ended}
use Rattle.known_tasks.specs.Nexts as nexts
use Rattle.known_tasks.specs.Calls.{moved, silent_by, parent_by, child_by, sender_by, parcel_by, receiver_by, after_finish}
use Rattle.known_tasks.specs.Laws.{KnowsMain, GoesOn, KnowsSilent, KnowsForked, KnowsSent, KnowsReceived, KnowsFinished}
use Rattle.known_tasks.proofs.Waiting.{meets, waits_for}

pub knows_main : KnowsMain
unfolding run_of
knows_main program limit = record {
  within = omega arith;
  stands = put_here empty_tasks main (placed (started (main_function program)) 0) main (same-self main);
  noted = refl;
  keeps = λ v e. let bad : ⊥ = cc in absurd bad;
}
  where
    empty_tasks : NameMap Task
    empty_tasks = empty

-- ---- what comes next

-- a task whose next step isn't Spent is before the limit
pub unspent : (k : KnownTask) (n : Next) → next k ≡ Some n → (Spent ≡ n → ⊥) → (k.time ≡ k.limit → ⊥) × (next_by (does k) ≡ Some n)
unspent k n is other = by (nat_eq k.time k.limit) refl is
  where
    by : (b : Bool) → nat_eq k.time k.limit ≡ b → (if b then Some Spent else next_by (does k)) ≡ Some n → (k.time ≡ k.limit → ⊥) × (next_by (does k) ≡ Some n)
    by true e is = let spent : Spent ≡ n = cc in absurd (other spent)
    by false e is = (λ same_time. let both = sym e ∙ eq-eqb k.time k.limit same_time in cc, is)

module _ (k : KnownTask) (never : NeverSticks k.program) (known : IsKnown k) where
  module _ (early : k.time ≡ k.limit → ⊥) where
    before : k.time < k.limit
    before = let within = known.within in omega (arith, early)

    -- nothing is kept before the limit
    not_late : (l : KnownTask) (v : Value) → l.late ≡ k.late → l.late ≡ Some v → IsLate l v
    not_late l v same_late e = absurd (early ((known.keeps v (sym same_late ∙ e)).at_limit))

    moves_on : (place : Place) (forks : ℕ) (e : Event) → Goes k.program never k.time k.name k.state known.stands place forks e → IsKnown (moved k (suc k.time) place forks e)
    moves_on place forks e goes = record {
      within = before;
      stands = goes.state;
      noted = goes.noted ∙ ap (λ l. l ++ event_entries (suc k.time) k.name e) known.noted;
      keeps = λ v is. not_late (moved k (suc k.time) place forks e) v refl is;
    }

    silent_known : (a : Act) → does k ≡ a → next_by a ≡ Some Silent → IsKnown (silent_by k a)
    silent_known (act.Silent place) is n = moves_on place k.state.forks event.Silent (silent k.program never k.time k.name k.state known.stands place is)
    silent_known (act.Print z place) is n = moves_on place k.state.forks (event.Print z) (print k.program never k.time k.name k.state known.stands z place is)
    silent_known (act.Fork c parent its) is n = let bad : ⊥ = cc in absurd bad
    silent_known (act.Send c v place) is n = let bad : ⊥ = cc in absurd bad
    silent_known (act.Recv c place) is n = let bad : ⊥ = cc in absurd bad
    silent_known act.End is n = let bad : ⊥ = cc in absurd bad
    silent_known act.IsEnded is n = let bad : ⊥ = cc in absurd bad
    silent_known (act.IsHalted why) is n = let bad : ⊥ = cc in absurd bad
    silent_known (act.IsStuck why) is n = let bad : ⊥ = cc in absurd bad

    fork_known : (a : Act) → does k ≡ a → next_by a ≡ Some Fork → IsKnown (parent_by k a) × IsKnown (child_by k a)
    fork_known (act.Fork c parent its) is n = (
      moves_on parent (suc k.state.forks) (event.Fork c) (fork k.program never k.time k.name k.state known.stands c parent its is),
      record {
        within = before;
        stands = forked k.program never k.time k.name k.state known.stands c parent its is;
        noted = forked_none k.program never k.time k.name k.state known.stands c parent its is;
        keeps = λ v e. let bad : ⊥ = cc in absurd bad;
      },
    )
    fork_known (act.Silent place) is n = let bad : ⊥ = cc in absurd bad
    fork_known (act.Print z place) is n = let bad : ⊥ = cc in absurd bad
    fork_known (act.Send c v place) is n = let bad : ⊥ = cc in absurd bad
    fork_known (act.Recv c place) is n = let bad : ⊥ = cc in absurd bad
    fork_known act.End is n = let bad : ⊥ = cc in absurd bad
    fork_known act.IsEnded is n = let bad : ⊥ = cc in absurd bad
    fork_known (act.IsHalted why) is n = let bad : ⊥ = cc in absurd bad
    fork_known (act.IsStuck why) is n = let bad : ⊥ = cc in absurd bad

    send_known : (c : Name) (a : Act) → does k ≡ a → next_by a ≡ Some (Send c) → IsKnown (sender_by k a) × (q : KnownParcel) × (parcel_by k a ≡ Some q) × (q.channel ≡ c) × IsKnownParcel q
    send_known c (act.Send d v place) is n = (
      moves_on place k.state.forks (event.Send d) (send k.program never k.time k.name k.state known.stands d v place is),
      record { program = k.program; limit = k.limit; channel = d; value = v; round = suc k.time },
      refl,
      (let same_channel : d ≡ c = cc in same_channel),
      record { within = before; put = put k.program never k.time k.name k.state known.stands d v place is },
    )
    send_known c (act.Silent place) is n = let bad : ⊥ = cc in absurd bad
    send_known c (act.Print z place) is n = let bad : ⊥ = cc in absurd bad
    send_known c (act.Fork d parent its) is n = let bad : ⊥ = cc in absurd bad
    send_known c (act.Recv d place) is n = let bad : ⊥ = cc in absurd bad
    send_known c act.End is n = let bad : ⊥ = cc in absurd bad
    send_known c act.IsEnded is n = let bad : ⊥ = cc in absurd bad
    send_known c (act.IsHalted why) is n = let bad : ⊥ = cc in absurd bad
    send_known c (act.IsStuck why) is n = let bad : ⊥ = cc in absurd bad

    end_known : (a : Act) → does k ≡ a → next_by a ≡ Some End → IsKnown (after_finish k)
    end_known act.End is n = moves_on Ended k.state.forks event.End (end k.program never k.time k.name k.state known.stands is)
    end_known (act.Silent place) is n = let bad : ⊥ = cc in absurd bad
    end_known (act.Print z place) is n = let bad : ⊥ = cc in absurd bad
    end_known (act.Fork d parent its) is n = let bad : ⊥ = cc in absurd bad
    end_known (act.Send d v place) is n = let bad : ⊥ = cc in absurd bad
    end_known (act.Recv d place) is n = let bad : ⊥ = cc in absurd bad
    end_known act.IsEnded is n = let bad : ⊥ = cc in absurd bad
    end_known (act.IsHalted why) is n = let bad : ⊥ = cc in absurd bad
    end_known (act.IsStuck why) is n = let bad : ⊥ = cc in absurd bad

    -- ---- receives

    module _ (q : KnownParcel) (parcel : IsKnownParcel q) (program : q.program ≡ k.program) (limit : q.limit ≡ k.limit) (c : Name) (place : Value → Place) (is : does k ≡ act.Recv c place) (channel : c ≡ q.channel) where
      put_there : IsPut k.program q.round c q.value
      put_there = subst (λ P. IsPut P q.round c q.value) program (subst (λ d. IsPut q.program q.round d q.value) (sym channel) parcel.put)

      -- before the limit the value is received in the first round that can
      in_time : q.round < k.limit → IsKnown (moved k (suc (max k.time q.round)) (place q.value) k.state.forks (event.Recv c))
      in_time less =
          let met = meets k.program never k.name k.state c place is q.round q.value put_there k.time known.stands in
          let goes = receive k.program never (max k.time q.round) k.name k.state met.waited.stands c place is q.value met.full in
          let here = before in
          record {
            within = omega arith;
            stands = goes.state;
            noted = goes.noted ∙ ap (λ l. l ++ event_entries (suc (max k.time q.round)) k.name (event.Recv c)) (met.waited.noted ∙ known.noted);
            keeps = λ v e. not_late (moved k (suc (max k.time q.round)) (place q.value) k.state.forks (event.Recv c)) v refl e;
          }

      -- a value of the last round is kept
      too_late : k.limit ≤ q.round → IsKnown (record k { time = k.limit; late = Some q.value })
      too_late less =
          let last : q.round ≡ k.limit = last_round in
          let waited = waits_for k.program never k.name k.state c place is q.round q.value put_there (k.limit - k.time) k.time k.limit (let here = before in omega arith) (let here = before in omega arith) known.stands in
          record {
            within = omega arith;
            stands = waited.stands;
            noted = waited.noted ∙ known.noted;
            keeps = λ v e. record {
              at_limit = refl;
              channel = c;
              place = place;
              waits = is;
              put = let value : q.value ≡ v = cc in subst (λ w. IsPut k.program k.limit c w) value (subst (λ r. IsPut k.program r c q.value) last put_there);
            };
          }
        where
          last_round : q.round ≡ k.limit
          last_round = let within = parcel.within in omega (arith, limit)

    receive_known : (q : KnownParcel) → IsKnownParcel q → q.program ≡ k.program → q.limit ≡ k.limit → (a : Act) → does k ≡ a → next_by a ≡ Some (Recv q.channel) → IsKnown (receiver_by k q a)
    receive_known q parcel program limit (act.Recv c place) is n = by (nat_lt q.round k.limit) refl
      where
        channel : c ≡ q.channel
        channel = cc

        by : (b : Bool) → nat_lt q.round k.limit ≡ b → IsKnown (if b then moved k (suc (max k.time q.round)) (place q.value) k.state.forks (event.Recv c) else record k { time = k.limit; late = Some q.value })
        by true e = in_time q parcel program limit c place is channel (ltb-true q.round k.limit e)
        by false e = too_late q parcel program limit c place is channel (ltb-false q.round k.limit e)
    receive_known q parcel program limit (act.Silent place) is n = let bad : ⊥ = cc in absurd bad
    receive_known q parcel program limit (act.Print z place) is n = let bad : ⊥ = cc in absurd bad
    receive_known q parcel program limit (act.Fork d parent its) is n = let bad : ⊥ = cc in absurd bad
    receive_known q parcel program limit (act.Send d v place) is n = let bad : ⊥ = cc in absurd bad
    receive_known q parcel program limit act.End is n = let bad : ⊥ = cc in absurd bad
    receive_known q parcel program limit act.IsEnded is n = let bad : ⊥ = cc in absurd bad
    receive_known q parcel program limit (act.IsHalted why) is n = let bad : ⊥ = cc in absurd bad
    receive_known q parcel program limit (act.IsStuck why) is n = let bad : ⊥ = cc in absurd bad

  has_next : has_ended k ≡ false → (a : Act) → does k ≡ a → (n : Next) × (next_by a ≡ Some n)
  has_next running (act.Silent place) is = (Silent, refl)
  has_next running (act.Print z place) is = (Silent, refl)
  has_next running (act.Fork c parent its) is = (Fork, refl)
  has_next running (act.Send c v place) is = (Send c, refl)
  has_next running (act.Recv c place) is = (Recv c, refl)
  has_next running act.End is = (End, refl)
  has_next running (act.IsHalted why) is = (nexts.Halt why, refl)
  has_next running act.IsEnded is = let both = sym running ∙ ends_only_ended machine k.program k.name k.state.forks k.state.place is in let bad : ⊥ = cc in absurd bad
  has_next running (act.IsStuck why) is = absurd (not_stuck_act k.program never k.time k.name k.state known.stands why is)

-- ---- the laws

pub goes_on : GoesOn
goes_on k never known running = by (nat_eq k.time k.limit) (has_next k never known running (does k) refl)
  where
    by : (b : Bool) → (n : Next) × (next_by (does k) ≡ Some n) → (n : Next) × ((if b then Some Spent else next_by (does k)) ≡ Some n)
    by true found = (Spent, refl)
    by false found = found

pub knows_silent : KnowsSilent
knows_silent k never known is = let (early, by_act) = unspent k Silent is (λ e. cc) in silent_known k never known early (does k) refl by_act

pub knows_forked : KnowsForked
knows_forked k never known is = let (early, by_act) = unspent k Fork is (λ e. cc) in fork_known k never known early (does k) refl by_act

pub knows_sent : KnowsSent
knows_sent k c never known is = let (early, by_act) = unspent k (Send c) is (λ e. cc) in send_known k never known early c (does k) refl by_act

pub knows_received : KnowsReceived
knows_received k q never known parcel is_for = let (early, by_act) = unspent k (Recv q.channel) is_for.waits (λ e. cc) in receive_known k never known early q parcel is_for.program is_for.limit (does k) refl by_act

pub knows_finished : KnowsFinished
knows_finished k never known is = let (early, by_act) = unspent k End is (λ e. cc) in end_known k never known early (does k) refl by_act
