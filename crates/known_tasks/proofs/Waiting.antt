-- A task that receives waits until the round after the send.
use Rattle.std.proofs.Common.{◌≡◌, ◌⊎◌, inl, inr, ℕ, zero, suc, ◌+◌, ◌-◌, ◌≤◌, ◌<◌, max, true, Option, Some, None, refl, sym, ap, ◌∙◌, arith}
use Rattle.std.proofs.lemmas.Bool.{cases_lt}
use Rattle.core_language.specs.Names.{Name}
use Rattle.core_language.specs.Values.{Value}
use Rattle.core_language.specs.Programs.{Program}
use Rattle.core_language.specs.Computing.{machine}
use Rattle.core_language.specs.Configurations.{Place, Task}
use Rattle.core_language.specs.Acts.{act_of}
use Rattle.core_language.specs.Acts as act
use Rattle.core_language.specs.Rounds.{run_of}
use Rattle.task_rounds.specs.Reaching.{NeverSticks}
use Rattle.task_rounds.specs.Telling.{was_received}
use Rattle.task_rounds.specs.Tasks.{task_after, channel_after, entries_after, IsPut}
use Rattle.task_rounds.proofs.Acting.{wait, finds_it}
use Rattle.task_rounds.proofs.History.{stage, not_sent_before, put_stays, received_gone}

module _ (program : Program) (never : NeverSticks program) (p : Name) (s : Task) (c : Name) (place : Value → Place) (waits : act_of machine program p s.forks s.place ≡ act.Recv c place) (r : ℕ) (v : Value) (put : IsPut program r c v) where
  -- the task is still where it was
  pub record Waited (t u : ℕ) : Type 0 where
    pub stands : task_after program u p ≡ Some s
    pub noted : entries_after program u p ≡ entries_after program t p

  -- before the send the channel is Empty
  empty_before : (u : ℕ) → u < r → task_after program u p ≡ Some s → channel_after program u c ≡ Some None
  empty_before u less there = by (channel_after program u c) refl
    where
      by : (o : Option (Option Value)) → channel_after program u c ≡ o → channel_after program u c ≡ Some None
      by None e = absurd (finds_it program never u p s there c place waits e)
      by (Some None) e = e
      by (Some (Some w)) e = let (made, sent, unreceived) = stage program u c (Some (Some w)) e in absurd (not_sent_before program r u c v put less sent)

  pub waits_for : (d t u : ℕ) → u ≡ d + t → u ≤ r → task_after program t p ≡ Some s → Waited t u
  waits_for zero t u is within there = let same_time : t ≡ u = omega arith in record { stands = ap (λ n. task_after program n p) (sym same_time) ∙ there; noted = ap (λ n. entries_after program n p) (sym same_time) }
  waits_for (suc d) t zero is within there = let bad : ⊥ = omega arith in absurd bad
  waits_for (suc d) t (suc u) is within there =
      let earlier : u ≡ d + t = omega arith in
      let before : u ≤ r = omega arith in
      let rest = waits_for d t u earlier before there in
      let still = wait program never u p s rest.stands c place waits (empty_before u within rest.stands) in
      record { stands = still.state; noted = still.noted ∙ rest.noted }

  -- after the send it is Full while the task waits
  full_after : (u : ℕ) → r ≤ u → task_after program u p ≡ Some s → channel_after program u c ≡ Some (Some v)
  full_after u within there = let is : u ≡ (u - r) + r = omega arith in by (put_stays program never (u - r) r u c v is put)
    where
      by : (channel_after program u c ≡ Some (Some v)) ⊎ (was_received c (run_of program u).entries ≡ true) → channel_after program u c ≡ Some (Some v)
      by (inl full) = full
      by (inr received) = absurd (finds_it program never u p s there c place waits (received_gone program u c received))

  -- at the later of its own time and that of the send the task still waits, and the value is there
  pub record Meets (t : ℕ) : Type 0 where
    pub waited : Waited t (max t r)
    pub full : channel_after program (max t r) c ≡ Some (Some v)

  pub meets : (t : ℕ) → task_after program t p ≡ Some s → Meets t
  meets t there =
      let waited = until in
      record { waited = waited; full = full_after (max t r) (omega arith) waited.stands }
    where
      until : Waited t (max t r)
      until = by (cases_lt t r)
        where
          by : (t < r) ⊎ (r ≤ t) → Waited t (max t r)
          by (inr less) = let e : max t r ≡ t = omega arith in record { stands = ap (λ n. task_after program n p) e ∙ there; noted = ap (λ n. entries_after program n p) e }
          by (inl less) = let is : max t r ≡ (max t r - t) + t = omega arith in let within : max t r ≤ r = omega arith in waits_for (max t r - t) t (max t r) is within there
