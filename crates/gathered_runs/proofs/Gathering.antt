-- Lists that are complete and at rest make the run.
use Rattle.std.proofs.Common.{◌≡◌, ◌⊎◌, inl, inr, ℕ, ◌+◌, ◌-◌, Bool, true, false, List, Option, Some, None, refl, sym, ap, subst, ◌∙◌, arith}
use Rattle.std.specs.Cmp.Lexicographic.{nat_list_cmp_total}
use Rattle.std.specs.FinMap.{get, same_map, slice_cmp-IsAntisymmetric, nat_cmp-IsAntisymmetric}
use Rattle.std.specs.List.{list_any}
use Rattle.core_language.specs.Names.{Name, NameMap}
use Rattle.core_language.specs.Values.{Value}
use Rattle.core_language.specs.Programs.{Program}
use Rattle.core_language.specs.Configurations.{Config, Task}
use Rattle.core_language.specs.Steps.{Event, Fork, Send, Recv}
use Rattle.core_language.specs.Rounds.{Entry, run_of}
use Rattle.core_language.specs.Endings.{ending_of}
use Rattle.machine_rounds.proofs.Rounded.{same-self}
use Rattle.task_rounds.specs.Members.{In}
use Rattle.task_rounds.specs.Telling.{is_fork_of, is_send_on, is_receive_on, was_made, was_sent, was_received, named_prints}
use Rattle.task_rounds.specs.Tasks.{task_after, channel_after}
use Rattle.task_rounds.proofs.Members.{any_member, member_any}
use Rattle.task_rounds.proofs.Own.{from_own}
use Rattle.task_rounds.proofs.Runs.{is_run}
use Rattle.task_rounds.proofs.History.{forks_there, sends_there, receives_there, entry_kept, stage, put_stays, received_gone}
use Rattle.known_tasks.specs.Known.{KnownTask, KnownParcel}
use Rattle.gathered_runs.specs.Complete.{Shows, IsOnHand}
use Rattle.gathered_runs.specs.Gathered.{IsLatest, AreMerged, IsTaskOf, IsChannelOf, AreGathered, AreDone, GathersTheRun, MakesTheRun}
use Rattle.gathered_runs.proofs.Facts.{Stands, stands, on_hand_put}
use Rattle.gathered_runs.proofs.Covering.{latest_of, Covers, logged, covers_round}
use Rattle.gathered_runs.proofs.Merging.{one_order}
use Rattle.gathered_runs.proofs.Ordered.{run_ascends}

same_by_name : {X : Type 0} (m n : NameMap X) → ((q : Name) → get m q ≡ get n q) → m ≡ n
same_by_name m n is = same_map nat_list_cmp_total (slice_cmp-IsAntisymmetric nat_cmp-IsAntisymmetric) m n is

same_config : (C D : Config) → C.tasks ≡ D.tasks → C.channels ≡ D.channels → C.prints ≡ D.prints → C ≡ D
same_config C D tasks channels prints = λ i. record { tasks = tasks i; channels = channels i; prints = prints i }

module _ (program : Program) (limit : ℕ) (tasks : List KnownTask) (parcels : List KnownParcel) (done : AreDone program limit tasks parcels) where
  at_end : Covers program limit tasks parcels done limit
  at_end = covers_round program limit tasks parcels done limit (omega arith)

  at : (k : KnownTask) → In k tasks → Stands program limit tasks parcels done.known done.complete k
  at k h = stands program limit tasks parcels done.known done.complete k h

  -- ---- entries

  all_logged : (e : Entry) → In e (run_of program limit).entries → (k : KnownTask) × IsLatest tasks k × In e k.entries
  all_logged e h = logged program limit tasks parcels done limit at_end e h

  in_run : (k : KnownTask) → In k tasks → (e : Entry) → In e k.entries → In e (run_of program limit).entries
  in_run k h e g = entry_kept program k.time limit (at k h).within e (from_own k.name e (run_of program k.time).entries (subst (In e) (sym (at k h).noted) g)).0

  merged : AreMerged tasks (run_of program limit).entries
  merged = record {
    ascends = run_ascends program limit;
    all = λ e. (all_logged e, λ found. in_run found.0 found.1.is_there e found.2);
  }

  -- what an entry shows is shown by an entry of the run
  shown : (test : Event → Bool) (event : Event) → test event ≡ true → Shows tasks event → list_any (λ e. test e.event) (run_of program limit).entries ≡ true
  shown test event passes (k, e, h, g, is) = member_any (λ x. test x.event) e (run_of program limit).entries (in_run k h e g) (ap test is ∙ passes)

  shows : (test : Event → Bool) (event : Event) → ((e : Event) → test e ≡ true → e ≡ event) → list_any (λ e. test e.event) (run_of program limit).entries ≡ true → Shows tasks event
  shows test event is found =
      let (e, h, passes) = any_member (λ x. test x.event) (run_of program limit).entries found in
      let (k, latest, g) = all_logged e h in
      (k, e, latest.is_there, g, is e.event passes)

  shows_fork : (c : Name) → was_made c (run_of program limit).entries ≡ true → Shows tasks (Fork c)
  shows_fork c h = shows (is_fork_of c) (Fork c) (forks_there c) h

  shows_send : (c : Name) → was_sent c (run_of program limit).entries ≡ true → Shows tasks (Send c)
  shows_send c h = shows (is_send_on c) (Send c) (sends_there c) h

  shows_receive : (c : Name) → was_received c (run_of program limit).entries ≡ true → Shows tasks (Recv c)
  shows_receive c h = shows (is_receive_on c) (Recv c) (receives_there c) h

  not_shown : (test : Event → Bool) (event : Event) → test event ≡ true → list_any (λ e. test e.event) (run_of program limit).entries ≡ false → Shows tasks event → ⊥
  not_shown test event passes none h = let both = sym (shown test event passes h) ∙ none in cc

  -- ---- tasks

  task_of : (p : Name) → IsTaskOf tasks p (task_after program limit p)
  task_of p = by (task_after program limit p) refl
    where
      by : (o : Option Task) → task_after program limit p ≡ o → IsTaskOf tasks p o
      by None e = λ has.
          let (k, latest, named) = latest_of tasks p has in
          let both = sym (at_end.state k latest (at k latest.is_there).within) ∙ ap (task_after program limit) named ∙ e in
          cc
      by (Some s) e =
          let (k, latest, named) = latest_of tasks p (at_end.there p s e) in
          let both = sym (at_end.state k latest (at k latest.is_there).within) ∙ ap (task_after program limit) named ∙ e in
          let state : k.state ≡ s = cc in
          (k, latest, named, state)

  one_task : (p : Name) (o : Option Task) → IsTaskOf tasks p o → o ≡ task_after program limit p
  one_task p None none = by (task_after program limit p) refl
    where
      by : (o : Option Task) → task_after program limit p ≡ o → None ≡ task_after program limit p
      by None e = sym e
      by (Some s) e = absurd (none (at_end.there p s e))
  one_task p (Some s) (k, latest, named, state) = ap Some (sym state) ∙ sym (at_end.state k latest (at k latest.is_there).within) ∙ ap (task_after program limit) named

  -- ---- channels

  -- what is on hand stands on its channel, unless it was received
  on_hand : (c : Name) (v : Value) → IsOnHand tasks parcels c v → (channel_after program limit c ≡ Some (Some v)) ⊎ (was_received c (run_of program limit).entries ≡ true)
  on_hand c v h =
      let was = on_hand_put program limit tasks parcels done.known done.complete c v h in
      let within = was.within in
      let is : limit ≡ (limit - was.round) + was.round = omega arith in
      put_stays program done.never (limit - was.round) was.round limit c v is was.put

  -- a Full channel has a value that is on hand
  full_on_hand : (c : Name) (v : Value) → channel_after program limit c ≡ Some (Some v) → IsOnHand tasks parcels c v
  full_on_hand c v full = by (done.complete.has_sent c (shows_send c told.1))
    where
      told : (was_made c (run_of program limit).entries ≡ true) × (was_sent c (run_of program limit).entries ≡ true) × (was_received c (run_of program limit).entries ≡ false)
      told = stage program limit c (Some (Some v)) full

      same_value : (w : Value) → IsOnHand tasks parcels c w → (channel_after program limit c ≡ Some (Some w)) ⊎ (was_received c (run_of program limit).entries ≡ true) → IsOnHand tasks parcels c v
      same_value w h (inl also) = let both = sym also ∙ full in let value : w ≡ v = cc in subst (IsOnHand tasks parcels c) value h
      same_value w h (inr received) = let both = sym received ∙ told.2 in let bad : ⊥ = cc in absurd bad

      by : ((w : Value) × IsOnHand tasks parcels c w) ⊎ Shows tasks (Recv c) → IsOnHand tasks parcels c v
      by (inl (w, h)) = same_value w h (on_hand c w h)
      by (inr received) = absurd (not_shown (is_receive_on c) (Recv c) (same-self c) told.2 received)

  not_on_hand : (c : Name) → channel_after program limit c ≡ Some None → (v : Value) → IsOnHand tasks parcels c v → ⊥
  not_on_hand c empty v h = by (on_hand c v h)
    where
      by : (channel_after program limit c ≡ Some (Some v)) ⊎ (was_received c (run_of program limit).entries ≡ true) → ⊥
      by (inl full) = let both = sym empty ∙ full in cc
      by (inr received) = let both = sym (received_gone program limit c received) ∙ empty in cc

  channel_of : (c : Name) → IsChannelOf tasks parcels c (channel_after program limit c)
  channel_of c = by (channel_after program limit c) refl
    where
      gone : ((was_made c (run_of program limit).entries ≡ false) × (was_sent c (run_of program limit).entries ≡ false) × (was_received c (run_of program limit).entries ≡ false))
          ⊎ ((was_made c (run_of program limit).entries ≡ true) × (was_sent c (run_of program limit).entries ≡ true) × (was_received c (run_of program limit).entries ≡ true)) → IsChannelOf tasks parcels c None
      gone (inl (made, sent, received)) = inl (not_shown (is_fork_of c) (Fork c) (same-self c) made)
      gone (inr (made, sent, received)) = inr (shows_receive c received)

      by : (o : Option (Option Value)) → channel_after program limit c ≡ o → IsChannelOf tasks parcels c o
      by None e = gone (stage program limit c None e)
      by (Some None) e = let (made, sent, received) = stage program limit c (Some None) e in (shows_fork c made, not_shown (is_receive_on c) (Recv c) (same-self c) received, not_on_hand c e)
      by (Some (Some v)) e = let (made, sent, received) = stage program limit c (Some (Some v)) e in (shows_fork c made, not_shown (is_receive_on c) (Recv c) (same-self c) received, full_on_hand c v e)

  one_channel : (c : Name) (o r : Option (Option Value)) → channel_after program limit c ≡ r → IsChannelOf tasks parcels c o → IsChannelOf tasks parcels c r → o ≡ r
  one_channel c None None e h g = refl
  one_channel c None (Some None) e (inl none) g = absurd (none g.0)
  one_channel c None (Some None) e (inr received) g = absurd (g.1 received)
  one_channel c None (Some (Some v)) e (inl none) g = absurd (none g.0)
  one_channel c None (Some (Some v)) e (inr received) g = absurd (g.1 received)
  one_channel c (Some None) None e h (inl none) = absurd (none h.0)
  one_channel c (Some None) None e h (inr received) = absurd (h.1 received)
  one_channel c (Some None) (Some None) e h g = refl
  one_channel c (Some None) (Some (Some v)) e h g = absurd (h.2 v g.2)
  one_channel c (Some (Some w)) None e h (inl none) = absurd (none h.0)
  one_channel c (Some (Some w)) None e h (inr received) = absurd (h.1 received)
  one_channel c (Some (Some w)) (Some None) e h g = absurd (g.2 w h.2)
  one_channel c (Some (Some w)) (Some (Some v)) e h g = by (on_hand c w h.2)
    where
      by : (channel_after program limit c ≡ Some (Some w)) ⊎ (was_received c (run_of program limit).entries ≡ true) → Some (Some w) ≡ Some (Some v)
      by (inl full) = sym full ∙ e
      by (inr received) = absurd (h.1 (shows_receive c received))

  made : AreGathered tasks parcels (run_of program limit).config (run_of program limit).entries
  made = record {
    states = task_of;
    channels = channel_of;
    prints = (is_run program limit).tells.prints;
    merged = merged;
  }

  module _ (C : Config) (entries : List Entry) (gathered : AreGathered tasks parcels C entries) where
    same_entries : entries ≡ (run_of program limit).entries
    same_entries = one_order entries (run_of program limit).entries gathered.merged.ascends (run_ascends program limit)
        (λ e h. (merged.all e).1 ((gathered.merged.all e).0 h)) (λ e h. (gathered.merged.all e).1 ((merged.all e).0 h))

    same_run : C ≡ (run_of program limit).config
    same_run = same_config C (run_of program limit).config
        (same_by_name C.tasks (run_of program limit).config.tasks (λ p. one_task p (get C.tasks p) (gathered.states p)))
        (same_by_name C.channels (run_of program limit).config.channels (λ c. one_channel c (get C.channels c) (channel_after program limit c) refl (gathered.channels c) (channel_of c)))
        (gathered.prints ∙ ap named_prints same_entries ∙ sym (is_run program limit).tells.prints)

pub gathers_the_run : GathersTheRun
gathers_the_run program limit tasks parcels done C entries gathered =
    let configs = same_run program limit tasks parcels done C entries gathered in
    (configs, same_entries program limit tasks parcels done C entries gathered, ap (ending_of program) configs)

pub makes_the_run : MakesTheRun
makes_the_run program limit tasks parcels done = made program limit tasks parcels done
