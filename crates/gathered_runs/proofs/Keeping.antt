-- Each move of the hand keeps the lists known and complete.
use Rattle.std.proofs.Common.{◌≡◌, ◌⊎◌, inl, inr, ℕ, suc, max, Bool, true, false, nat_lt, if◌then◌else◌, List, [], ◌∷◌, ◌++◌, Option, Some, None, refl, sym, ap, subst, ◌∙◌}
use Rattle.core_language.specs.Names.{Name}
use Rattle.core_language.specs.Values.{Value}
use Rattle.core_language.specs.Programs.{Program}
use Rattle.core_language.specs.Configurations.{Place, Ended}
use Rattle.core_language.specs.Acts as act
use Rattle.core_language.specs.Steps.{Event, Fork, Send, Recv}
use Rattle.core_language.specs.Steps as event
use Rattle.core_language.specs.Rounds.{Entry, event_entries}
use Rattle.task_rounds.specs.Members.{In}
use Rattle.task_rounds.specs.Reaching.{NeverSticks}
use Rattle.task_rounds.proofs.Members.{in_left, in_right, in_either}
use Rattle.task_rounds.proofs.Telling.{new_entry}
use Rattle.known_tasks.specs.Known.{KnownTask, KnownParcel, does, IsKnown, IsKnownParcel}
use Rattle.known_tasks.specs.Nexts.{Next, Spent, next}
use Rattle.known_tasks.specs.Nexts as nexts
use Rattle.known_tasks.specs.Calls.{main_task, moved, after_silent, parent_after, child_after, after_send, parcel_of, IsFor, after_receive, after_finish}
use Rattle.known_tasks.proofs.Calls.{unspent, knows_main, knows_silent, knows_forked, knows_sent, knows_received, knows_finished}
use Rattle.known_tasks.proofs.Forms.{IsQuiet, silent_form, fork_form, send_form, receive_form}
use Rattle.gathered_runs.specs.Complete.{HasTask, Shows, HasParcel, IsOnHand, AreKnown}
use Rattle.gathered_runs.specs.Driving.{Takes, GoesOn, Forks, Sends, Receives, Finishes, AreOfRun, StartsComplete, MovesKeep}
use Rattle.gathered_runs.proofs.Replacing.{fronted, unfronted, alike, taken_in, other_in, taken_or_other, Continues, stays_complete}

-- a task of the lists knows its program
pub of_program : (program : Program) (limit : ℕ) (tasks : List KnownTask) (parcels : List KnownParcel) → AreOfRun program limit tasks parcels → (k : KnownTask) → In k tasks → NeverSticks k.program
of_program program limit tasks parcels of_run k h = subst NeverSticks (sym (of_run.complete.tasks_of_run k h).0) of_run.never

-- a task that goes on keeps nothing late
none_late : (k : KnownTask) → IsKnown k → (k.time ≡ k.limit → ⊥) → k.late ≡ None
none_late k known early = by k.late refl
  where
    by : (o : Option Value) → k.late ≡ o → k.late ≡ None
    by None e = e
    by (Some v) e = absurd (early ((known.keeps v e).at_limit))

-- ---- a task that was moved

module _ (k l : KnownTask) (round : ℕ) (place : Place) (forks : ℕ) (shown : Event) (is : l ≡ moved k round place forks shown) where
  continues : Continues k l
  continues = subst (Continues k) (sym is) (record { program = refl; limit = refl; name = refl; entries = λ e h. in_left e k.entries _ h })

  new_or_old : (e : Entry) → In e l.entries → In e k.entries ⊎ (e.event ≡ shown)
  new_or_old e h = by (in_either e k.entries (event_entries round k.name shown) (subst (λ (x : KnownTask). In e x.entries) is h))
    where
      by : In e k.entries ⊎ In e (event_entries round k.name shown) → In e k.entries ⊎ (e.event ≡ shown)
      by (inl old) = inl old
      by (inr new) = inr (new_entry round k.name shown e new).0

  -- an event that speaks of no channel is no fork and no send
  quietly : IsQuiet shown → (e : Entry) → In e l.entries → (other : Event) → (IsQuiet other → ⊥) → e.event ≡ other → In e k.entries
  quietly quiet e h other loud shows = by (new_or_old e h)
    where
      by : In e k.entries ⊎ (e.event ≡ shown) → In e k.entries
      by (inl old) = old
      by (inr new) = absurd (loud (subst IsQuiet (sym new ∙ shows) quiet))

module _ (program : Program) (limit : ℕ) (tasks : List KnownTask) (parcels : List KnownParcel) (of_run : AreOfRun program limit tasks parcels) where
  no_news : (n : KnownTask) → In n [] → (n.program ≡ program) × (n.limit ≡ limit)
  no_news n h = absurd h

  module _ (k : KnownTask) (others : List KnownTask) (takes : Takes tasks k others) where
    here : In k tasks
    here = taken_in tasks k others takes

    never : NeverSticks k.program
    never = of_program program limit tasks parcels of_run k here

    known : IsKnown k
    known = of_run.known.each_task k here

    -- the others are known as before
    keeps_known : (news : List KnownTask) (rest : List KnownParcel) → ((n : KnownTask) → In n news → IsKnown n) → ((q : KnownParcel) → In q rest → IsKnownParcel q) → AreKnown (news ++ others) rest
    keeps_known news rest each each_parcel = record {
      each_task = λ n h. by n (in_either n news others h);
      each_parcel = each_parcel;
    }
      where
        by : (n : KnownTask) → In n news ⊎ In n others → IsKnown n
        by n (inl h) = each n h
        by n (inr h) = of_run.known.each_task n (other_in tasks k others takes n h)

    only : (l : KnownTask) → IsKnown l → (n : KnownTask) → In n (l ∷ []) → IsKnown n
    only l is n (inl e) = subst IsKnown (sym e) is
    only l is n (inr h) = absurd h

    -- a move that shows nothing of a channel
    quiet_move : (l : KnownTask) → IsKnown l → k.late ≡ None → (place : Place) (forks : ℕ) (shown : Event) → IsQuiet shown → l ≡ moved k (suc k.time) place forks shown → AreOfRun program limit (l ∷ others) parcels
    quiet_move l is late place forks shown quiet form = record {
      never = of_run.never;
      known = keeps_known (l ∷ []) parcels (only l is) of_run.known.each_parcel;
      complete = stays_complete program limit tasks parcels of_run.complete k others takes late l [] (continues k l (suc k.time) place forks shown form) no_news (λ n h. absurd h) parcels of_run.complete.parcels_of_run
          (λ c e h shows. inl (quietly k l (suc k.time) place forks shown form quiet e h (Fork c) (λ q. q) shows))
          (λ c e h shows. inl (quietly k l (suc k.time) place forks shown form quiet e h (Send c) (λ q. q) shows))
          (λ c v h. inl (inl h));
    }

    keeps_silent : next k ≡ Some nexts.Silent → AreOfRun program limit (after_silent k ∷ others) parcels
    keeps_silent n =
        let form = silent_form k n in
        quiet_move (after_silent k) (knows_silent k never known n) (none_late k known (unspent k nexts.Silent n (λ e. cc)).0) form.place k.state.forks form.event form.quiet form.is

    keeps_finished : next k ≡ Some nexts.End → AreOfRun program limit (after_finish k ∷ others) parcels
    keeps_finished n = quiet_move (after_finish k) (knows_finished k never known n) (none_late k known (unspent k nexts.End n (λ e. cc)).0) Ended k.state.forks event.End tt refl

    keeps_forked : next k ≡ Some nexts.Fork → AreOfRun program limit (parent_after k ∷ child_after k ∷ others) parcels
    keeps_forked n = record {
      never = of_run.never;
      known = keeps_known (parent_after k ∷ child_after k ∷ []) parcels both_known of_run.known.each_parcel;
      complete = stays_complete program limit tasks parcels of_run.complete k others takes (none_late k known (unspent k nexts.Fork n (λ e. cc)).0) (parent_after k) (child_after k ∷ [])
          (continues k (parent_after k) (suc k.time) (fork_form k n).parent (suc k.state.forks) (Fork (fork_form k n).channel) (fork_form k n).parent_is) child_of_run child_fresh parcels of_run.complete.parcels_of_run
          forked
          (λ c e h shows. by_send c e shows (new_or_old k (parent_after k) (suc k.time) (fork_form k n).parent (suc k.state.forks) (Fork (fork_form k n).channel) (fork_form k n).parent_is e h))
          (λ c v h. inl (inl h));
    }
      where
        both_known : (m : KnownTask) → In m (parent_after k ∷ child_after k ∷ []) → IsKnown m
        both_known m (inl e) = subst IsKnown (sym e) (knows_forked k never known n).0
        both_known m (inr (inl e)) = subst IsKnown (sym e) (knows_forked k never known n).1
        both_known m (inr (inr h)) = absurd h

        child_of_run : (m : KnownTask) → In m (child_after k ∷ []) → (m.program ≡ program) × (m.limit ≡ limit)
        child_of_run m (inl e) =
            let (same_program, same_limit) = of_run.complete.tasks_of_run k here in
            (ap (λ (x : KnownTask). x.program) (e ∙ (fork_form k n).child_is) ∙ same_program, ap (λ (x : KnownTask). x.limit) (e ∙ (fork_form k n).child_is) ∙ same_limit)
        child_of_run m (inr h) = absurd h

        child_fresh : (m : KnownTask) → In m (child_after k ∷ []) → m.entries ≡ []
        child_fresh m (inl e) = ap (λ (x : KnownTask). x.entries) (e ∙ (fork_form k n).child_is)
        child_fresh m (inr h) = absurd h

        forked : (c : Name) (e : Entry) → In e (parent_after k).entries → e.event ≡ Fork c → In e k.entries ⊎ HasTask (parent_after k ∷ child_after k ∷ others) c
        forked c e h shows = by (new_or_old k (parent_after k) (suc k.time) (fork_form k n).parent (suc k.state.forks) (Fork (fork_form k n).channel) (fork_form k n).parent_is e h)
          where
            by : In e k.entries ⊎ (e.event ≡ Fork (fork_form k n).channel) → In e k.entries ⊎ HasTask (parent_after k ∷ child_after k ∷ others) c
            by (inl old) = inl old
            by (inr new) =
                let both = sym new ∙ shows in
                let channel : (fork_form k n).channel ≡ c = cc in
                inr (child_after k, inr (inl refl), ap (λ (x : KnownTask). x.name) (fork_form k n).child_is ∙ channel)

        by_send : (c : Name) (e : Entry) → e.event ≡ Send c → In e k.entries ⊎ (e.event ≡ Fork (fork_form k n).channel) → In e k.entries ⊎ ((v : Value) × IsOnHand (parent_after k ∷ child_after k ∷ others) parcels c v)
        by_send c e shows (inl old) = inl old
        by_send c e shows (inr new) = let both = sym new ∙ shows in let bad : ⊥ = cc in absurd bad

    keeps_sent : (c : Name) (q : KnownParcel) → next k ≡ Some (nexts.Send c) → parcel_of k ≡ Some q → AreOfRun program limit (after_send k ∷ others) (q ∷ parcels)
    keeps_sent c q n sends = record {
      never = of_run.never;
      known = keeps_known (after_send k ∷ []) (q ∷ parcels) (only (after_send k) (knows_sent k c never known n).0) parcel_known;
      complete = stays_complete program limit tasks parcels of_run.complete k others takes (none_late k known (unspent k (nexts.Send c) n (λ e. cc)).0) (after_send k) []
          (continues k (after_send k) (suc k.time) (send_form k c n).place k.state.forks (Send c) (send_form k c n).is) no_news (λ m h. absurd h) (q ∷ parcels) parcel_of_run
          (λ d e h shows. by_fork d e shows (new_or_old k (after_send k) (suc k.time) (send_form k c n).place k.state.forks (Send c) (send_form k c n).is e h))
          (λ d e h shows. by_send d e shows (new_or_old k (after_send k) (suc k.time) (send_form k c n).place k.state.forks (Send c) (send_form k c n).is e h))
          (λ d v (r, h, channel, value). inl (inl (r, inr h, channel, value)));
    }
      where
        parcel_is : q ≡ record { program = k.program; limit = k.limit; channel = c; value = (send_form k c n).value; round = suc k.time }
        parcel_is = let both = sym sends ∙ (send_form k c n).parcel in cc

        parcel_known : (r : KnownParcel) → In r (q ∷ parcels) → IsKnownParcel r
        parcel_known r (inl e) =
            let (first, r', is, channel, its) = knows_sent k c never known n in
            let both = sym sends ∙ is in
            let same_parcel : q ≡ r' = cc in
            subst IsKnownParcel (sym (e ∙ same_parcel)) its
        parcel_known r (inr h) = of_run.known.each_parcel r h

        parcel_of_run : (r : KnownParcel) → In r (q ∷ parcels) → (r.program ≡ program) × (r.limit ≡ limit)
        parcel_of_run r (inl e) =
            let (same_program, same_limit) = of_run.complete.tasks_of_run k here in
            (ap (λ (x : KnownParcel). x.program) (e ∙ parcel_is) ∙ same_program, ap (λ (x : KnownParcel). x.limit) (e ∙ parcel_is) ∙ same_limit)
        parcel_of_run r (inr h) = of_run.complete.parcels_of_run r h

        by_fork : (d : Name) (e : Entry) → e.event ≡ Fork d → In e k.entries ⊎ (e.event ≡ Send c) → In e k.entries ⊎ HasTask (after_send k ∷ others) d
        by_fork d e shows (inl old) = inl old
        by_fork d e shows (inr new) = let both = sym new ∙ shows in let bad : ⊥ = cc in absurd bad

        by_send : (d : Name) (e : Entry) → e.event ≡ Send d → In e k.entries ⊎ (e.event ≡ Send c) → In e k.entries ⊎ ((v : Value) × IsOnHand (after_send k ∷ others) (q ∷ parcels) d v)
        by_send d e shows (inl old) = inl old
        by_send d e shows (inr new) =
            let both = sym new ∙ shows in
            let channel : c ≡ d = cc in
            inr (q.value, inl (q, inl refl, ap (λ (x : KnownParcel). x.channel) parcel_is ∙ channel, refl))

    module _ (q : KnownParcel) (rest : List KnownParcel) (takes_parcel : Takes parcels q rest) (is_for : IsFor q k) where
      abbrev form_place : Value → Place
      form_place = (receive_form k q is_for).place

      rest_known : (r : KnownParcel) → In r rest → IsKnownParcel r
      rest_known r h = of_run.known.each_parcel r (other_in parcels q rest takes_parcel r h)

      rest_of_run : (r : KnownParcel) → In r rest → (r.program ≡ program) × (r.limit ≡ limit)
      rest_of_run r h = of_run.complete.parcels_of_run r (other_in parcels q rest takes_parcel r h)

      late : k.late ≡ None
      late = none_late k known (unspent k (nexts.Recv q.channel) is_for.waits (λ e. cc)).0

      -- the parcels but the one that is taken are still there
      others_handed : (l : KnownTask) → ((c : Name) (v : Value) → q.channel ≡ c → q.value ≡ v → IsOnHand (l ∷ others) rest c v ⊎ Shows (l ∷ others) (Recv c))
          → (c : Name) (v : Value) → HasParcel parcels c v → IsOnHand (l ∷ others) rest c v ⊎ Shows (l ∷ others) (Recv c)
      others_handed l mine c v (r, h, channel, value) = by (taken_or_other parcels q rest takes_parcel r h)
        where
          by : (r ≡ q) ⊎ In r rest → IsOnHand (l ∷ others) rest c v ⊎ Shows (l ∷ others) (Recv c)
          by (inl e) = mine c v (ap (λ (x : KnownParcel). x.channel) (sym e) ∙ channel) (ap (λ (x : KnownParcel). x.value) (sym e) ∙ value)
          by (inr g) = inl (inl (r, g, channel, value))

      received : (l : KnownTask) → IsKnown l → (round : ℕ) (place : Place) → l ≡ moved k round place k.state.forks (Recv q.channel) → AreOfRun program limit (l ∷ others) rest
      received l is round place form = record {
        never = of_run.never;
        known = keeps_known (l ∷ []) rest (only l is) rest_known;
        complete = stays_complete program limit tasks parcels of_run.complete k others takes late l [] (continues k l round place k.state.forks (Recv q.channel) form) no_news (λ n h. absurd h) rest rest_of_run
            (λ c e h shows. inl (loud c e (Fork c) (λ f. cc) shows (new_or_old k l round place k.state.forks (Recv q.channel) form e h)))
            (λ c e h shows. inl (loud c e (Send c) (λ f. cc) shows (new_or_old k l round place k.state.forks (Recv q.channel) form e h)))
            (others_handed l (λ c v channel value. inr (l, receipt, inl refl, noted, ap Recv channel)));
      }
        where
          receipt : Entry
          receipt = record { time = round; name = k.name; event = Recv q.channel }

          noted : In receipt l.entries
          noted = subst (λ (x : KnownTask). In receipt x.entries) (sym form) (in_right receipt k.entries _ (inl refl))

          loud : (c : Name) (e : Entry) (other : Event) → (Recv q.channel ≡ other → ⊥) → e.event ≡ other → In e k.entries ⊎ (e.event ≡ Recv q.channel) → In e k.entries
          loud c e other apart shows (inl old) = old
          loud c e other apart shows (inr new) = absurd (apart (sym new ∙ shows))

      kept : (l : KnownTask) → IsKnown l → l ≡ record k { time = k.limit; late = Some q.value } → AreOfRun program limit (l ∷ others) rest
      kept l is form = record {
        never = of_run.never;
        known = keeps_known (l ∷ []) rest (only l is) rest_known;
        complete = stays_complete program limit tasks parcels of_run.complete k others takes late l [] same_task no_news (λ n h. absurd h) rest rest_of_run
            (λ c e h shows. inl (subst (λ (x : KnownTask). In e x.entries) form h))
            (λ c e h shows. inl (subst (λ (x : KnownTask). In e x.entries) form h))
            (others_handed l (λ c v channel value. inl (inr (l, form_place, inl refl, ap does form ∙ (receive_form k q is_for).does_it ∙ ap (λ d. act.Recv d form_place) channel, ap (λ (x : KnownTask). x.late) form ∙ ap Some value))));
      }
        where
          same_task : Continues k l
          same_task = subst (Continues k) (sym form) (record { program = refl; limit = refl; name = refl; entries = λ e h. h })

      keeps_received : AreOfRun program limit (after_receive k q ∷ others) rest
      keeps_received = by (nat_lt q.round k.limit) (receive_form k q is_for).is
        where
          is_known : IsKnown (after_receive k q)
          is_known = knows_received k q never known (of_run.known.each_parcel q (taken_in parcels q rest takes_parcel)) is_for

          by : (b : Bool) → after_receive k q ≡ (if b then moved k (suc (max k.time q.round)) ((receive_form k q is_for).place q.value) k.state.forks (Recv q.channel) else record k { time = k.limit; late = Some q.value })
              → AreOfRun program limit (after_receive k q ∷ others) rest
          by true form = received (after_receive k q) is_known (suc (max k.time q.round)) ((receive_form k q is_for).place q.value) form
          by false form = kept (after_receive k q) is_known form

-- ---- whatever the order of the lists

same : {A : Type 0} (xs : List A) (x : A) → In x xs → In x xs
same xs x h = h

module _ (program : Program) (limit : ℕ) (l : KnownTask) (others tasks' : List KnownTask) (puts : Takes tasks' l others) where
  -- the task stands somewhere among the others
  put_in : (parcels : List KnownParcel) → AreOfRun program limit (l ∷ others) parcels → AreOfRun program limit tasks' parcels
  put_in parcels = alike program limit (l ∷ others) tasks' parcels parcels (fronted tasks' l others puts) (unfronted tasks' l others puts) (same parcels) (same parcels)

  put_both : (q : KnownParcel) (parcels parcels' : List KnownParcel) → Takes parcels' q parcels → AreOfRun program limit (l ∷ others) (q ∷ parcels) → AreOfRun program limit tasks' parcels'
  put_both q parcels parcels' puts_parcel =
      alike program limit (l ∷ others) tasks' (q ∷ parcels) parcels' (fronted tasks' l others puts) (unfronted tasks' l others puts) (fronted parcels' q parcels puts_parcel) (unfronted parcels' q parcels puts_parcel)

  -- and so does its child
  put_two : (m : KnownTask) (rest : List KnownTask) → Takes others m rest → (parcels : List KnownParcel) → AreOfRun program limit (l ∷ m ∷ rest) parcels → AreOfRun program limit tasks' parcels
  put_two m rest puts_child parcels = alike program limit (l ∷ m ∷ rest) tasks' parcels parcels to from (same parcels) (same parcels)
    where
      to : (k : KnownTask) → In k (l ∷ m ∷ rest) → In k tasks'
      to k (inl is) = fronted tasks' l others puts k (inl is)
      to k (inr h) = fronted tasks' l others puts k (inr (fronted others m rest puts_child k h))

      from : (k : KnownTask) → In k tasks' → In k (l ∷ m ∷ rest)
      from k h = by (unfronted tasks' l others puts k h)
        where
          by : In k (l ∷ others) → In k (l ∷ m ∷ rest)
          by (inl is) = inl is
          by (inr o) = inr (unfronted others m rest puts_child k o)

pub moves_keep : MovesKeep
moves_keep program limit tasks parcels tasks' parcels' of_run (GoesOn k others after takes n puts) =
    put_in program limit (after_silent k) others after puts parcels (keeps_silent program limit tasks parcels of_run k others takes n)
moves_keep program limit tasks parcels tasks' parcels' of_run (Forks k others children after takes n puts_child puts) =
    put_two program limit (parent_after k) children after puts (child_after k) others puts_child parcels (keeps_forked program limit tasks parcels of_run k others takes n)
moves_keep program limit tasks parcels tasks' parcels' of_run (Sends k others after c q more takes n sends puts puts_parcel) =
    put_both program limit (after_send k) others after puts q parcels more puts_parcel (keeps_sent program limit tasks parcels of_run k others takes c q n sends)
moves_keep program limit tasks parcels tasks' parcels' of_run (Receives k others after q rest takes takes_parcel is_for puts) =
    put_in program limit (after_receive k q) others after puts rest (keeps_received program limit tasks parcels of_run k others takes q rest takes_parcel is_for)
moves_keep program limit tasks parcels tasks' parcels' of_run (Finishes k others after takes n puts) =
    put_in program limit (after_finish k) others after puts parcels (keeps_finished program limit tasks parcels of_run k others takes n)

pub starts_complete : StartsComplete
starts_complete program limit never = record {
  never = never;
  known = record { each_task = only_main; each_parcel = λ q h. absurd h };
  complete = record {
    tasks_of_run = λ k h. of_main k h;
    parcels_of_run = λ q h. absurd h;
    has_main = (main_task program limit, inl refl, refl);
    has_forked = λ c h. absurd (shows_nothing (Fork c) h);
    has_sent = λ c h. absurd (shows_nothing (Send c) h);
  };
}
  where
    only_main : (k : KnownTask) → In k (main_task program limit ∷ []) → IsKnown k
    only_main k (inl e) = subst IsKnown (sym e) (knows_main program limit)
    only_main k (inr h) = absurd h

    of_main : (k : KnownTask) → In k (main_task program limit ∷ []) → (k.program ≡ program) × (k.limit ≡ limit)
    of_main k (inl e) = (ap (λ (x : KnownTask). x.program) e, ap (λ (x : KnownTask). x.limit) e)
    of_main k (inr h) = absurd h

    shows_nothing : (event : Event) → Shows (main_task program limit ∷ []) event → ⊥
    shows_nothing event (k, e, inl is, g, shows) = subst (λ (x : KnownTask). In e x.entries) is g
    shows_nothing event (k, e, inr h, g, shows) = h
