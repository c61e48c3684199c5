-- Lists stay complete where a task is put in place of an earlier state of its own.
use Rattle.std.proofs.Common.{◌≡◌, ◌⊎◌, inl, inr, ℕ, List, [], ◌∷◌, ◌++◌, None, refl, sym, ap, subst, ◌∙◌}
use Rattle.core_language.specs.Names.{Name, main}
use Rattle.core_language.specs.Values.{Value}
use Rattle.core_language.specs.Programs.{Program}
use Rattle.core_language.specs.Steps.{Event, Fork, Send, Recv}
use Rattle.core_language.specs.Rounds.{Entry}
use Rattle.task_rounds.specs.Members.{In}
use Rattle.task_rounds.proofs.Members.{in_left, in_right, in_either}
use Rattle.known_tasks.specs.Known.{KnownTask, KnownParcel}
use Rattle.gathered_runs.specs.Complete.{HasTask, Shows, HasParcel, KeepsLate, IsOnHand, AreComplete}
use Rattle.gathered_runs.specs.Driving.{Takes, AreOfRun}

module _ {A : Type 0} (all : List A) (x : A) (others : List A) (takes : Takes all x others) where
  pub taken_in : In x all
  taken_in = subst (In x) (sym takes.is) (in_right x takes.front (x ∷ takes.back) (inl refl))

  pub other_in : (y : A) → In y others → In y all
  other_in y h = subst (In y) (sym takes.is) (by (in_either y takes.front takes.back (subst (In y) takes.leaves h)))
    where
      by : In y takes.front ⊎ In y takes.back → In y (takes.front ++ x ∷ takes.back)
      by (inl f) = in_left y takes.front (x ∷ takes.back) f
      by (inr b) = in_right y takes.front (x ∷ takes.back) (inr b)

  pub taken_or_other : (y : A) → In y all → (y ≡ x) ⊎ In y others
  taken_or_other y h = by (in_either y takes.front (x ∷ takes.back) (subst (In y) takes.is h))
    where
      by : In y takes.front ⊎ In y (x ∷ takes.back) → (y ≡ x) ⊎ In y others
      by (inl f) = inr (subst (In y) (sym takes.leaves) (in_left y takes.front takes.back f))
      by (inr (inl is)) = inl is
      by (inr (inr b)) = inr (subst (In y) (sym takes.leaves) (in_right y takes.front takes.back b))

  -- ---- lists with the same members

  -- what was taken out, in front of the others
  pub fronted : (y : A) → In y (x ∷ others) → In y all
  fronted y (inl is) = subst (λ z. In z all) (sym is) taken_in
  fronted y (inr h) = other_in y h

  pub unfronted : (y : A) → In y all → In y (x ∷ others)
  unfronted y h = by (taken_or_other y h)
    where
      by : (y ≡ x) ⊎ In y others → In y (x ∷ others)
      by (inl is) = inl is
      by (inr o) = inr o

module _ (program : Program) (limit : ℕ) (tasks tasks' : List KnownTask) (parcels parcels' : List KnownParcel)
    (to : (k : KnownTask) → In k tasks → In k tasks') (from : (k : KnownTask) → In k tasks' → In k tasks) (to_parcel : (q : KnownParcel) → In q parcels → In q parcels') (from_parcel : (q : KnownParcel) → In q parcels' → In q parcels) where
  shows_alike : (event : Event) → Shows tasks event → Shows tasks' event
  shows_alike event (k, e, h, g, is) = (k, e, to k h, g, is)

  shows_back : (event : Event) → Shows tasks' event → Shows tasks event
  shows_back event (k, e, h, g, is) = (k, e, from k h, g, is)

  has_alike : (p : Name) → HasTask tasks p → HasTask tasks' p
  has_alike p (k, h, named) = (k, to k h, named)

  hand_alike : (c : Name) (v : Value) → IsOnHand tasks parcels c v → IsOnHand tasks' parcels' c v
  hand_alike c v (inl (q, h, channel, value)) = inl (q, to_parcel q h, channel, value)
  hand_alike c v (inr (k, place, h, waits, late)) = inr (k, place, to k h, waits, late)

  -- their order is of no account
  pub alike : AreOfRun program limit tasks parcels → AreOfRun program limit tasks' parcels'
  alike of_run = record {
    never = of_run.never;
    known = record { each_task = λ k h. of_run.known.each_task k (from k h); each_parcel = λ q h. of_run.known.each_parcel q (from_parcel q h) };
    complete = record {
      tasks_of_run = λ k h. of_run.complete.tasks_of_run k (from k h);
      parcels_of_run = λ q h. of_run.complete.parcels_of_run q (from_parcel q h);
      has_main = has_alike main of_run.complete.has_main;
      has_forked = λ c shows. has_alike c (of_run.complete.has_forked c (shows_back (Fork c) shows));
      has_sent = λ c shows. by c (of_run.complete.has_sent c (shows_back (Send c) shows));
    };
  }
    where
      by : (c : Name) → ((v : Value) × IsOnHand tasks parcels c v) ⊎ Shows tasks (Recv c) → ((v : Value) × IsOnHand tasks' parcels' c v) ⊎ Shows tasks' (Recv c)
      by c (inl (v, h)) = inl (v, hand_alike c v h)
      by c (inr received) = inr (shows_alike (Recv c) received)

-- the same task later on
pub record Continues (k l : KnownTask) : Type 0 where
  pub program : l.program ≡ k.program
  pub limit : l.limit ≡ k.limit
  pub name : l.name ≡ k.name
  pub entries : (e : Entry) → In e k.entries → In e l.entries

module _ (program : Program) (limit : ℕ) (tasks : List KnownTask) (parcels : List KnownParcel) (complete : AreComplete program limit tasks parcels)
    (k : KnownTask) (others : List KnownTask) (takes : Takes tasks k others) (not_late : k.late ≡ None)
    (l : KnownTask) (news : List KnownTask) (continues : Continues k l)
    (news_of_run : (n : KnownTask) → In n news → (n.program ≡ program) × (n.limit ≡ limit)) (news_fresh : (n : KnownTask) → In n news → n.entries ≡ [])
    (rest : List KnownParcel) (parcels_of_run : (q : KnownParcel) → In q rest → (q.program ≡ program) × (q.limit ≡ limit)) where
  abbrev now : List KnownTask
  now = l ∷ news ++ others

  other_now : (n : KnownTask) → In n others → In n (l ∷ news ++ others)
  other_now n h = inr (in_right n news others h)

  pub still_has : (p : Name) → HasTask tasks p → HasTask (l ∷ news ++ others) p
  still_has p (n, h, named) = by (taken_or_other tasks k others takes n h)
    where
      by : (n ≡ k) ⊎ In n others → HasTask (l ∷ news ++ others) p
      by (inl is) = (l, inl refl, continues.name ∙ ap (λ (x : KnownTask). x.name) (sym is) ∙ named)
      by (inr g) = (n, other_now n g, named)

  pub still_shows : (event : Event) → Shows tasks event → Shows (l ∷ news ++ others) event
  still_shows event (n, e, h, g, is) = by (taken_or_other tasks k others takes n h)
    where
      by : (n ≡ k) ⊎ In n others → Shows (l ∷ news ++ others) event
      by (inl same_task) = (l, e, inl refl, continues.entries e (subst (λ (x : KnownTask). In e x.entries) same_task g), is)
      by (inr o) = (n, e, other_now n o, g, is)

  still_late : (c : Name) (v : Value) → KeepsLate tasks c v → KeepsLate (l ∷ news ++ others) c v
  still_late c v (n, place, h, waits, late) = by (taken_or_other tasks k others takes n h)
    where
      by : (n ≡ k) ⊎ In n others → KeepsLate (l ∷ news ++ others) c v
      by (inl same_task) = let both = sym late ∙ ap (λ (x : KnownTask). x.late) same_task ∙ not_late in let bad : ⊥ = cc in absurd bad
      by (inr o) = (n, place, other_now n o, waits, late)

  -- what the lists show now was shown before, or by a new entry of the task
  shown_before : (event : Event) → Shows (l ∷ news ++ others) event → Shows tasks event ⊎ ((e : Entry) × In e l.entries × (e.event ≡ event))
  shown_before event (n, e, inl is, g, shows) = inr (e, subst (λ (x : KnownTask). In e x.entries) is g, shows)
  shown_before event (n, e, inr h, g, shows) = by (in_either n news others h)
    where
      by : In n news ⊎ In n others → Shows tasks event ⊎ ((e : Entry) × In e l.entries × (e.event ≡ event))
      by (inl new) = absurd (subst (In e) (news_fresh n new) g)
      by (inr o) = inl (n, e, other_in tasks k others takes n o, g, shows)

  module _ (forked : (c : Name) (e : Entry) → In e l.entries → e.event ≡ Fork c → In e k.entries ⊎ HasTask (l ∷ news ++ others) c)
      (sent : (c : Name) (e : Entry) → In e l.entries → e.event ≡ Send c → In e k.entries ⊎ ((v : Value) × IsOnHand (l ∷ news ++ others) rest c v))
      (handed : (c : Name) (v : Value) → HasParcel parcels c v → IsOnHand (l ∷ news ++ others) rest c v ⊎ Shows (l ∷ news ++ others) (Recv c)) where
    all_of_run : (n : KnownTask) → In n (l ∷ news ++ others) → (n.program ≡ program) × (n.limit ≡ limit)
    all_of_run n (inl is) =
        let (same_program, same_limit) = complete.tasks_of_run k (taken_in tasks k others takes) in
        (ap (λ (x : KnownTask). x.program) is ∙ continues.program ∙ same_program, ap (λ (x : KnownTask). x.limit) is ∙ continues.limit ∙ same_limit)
    all_of_run n (inr h) = by (in_either n news others h)
      where
        by : In n news ⊎ In n others → (n.program ≡ program) × (n.limit ≡ limit)
        by (inl new) = news_of_run n new
        by (inr o) = complete.tasks_of_run n (other_in tasks k others takes n o)

    has_forked : (c : Name) → Shows (l ∷ news ++ others) (Fork c) → HasTask (l ∷ news ++ others) c
    has_forked c h = by (shown_before (Fork c) h)
      where
        old : Shows tasks (Fork c) → HasTask (l ∷ news ++ others) c
        old shows = still_has c (complete.has_forked c shows)

        new : (e : Entry) → e.event ≡ Fork c → In e k.entries ⊎ HasTask (l ∷ news ++ others) c → HasTask (l ∷ news ++ others) c
        new e is (inl g) = old (k, e, taken_in tasks k others takes, g, is)
        new e is (inr has) = has

        by : Shows tasks (Fork c) ⊎ ((e : Entry) × In e l.entries × (e.event ≡ Fork c)) → HasTask (l ∷ news ++ others) c
        by (inl shows) = old shows
        by (inr (e, g, is)) = new e is (forked c e g is)

    has_sent : (c : Name) → Shows (l ∷ news ++ others) (Send c) → ((v : Value) × IsOnHand (l ∷ news ++ others) rest c v) ⊎ Shows (l ∷ news ++ others) (Recv c)
    has_sent c h = by (shown_before (Send c) h)
      where
        still : (v : Value) → IsOnHand (l ∷ news ++ others) rest c v ⊎ Shows (l ∷ news ++ others) (Recv c) → ((v : Value) × IsOnHand (l ∷ news ++ others) rest c v) ⊎ Shows (l ∷ news ++ others) (Recv c)
        still v (inl on_hand) = inl (v, on_hand)
        still v (inr received) = inr received

        on : ((v : Value) × IsOnHand tasks parcels c v) ⊎ Shows tasks (Recv c) → ((v : Value) × IsOnHand (l ∷ news ++ others) rest c v) ⊎ Shows (l ∷ news ++ others) (Recv c)
        on (inl (v, inl parcel)) = still v (handed c v parcel)
        on (inl (v, inr late)) = inl (v, inr (still_late c v late))
        on (inr received) = inr (still_shows (Recv c) received)

        new : (e : Entry) → e.event ≡ Send c → In e k.entries ⊎ ((v : Value) × IsOnHand (l ∷ news ++ others) rest c v) → ((v : Value) × IsOnHand (l ∷ news ++ others) rest c v) ⊎ Shows (l ∷ news ++ others) (Recv c)
        new e is (inl g) = on (complete.has_sent c (k, e, taken_in tasks k others takes, g, is))
        new e is (inr on_hand) = inl on_hand

        by : Shows tasks (Send c) ⊎ ((e : Entry) × In e l.entries × (e.event ≡ Send c)) → ((v : Value) × IsOnHand (l ∷ news ++ others) rest c v) ⊎ Shows (l ∷ news ++ others) (Recv c)
        by (inl shows) = on (complete.has_sent c shows)
        by (inr (e, g, is)) = new e is (sent c e g is)

    pub stays_complete : AreComplete program limit (l ∷ news ++ others) rest
    stays_complete = record {
      tasks_of_run = all_of_run;
      parcels_of_run = parcels_of_run;
      has_main = still_has main complete.has_main;
      has_forked = has_forked;
      has_sent = has_sent;
    }
