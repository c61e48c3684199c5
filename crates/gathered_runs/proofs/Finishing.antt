-- One hand comes to an end alone, and then the lists make the run.
use Rattle.std.proofs.Common.{◌≡◌, ◌⊎◌, inl, inr, ℕ, zero, suc, ◌+◌, ◌-◌, ◌*◌, ◌^◌, ◌≤◌, ◌<◌, max, Bool, true, false, nat_lt, if◌then◌else◌, List, [], ◌∷◌, ◌++◌, Some, refl, sym, ap, subst, ◌∙◌, pow_pos, pow_mono, pow-suc, mul-suc, length, arith}
use Rattle.core_language.specs.Names.{Name, same_name}
use Rattle.core_language.specs.Values.{Value}
use Rattle.core_language.specs.Programs.{Program}
use Rattle.core_language.specs.Steps.{Recv}
use Rattle.machine_rounds.proofs.Rounded.{same-self, same-is}
use Rattle.task_rounds.specs.Members.{In}
use Rattle.task_rounds.specs.Reaching.{NeverSticks}
use Rattle.known_tasks.specs.Known.{KnownTask, KnownParcel, IsKnown}
use Rattle.known_tasks.specs.Nexts.{Next, Spent, next, has_ended}
use Rattle.known_tasks.specs.Nexts as nexts
use Rattle.known_tasks.specs.Calls.{moved, after_silent, parent_after, child_after, after_send, IsFor, after_receive, after_finish}
use Rattle.known_tasks.proofs.Calls.{unspent, goes_on}
use Rattle.known_tasks.proofs.Forms.{silent_form, fork_form, send_form, receive_form}
use Rattle.gathered_runs.specs.Complete.{HasParcel, AreAtRest, RestsAt}
use Rattle.gathered_runs.specs.Gathered.{AreDone}
use Rattle.gathered_runs.specs.Driving.{Takes, Move, GoesOn, Forks, Sends, Receives, Finishes, Moves, NoMove, Then, left_to_do, times, AreOfRun, MovesEnd, MovesCount, MovesOrRests, FinishesAlone, RestsAtTheRun}
use Rattle.gathered_runs.proofs.Replacing.{taken_in}
use Rattle.gathered_runs.proofs.Keeping.{of_program, moves_keep}
use Rattle.gathered_runs.proofs.Gathering.{gathers_the_run}

-- ---- each move leaves less to do

weigh : (limit : ℕ) (front back : List KnownTask) (k : KnownTask) → left_to_do limit (front ++ k ∷ back) ≡ (2 ^ (limit - k.time) - 1) + left_to_do limit (front ++ back)
weigh limit [] back k = refl
weigh limit (l ∷ front) back k = let rest = weigh limit front back k in omega arith

weigh_taken : (limit : ℕ) (tasks : List KnownTask) (k : KnownTask) (others : List KnownTask) → Takes tasks k others → left_to_do limit tasks ≡ (2 ^ (limit - k.time) - 1) + left_to_do limit others
weigh_taken limit tasks k others takes = ap (left_to_do limit) takes.is ∙ weigh limit takes.front takes.back k ∙ ap (λ l. (2 ^ (limit - k.time) - 1) + left_to_do limit l) (sym takes.leaves)

times-split : (front back : List KnownTask) (k : KnownTask) → times (front ++ k ∷ back) ≡ k.time + times (front ++ back)
times-split [] back k = refl
times-split (l ∷ front) back k = let rest = times-split front back k in omega arith

times_taken : (tasks : List KnownTask) (k : KnownTask) (others : List KnownTask) → Takes tasks k others → times tasks ≡ k.time + times others
times_taken tasks k others takes = ap times takes.is ∙ times-split takes.front takes.back k ∙ ap (λ l. k.time + times l) (sym takes.leaves)

-- one round less halves the power
lighter : (limit early late : ℕ) → early < limit → early < late → 2 * (2 ^ (limit - late)) ≤ 2 ^ (limit - early)
lighter limit early late within later =
    let less : suc (limit - late) ≤ limit - early = omega arith in
    let power : 2 ^ suc (limit - late) ≤ 2 ^ (limit - early) = pow_mono less in
    let twice : 2 ^ suc (limit - late) ≡ 2 ^ (limit - late) * 2 = pow-suc 2 (limit - late) in
    omega (arith, power, twice)

positive : (n : ℕ) → 0 < 2 ^ n
positive n = pow_pos n

module _ (program : Program) (limit : ℕ) (tasks : List KnownTask) (parcels : List KnownParcel) (of_run : AreOfRun program limit tasks parcels) (k : KnownTask) (others : List KnownTask) (takes : Takes tasks k others) where
  known : IsKnown k
  known = of_run.known.each_task k (taken_in tasks k others takes)

  early : (n : Next) → next k ≡ Some n → (Spent ≡ n → ⊥) → k.time < limit
  early n is other = let within = known.within in let before = (unspent k n is other).0 in let same_limit = (of_run.complete.tasks_of_run k (taken_in tasks k others takes)).1 in omega (arith, before)

  one_less : (l : KnownTask) (tasks' : List KnownTask) → Takes tasks' l others → k.time < limit → k.time < l.time → left_to_do limit tasks' < left_to_do limit tasks
  one_less l tasks' puts before later = omega (arith, weigh_taken limit tasks k others takes, weigh_taken limit tasks' l others puts, lighter limit k.time l.time before later, positive (limit - l.time))

  two_less : (l m : KnownTask) (children tasks' : List KnownTask) → Takes children m others → Takes tasks' l children → k.time < limit → k.time < l.time → k.time < m.time → left_to_do limit tasks' < left_to_do limit tasks
  two_less l m children tasks' puts_child puts before later also = omega (arith, weigh_taken limit tasks k others takes, weigh_taken limit children m others puts_child, weigh_taken limit tasks' l children puts, lighter limit k.time l.time before later, lighter limit k.time m.time before also, positive (limit - l.time), positive (limit - m.time))

  raises_one : (l : KnownTask) (tasks' : List KnownTask) → Takes tasks' l others → k.time < l.time → times tasks < times tasks'
  raises_one l tasks' puts later = omega (arith, times_taken tasks k others takes, times_taken tasks' l others puts)

  raises_two : (l m : KnownTask) (children tasks' : List KnownTask) → Takes children m others → Takes tasks' l children → k.time < l.time → times tasks < times tasks'
  raises_two l m children tasks' puts_child puts later = omega (arith, times_taken tasks k others takes, times_taken children m others puts_child, times_taken tasks' l children puts)

  receive_later : (q : KnownParcel) → IsFor q k → k.time < (after_receive k q).time
  receive_later q is_for = by (nat_lt q.round k.limit) (receive_form k q is_for).is
    where
      before : k.time < k.limit
      before = let within = known.within in let not_spent = (unspent k (nexts.Recv q.channel) is_for.waits (λ e. cc)).0 in omega (arith, not_spent)

      by : (b : Bool) → after_receive k q ≡ (if b then moved k (suc (max k.time q.round)) ((receive_form k q is_for).place q.value) k.state.forks (Recv q.channel) else record k { time = k.limit; late = Some q.value }) → k.time < (after_receive k q).time
      by true form = let is = ap (λ (x : KnownTask). x.time) form in omega arith
      by false form = let is = ap (λ (x : KnownTask). x.time) form in omega (arith, before)

pub moves_end : MovesEnd
moves_end program limit tasks parcels tasks' parcels' of_run (GoesOn k others after takes n puts) =
    let is = ap (λ (x : KnownTask). x.time) (silent_form k n).is in
    one_less program limit tasks parcels of_run k others takes (after_silent k) after puts (early program limit tasks parcels of_run k others takes nexts.Silent n (λ e. cc)) (omega arith)
moves_end program limit tasks parcels tasks' parcels' of_run (Forks k others children after takes n puts_child puts) =
    let is = ap (λ (x : KnownTask). x.time) (fork_form k n).parent_is in
    let also = ap (λ (x : KnownTask). x.time) (fork_form k n).child_is in
    two_less program limit tasks parcels of_run k others takes (parent_after k) (child_after k) children after puts_child puts (early program limit tasks parcels of_run k others takes nexts.Fork n (λ e. cc)) (omega arith) (omega arith)
moves_end program limit tasks parcels tasks' parcels' of_run (Sends k others after c q more takes n sends puts puts_parcel) =
    let is = ap (λ (x : KnownTask). x.time) (send_form k c n).is in
    one_less program limit tasks parcels of_run k others takes (after_send k) after puts (early program limit tasks parcels of_run k others takes (nexts.Send c) n (λ e. cc)) (omega arith)
moves_end program limit tasks parcels tasks' parcels' of_run (Receives k others after q rest takes takes_parcel is_for puts) =
    one_less program limit tasks parcels of_run k others takes (after_receive k q) after puts (early program limit tasks parcels of_run k others takes (nexts.Recv q.channel) is_for.waits (λ e. cc))
    (receive_later program limit tasks parcels of_run k others takes q is_for)
moves_end program limit tasks parcels tasks' parcels' of_run (Finishes k others after takes n puts) =
    one_less program limit tasks parcels of_run k others takes (after_finish k) after puts (early program limit tasks parcels of_run k others takes nexts.End n (λ e. cc)) (omega arith)

move_raises : (program : Program) (limit : ℕ) (tasks : List KnownTask) (parcels : List KnownParcel) (tasks' : List KnownTask) (parcels' : List KnownParcel) → AreOfRun program limit tasks parcels → Move tasks parcels tasks' parcels' → times tasks < times tasks'
move_raises program limit tasks parcels tasks' parcels' of_run (GoesOn k others after takes n puts) =
    let is = ap (λ (x : KnownTask). x.time) (silent_form k n).is in
    raises_one program limit tasks parcels of_run k others takes (after_silent k) after puts (omega arith)
move_raises program limit tasks parcels tasks' parcels' of_run (Forks k others children after takes n puts_child puts) =
    let is = ap (λ (x : KnownTask). x.time) (fork_form k n).parent_is in
    raises_two program limit tasks parcels of_run k others takes (parent_after k) (child_after k) children after puts_child puts (omega arith)
move_raises program limit tasks parcels tasks' parcels' of_run (Sends k others after c q more takes n sends puts puts_parcel) =
    let is = ap (λ (x : KnownTask). x.time) (send_form k c n).is in
    raises_one program limit tasks parcels of_run k others takes (after_send k) after puts (omega arith)
move_raises program limit tasks parcels tasks' parcels' of_run (Receives k others after q rest takes takes_parcel is_for puts) =
    raises_one program limit tasks parcels of_run k others takes (after_receive k q) after puts (receive_later program limit tasks parcels of_run k others takes q is_for)
move_raises program limit tasks parcels tasks' parcels' of_run (Finishes k others after takes n puts) =
    raises_one program limit tasks parcels of_run k others takes (after_finish k) after puts (omega arith)

times_within : (limit : ℕ) (tasks : List KnownTask) → ((k : KnownTask) → In k tasks → k.time ≤ limit) → times tasks ≤ limit * length tasks
times_within limit [] within = omega arith
times_within limit (k ∷ tasks) within =
    let first = within k (inl refl) in
    let rest = times_within limit tasks (λ l h. within l (inr h)) in
    omega (arith, mul-suc limit (length tasks))

moves_raise : (program : Program) (limit n : ℕ) (tasks : List KnownTask) (parcels : List KnownParcel) (tasks' : List KnownTask) (parcels' : List KnownParcel) → Moves n tasks parcels tasks' parcels' → AreOfRun program limit tasks parcels → n + times tasks ≤ times tasks'
moves_raise program limit n tasks parcels tasks' parcels' (NoMove ts ps) of_run = omega arith
moves_raise program limit n tasks parcels tasks' parcels' (Then m ts ps next_tasks next_parcels last_tasks last_parcels move moves) of_run =
    let raised = move_raises program limit ts ps next_tasks next_parcels of_run move in
    let rest = moves_raise program limit m next_tasks next_parcels last_tasks last_parcels moves (moves_keep program limit ts ps next_tasks next_parcels of_run move) in
    omega arith

-- ---- who can move

-- a parcel on the channel, taken out of the others
record Found (parcels : List KnownParcel) (c : Name) : Type 0 where
  parcel : KnownParcel
  rest : List KnownParcel
  takes : Takes parcels parcel rest
  on : parcel.channel ≡ c

find_parcel : (parcels : List KnownParcel) (c : Name) → ((v : Value) → HasParcel parcels c v → ⊥) ⊎ Found parcels c
find_parcel [] c = inl (λ v (q, h, channel, value). h)
find_parcel (q ∷ qs) c = by (same_name q.channel c) refl (find_parcel qs c)
  where
    none : same_name q.channel c ≡ false → ((v : Value) → HasParcel qs c v → ⊥) → (v : Value) → HasParcel (q ∷ qs) c v → ⊥
    none e rest v (r, inl is, channel, value) = let both = sym e ∙ ap (λ d. same_name d c) (ap (λ (x : KnownParcel). x.channel) (sym is) ∙ channel) ∙ same-self c in cc
    none e rest v (r, inr h, channel, value) = rest v (r, h, channel, value)

    by : (b : Bool) → same_name q.channel c ≡ b → ((v : Value) → HasParcel qs c v → ⊥) ⊎ Found qs c → ((v : Value) → HasParcel (q ∷ qs) c v → ⊥) ⊎ Found (q ∷ qs) c
    by true e other = inr (record { parcel = q; rest = qs; takes = record { front = []; back = qs; is = refl; leaves = refl }; on = same-is q.channel c e })
    by false e (inl rest) = inl (none e rest)
    by false e (inr found) = inr (record {
      parcel = found.parcel;
      rest = q ∷ found.rest;
      takes = record { front = q ∷ found.takes.front; back = found.takes.back; is = ap (λ l. q ∷ l) found.takes.is; leaves = ap (λ l. q ∷ l) found.takes.leaves };
      on = found.on;
    })

-- what a task can do next with these parcels
data Ready (parcels : List KnownParcel) (k : KnownTask) : Type 0 where
  ToGoOn : next k ≡ Some nexts.Silent → Ready parcels k
  ToFork : next k ≡ Some nexts.Fork → Ready parcels k
  ToSend : (c : Name) → next k ≡ Some (nexts.Send c) → Ready parcels k
  ToReceive : (c : Name) → next k ≡ Some (nexts.Recv c) → Found parcels c → Ready parcels k
  ToFinish : next k ≡ Some nexts.End → Ready parcels k

rests_or_ready : (parcels : List KnownParcel) (k : KnownTask) → NeverSticks k.program → IsKnown k → ((has_ended k ≡ true) ⊎ RestsAt parcels (next k)) ⊎ Ready parcels k
rests_or_ready parcels k never known = of_end (has_ended k) refl
  where
    by : (n : Next) → next k ≡ Some n → ((has_ended k ≡ true) ⊎ RestsAt parcels (next k)) ⊎ Ready parcels k
    by nexts.Silent is = inr (ToGoOn is)
    by nexts.Fork is = inr (ToFork is)
    by (nexts.Send c) is = inr (ToSend c is)
    by (nexts.Recv c) is = of_found (find_parcel parcels c)
      where
        of_found : ((v : Value) → HasParcel parcels c v → ⊥) ⊎ Found parcels c → ((has_ended k ≡ true) ⊎ RestsAt parcels (next k)) ⊎ Ready parcels k
        of_found (inl none) = inl (inr (subst (RestsAt parcels) (sym is) none))
        of_found (inr found) = inr (ToReceive c is found)
    by nexts.End is = inr (ToFinish is)
    by (nexts.Halt why) is = inl (inr (subst (RestsAt parcels) (sym is) tt))
    by nexts.Spent is = inl (inr (subst (RestsAt parcels) (sym is) tt))

    of_end : (b : Bool) → has_ended k ≡ b → ((has_ended k ≡ true) ⊎ RestsAt parcels (next k)) ⊎ Ready parcels k
    of_end true e = inl (inl e)
    of_end false e = let (n, is) = goes_on k never known e in by n is

-- a task that can go on, taken out of the others
record Chosen (parcels : List KnownParcel) (tasks : List KnownTask) : Type 0 where
  task : KnownTask
  others : List KnownTask
  takes : Takes tasks task others
  ready : Ready parcels task

choose : (parcels : List KnownParcel) (tasks : List KnownTask) → ((k : KnownTask) → In k tasks → NeverSticks k.program × IsKnown k) → AreAtRest tasks parcels ⊎ Chosen parcels tasks
choose parcels [] each = inl (λ k h. absurd h)
choose parcels (k ∷ tasks) each = by (rests_or_ready parcels k (each k (inl refl)).0 (each k (inl refl)).1) (choose parcels tasks (λ l h. each l (inr h)))
  where
    all_rest : ((has_ended k ≡ true) ⊎ RestsAt parcels (next k)) → AreAtRest tasks parcels → (l : KnownTask) → In l (k ∷ tasks) → (has_ended l ≡ true) ⊎ RestsAt parcels (next l)
    all_rest first rest l (inl is) = subst (λ x. (has_ended x ≡ true) ⊎ RestsAt parcels (next x)) (sym is) first
    all_rest first rest l (inr h) = rest l h

    by : ((has_ended k ≡ true) ⊎ RestsAt parcels (next k)) ⊎ Ready parcels k → AreAtRest tasks parcels ⊎ Chosen parcels tasks → AreAtRest (k ∷ tasks) parcels ⊎ Chosen parcels (k ∷ tasks)
    by (inr ready) other = inr (record { task = k; others = tasks; takes = record { front = []; back = tasks; is = refl; leaves = refl }; ready = ready })
    by (inl first) (inl rest) = inl (all_rest first rest)
    by (inl first) (inr chosen) = inr (record {
      task = chosen.task;
      others = k ∷ chosen.others;
      takes = record { front = k ∷ chosen.takes.front; back = chosen.takes.back; is = ap (λ l. k ∷ l) chosen.takes.is; leaves = ap (λ l. k ∷ l) chosen.takes.leaves };
      ready = chosen.ready;
    })

in_front : {A : Type 0} (x : A) (others : List A) → Takes (x ∷ others) x others
in_front x others = record { front = []; back = others; is = refl; leaves = refl }

pub moves_or_rests : MovesOrRests
moves_or_rests program limit tasks parcels of_run = by (choose parcels tasks (λ k h. (of_program program limit tasks parcels of_run k h, of_run.known.each_task k h)))
  where
    move : (k : KnownTask) (others : List KnownTask) → Takes tasks k others → Ready parcels k → (tasks' : List KnownTask) × (parcels' : List KnownParcel) × Move tasks parcels tasks' parcels'
    move k others takes (ToGoOn n) = (after_silent k ∷ others, parcels, GoesOn k others (after_silent k ∷ others) takes n (in_front (after_silent k) others))
    move k others takes (ToFork n) = (
      parent_after k ∷ child_after k ∷ others,
      parcels,
      Forks k others (child_after k ∷ others) (parent_after k ∷ child_after k ∷ others) takes n (in_front (child_after k) others) (in_front (parent_after k) (child_after k ∷ others)),
    )
    move k others takes (ToSend c n) = (after_send k ∷ others, _ ∷ parcels, Sends k others (after_send k ∷ others) c _ (_ ∷ parcels) takes n (send_form k c n).parcel (in_front (after_send k) others) (in_front _ parcels))
    move k others takes (ToReceive c n found) = (
      after_receive k found.parcel ∷ others,
      found.rest,
      Receives k others (after_receive k found.parcel ∷ others) found.parcel found.rest takes found.takes
          (record {
            program = (of_run.complete.parcels_of_run found.parcel (taken_in parcels found.parcel found.rest found.takes)).0 ∙ sym (of_run.complete.tasks_of_run k (taken_in tasks k others takes)).0;
            limit = (of_run.complete.parcels_of_run found.parcel (taken_in parcels found.parcel found.rest found.takes)).1 ∙ sym (of_run.complete.tasks_of_run k (taken_in tasks k others takes)).1;
            waits = n ∙ ap (λ d. Some (nexts.Recv d)) (sym found.on);
          }) (in_front (after_receive k found.parcel) others),
    )
    move k others takes (ToFinish n) = (after_finish k ∷ others, parcels, Finishes k others (after_finish k ∷ others) takes n (in_front (after_finish k) others))

    by : AreAtRest tasks parcels ⊎ Chosen parcels tasks → AreAtRest tasks parcels ⊎ ((tasks' : List KnownTask) × (parcels' : List KnownParcel) × Move tasks parcels tasks' parcels')
    by (inl rest) = inl rest
    by (inr chosen) = inr (move chosen.task chosen.others chosen.takes chosen.ready)

-- ---- to the end

finishes_within : (bound : ℕ) (program : Program) (limit : ℕ) (tasks : List KnownTask) (parcels : List KnownParcel) → AreOfRun program limit tasks parcels → left_to_do limit tasks ≤ bound
    → (n : ℕ) × (tasks' : List KnownTask) × (parcels' : List KnownParcel) × Moves n tasks parcels tasks' parcels' × AreDone program limit tasks' parcels'
finishes_within zero program limit tasks parcels of_run less = by (moves_or_rests program limit tasks parcels of_run)
  where
    by : AreAtRest tasks parcels ⊎ ((tasks' : List KnownTask) × (parcels' : List KnownParcel) × Move tasks parcels tasks' parcels')
        → (n : ℕ) × (tasks' : List KnownTask) × (parcels' : List KnownParcel) × Moves n tasks parcels tasks' parcels' × AreDone program limit tasks' parcels'
    by (inl rest) = (0, tasks, parcels, NoMove tasks parcels, record { never = of_run.never; known = of_run.known; complete = of_run.complete; at_rest = rest })
    by (inr (tasks', parcels', move)) = let fewer = moves_end program limit tasks parcels tasks' parcels' of_run move in let bad : ⊥ = omega arith in absurd bad
finishes_within (suc bound) program limit tasks parcels of_run less = by (moves_or_rests program limit tasks parcels of_run) (finishes_within bound program limit)
  where
    by : AreAtRest tasks parcels ⊎ ((tasks' : List KnownTask) × (parcels' : List KnownParcel) × Move tasks parcels tasks' parcels')
        → ((tasks : List KnownTask) (parcels : List KnownParcel) → AreOfRun program limit tasks parcels → left_to_do limit tasks ≤ bound
        → (n : ℕ) × (tasks' : List KnownTask) × (parcels' : List KnownParcel) × Moves n tasks parcels tasks' parcels' × AreDone program limit tasks' parcels')
        → (n : ℕ) × (tasks' : List KnownTask) × (parcels' : List KnownParcel) × Moves n tasks parcels tasks' parcels' × AreDone program limit tasks' parcels'
    by (inl rest) onwards = (0, tasks, parcels, NoMove tasks parcels, record { never = of_run.never; known = of_run.known; complete = of_run.complete; at_rest = rest })
    by (inr (tasks', parcels', move)) onwards =
        let fewer = moves_end program limit tasks parcels tasks' parcels' of_run move in
        let (n, last_tasks, last_parcels, moves, done) = onwards tasks' parcels' (moves_keep program limit tasks parcels tasks' parcels' of_run move) (omega arith) in
        (suc n, last_tasks, last_parcels, Then n tasks parcels tasks' parcels' last_tasks last_parcels move moves, done)

pub finishes_alone : FinishesAlone
finishes_alone program limit tasks parcels of_run = finishes_within (left_to_do limit tasks) program limit tasks parcels of_run (omega arith)

stays_of_run : (program : Program) (limit n : ℕ) (tasks : List KnownTask) (parcels : List KnownParcel) (tasks' : List KnownTask) (parcels' : List KnownParcel) → Moves n tasks parcels tasks' parcels' → AreOfRun program limit tasks parcels → AreOfRun program limit tasks' parcels'
stays_of_run program limit n tasks parcels tasks' parcels' (NoMove ts ps) of_run = of_run
stays_of_run program limit n tasks parcels tasks' parcels' (Then m ts ps next_tasks next_parcels last_tasks last_parcels move moves) of_run =
    stays_of_run program limit m next_tasks next_parcels last_tasks last_parcels moves (moves_keep program limit ts ps next_tasks next_parcels of_run move)

pub rests_at_the_run : RestsAtTheRun
rests_at_the_run program limit n tasks parcels tasks' parcels' of_run moves at_rest C entries gathered =
    let end = stays_of_run program limit n tasks parcels tasks' parcels' moves of_run in
    gathers_the_run program limit tasks' parcels' (record { never = end.never; known = end.known; complete = end.complete; at_rest = at_rest }) C entries gathered

pub moves_count : MovesCount
moves_count program limit n tasks parcels tasks' parcels' of_run moves =
    let end = stays_of_run program limit n tasks parcels tasks' parcels' moves of_run in (
      moves_raise program limit n tasks parcels tasks' parcels' moves of_run,
      times_within limit tasks' (λ k h. let within = (end.known.each_task k h).within in let same_limit = (end.complete.tasks_of_run k h).1 in omega arith),
    )
