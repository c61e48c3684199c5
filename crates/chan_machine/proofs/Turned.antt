-- A turn and a round, as the machine makes them.
use Rattle.std.proofs.Common.{◌≡◌, ◌<◌, ◌≤◌, ℕ, Bool, true, false, cond, not, ◌&&◌, ◌||◌, List, [], ◌∷◌, ◌++◌, append-nil, append_assoc, Some, None, filter, map, refl, sym, ap, subst, ◌∙◌, arith}
use Rattle.std.specs.Option.{option_map}
use Rattle.std.specs.Ordering.{nat_cmp}
use Rattle.std.specs.Cmp.Lexicographic.{slice_cmp}
use Rattle.std.specs.Global.{Vec}
use Rattle.std.specs.BTreeMap.{BTreeMap, Updates}
use Rattle.core_language.specs.Names.{Name, same_name}
use Rattle.core_language.specs.Configurations as core
use Rattle.core_language.specs.Steps.{Event, Fork, Moves, machine_step, after_step}
use Rattle.core_language.specs.Rounds.{event_entries, is_move}
use Rattle.core_language.specs.Rounds as rounds
use Rattle.core_programs.specs.Bodies.{program_of}
use Rattle.machine_rounds.specs.Ready.{IsParked}
use Rattle.machine_rounds.specs.Local.{moves_in, looks_at}
use Rattle.machine_rounds.proofs.Showing.{turn_moved, turn_still, parked_moved}
use Rattle.machine_rounds.proofs.Forking.{within_turn}
use Rattle.chan_machine.specs.declared.runs.Joining.{Joining}
use Rattle.chan_machine.specs.declared.runs.Seat.{Seat}
use Rattle.core_programs.specs.declared.nodes.Parts.{Parts}
use Rattle.machine_rounds.specs.Sets.{has}
use Rattle.machine_rounds.specs.Showing.{ForksWithin, Spreads, alters_by, uses_by}
use Rattle.machine_tasks.specs.Reading.{task_of}
use Rattle.chan_machine.specs.declared.configurations.Config.{Config}
use Rattle.chan_machine.specs.declared.events.Entry.{Entry}
use Rattle.chan_machine.specs.declared.events.Event.{Event as Shown}
use Rattle.chan_machine.specs.declared.events.Event.TheVariants as shown
use Rattle.chan_machine.specs.declared.events.Stepped.{Stepped}
use Rattle.chan_machine.specs.declared.events.Stepped.TheVariants as stepped
use Rattle.chan_machine.specs.declared.runs.Run.{Run}
use Rattle.chan_machine.specs.Reading.{config_of, entry_of, event_of, step_of}
use Rattle.chan_machine.specs.Fits.{ForksAt, is_moved}
use Rattle.chan_machine.specs.Parking.{is_joined, waits}
use Rattle.chan_machine.specs.Turning.{Parked, ParkedBut, SpreadsTo, event_in, run_as, shows_nothing, stands_in}
use Rattle.task_tables.proofs.Reading.{get-tasks_of}
use Rattle.chan_machine.proofs.Parked.{joined-put, same-is, same-self, same-symm}

early : (a b : Bool) → a ≡ true → (a || b) ≡ true
early true b e = refl
early false b e = cc

-- ---- forks

pub forks_at : (program : Parts) (config : Config) (n : ℕ) (p : Name) (rest : List Name) → n < 4294967295 → ForksWithin n (config_of program config).tasks (p ∷ rest) → ForksAt config.tasks p
forks_at program config n p rest less w t found =
    let few : t.forks ≤ n = (w p (task_of program.nodes t) (get-tasks_of program config.tasks p ∙ ap (option_map (task_of program.nodes)) found)).1 (early (same_name p p) (has (slice_cmp nat_cmp) rest p) (same-self p)) in
    omega arith

-- ---- what a step shows

pub no_event : (D : core.Config) (s : Stepped) → event_in s ≡ None → is_move (step_of D s) ≡ false
no_event D (stepped.Moved event) e = cc
no_event D (stepped.Waits c) e = refl
no_event D stepped.Ended e = refl
no_event D stepped.Absent e = refl
no_event D (stepped.Halts why) e = refl
no_event D (stepped.Stuck why) e = refl

pub not_moved : (s : Stepped) → event_in s ≡ None → is_moved s ≡ false
not_moved (stepped.Moved event) e = cc
not_moved (stepped.Waits c) e = refl
not_moved stepped.Ended e = refl
not_moved stepped.Absent e = refl
not_moved (stepped.Halts why) e = refl
not_moved (stepped.Stuck why) e = refl

pub an_event : (D : core.Config) (s : Stepped) (event : Shown) → event_in s ≡ Some event → step_of D s ≡ Moves D (event_of event)
an_event D (stepped.Moved other) event e = let same_event : other ≡ event = cc in ap (λ x. Moves D (event_of x)) same_event
an_event D (stepped.Waits c) event e = cc
an_event D stepped.Ended event e = cc
an_event D stepped.Absent event e = cc
an_event D (stepped.Halts why) event e = cc
an_event D (stepped.Stuck why) event e = cc

module _ (es : List Entry) (t : ℕ) (p : Name) where
  one_entry : (e : Shown) → shows_nothing e ≡ false → entry_of (record { time = t; name = p; event = e }) ∷ [] ≡ event_entries t p (event_of e)
  one_entry shown.Silent n = cc
  one_entry (shown.Fork c) n = refl
  one_entry (shown.Send c) n = refl
  one_entry (shown.Recv c) n = refl
  one_entry (shown.Print z) n = refl
  one_entry shown.End n = refl

  no_entry : (e : Shown) → shows_nothing e ≡ true → [] ≡ event_entries t p (event_of e)
  no_entry shown.Silent n = refl
  no_entry (shown.Fork c) n = cc
  no_entry (shown.Send c) n = cc
  no_entry (shown.Recv c) n = cc
  no_entry (shown.Print z) n = cc
  no_entry shown.End n = cc

  last_read : (es : List Entry) (x : Entry) → map entry_of (es ++ x ∷ []) ≡ map entry_of es ++ entry_of x ∷ []
  last_read [] x = refl
  last_read (e ∷ es) x = ap (λ zs. entry_of e ∷ zs) (last_read es x)

  pub noted : (new : List Entry) (e : Shown) → new ≡ es ++ record { time = t; name = p; event = e } ∷ [] → shows_nothing e ≡ false → map entry_of new ≡ map entry_of es ++ event_entries t p (event_of e)
  noted new e is n = ap (map entry_of) is ∙ last_read es (record { time = t; name = p; event = e }) ∙ ap (λ zs. map entry_of es ++ zs) (one_entry e n)

  pub not_noted : (e : Shown) → shows_nothing e ≡ true → map entry_of es ≡ map entry_of es ++ event_entries t p (event_of e)
  not_noted e n = sym (append-nil (map entry_of es)) ∙ ap (λ zs. map entry_of es ++ zs) (no_entry e n)

-- ---- who stands in the queue after a step

either : (a b c : Bool) → c ≡ true → (a || (b || c)) ≡ true
either true b c h = refl
either false true c h = refl
either false false c h = h

grows : (a b c : Bool) → (a || b) ≡ true → (a || (b || c)) ≡ true
grows true b c h = refl
grows false true c h = refl
grows false false c h = cc

module _ (p : Name) (movers : List Name) (mover : has (slice_cmp nat_cmp) movers p ≡ true) where
  abbrev pub live : BTreeMap Name ℕ → Name → Bool
  live joined q = has (slice_cmp nat_cmp) movers q || is_joined joined q

  itself : (joined : BTreeMap Name ℕ) (q : Name) → same_name q p ≡ true → live joined q ≡ true
  itself joined q h = early (has (slice_cmp nat_cmp) movers q) (is_joined joined q) (ap (has (slice_cmp nat_cmp) movers) (same-is q p h) ∙ mover)

  pub spreads_alone : (e : Event) (joined : BTreeMap Name ℕ) (m : BTreeMap Name (Vec Seat)) → ((q : Name) → alters_by p e q ≡ same_name q p) → ((c : Name) → uses_by e c ≡ false)
      → Spreads p e (live joined) (live joined) (waits m) (waits m)
  spreads_alone e joined m alters uses = record {
    more = λ q h. h;
    altered = λ q h. itself joined q (sym (alters q) ∙ h);
    woken = λ c q t w. let both = sym t ∙ uses c in let bad : ⊥ = cc in absurd bad;
    kept = λ c q t w. w;
  }

  module _ (before later : BTreeMap Name ℕ) (m n : BTreeMap Name (Vec Seat)) (channel : Name)
      (out : (c q : Name) → waits n c q ≡ (waits m c q && not (same_name c channel))) (woke : (q : Name) → is_joined later q ≡ (is_joined before q || waits m channel q)) where
    stays : (a b : Bool) → a ≡ true → b ≡ false → (a && not b) ≡ true
    stays true false e f = refl
    stays true true e f = sym f
    stays false b e f = e

    now : (q : Name) → (has (slice_cmp nat_cmp) movers q || (is_joined before q || waits m channel q)) ≡ true → live later q ≡ true
    now q h = ap (λ b. has (slice_cmp nat_cmp) movers q || b) (woke q) ∙ h

    more_live : (q : Name) → live before q ≡ true → live later q ≡ true
    more_live q h = now q (grows (has (slice_cmp nat_cmp) movers q) (is_joined before q) (waits m channel q) h)

    woken_live : (c q : Name) → same_name c channel ≡ true → waits m c q ≡ true → live later q ≡ true
    woken_live c q t w = now q (either (has (slice_cmp nat_cmp) movers q) (is_joined before q) (waits m channel q) (ap (λ x. waits m x q) (sym (same-is c channel t)) ∙ w))

    pub spreads_at : (e : Event) → ((q : Name) → alters_by p e q ≡ same_name q p) → ((c : Name) → uses_by e c ≡ same_name c channel) → Spreads p e (live before) (live later) (waits m) (waits n)
    spreads_at e alters uses = record {
      more = more_live;
      altered = λ q h. itself later q (sym (alters q) ∙ h);
      woken = λ c q t w. woken_live c q (sym (uses c) ∙ t) w;
      kept = λ c q t w. out c q ∙ stays (waits m c q) (same_name c channel) w (sym (uses c) ∙ t);
    }

    pub spreads_fork : (first : BTreeMap Name ℕ) (child : Name) (number : ℕ) → child ≡ channel → Updates (slice_cmp nat_cmp) first before child (Some number)
        → Spreads p (Fork channel) (live first) (live later) (waits m) (waits n)
    spreads_fork first child number is put = record {
      more = λ q h. more_live q (on q h);
      altered = λ q h. altered_live q (same_name q channel) refl h;
      woken = woken_live;
      kept = λ c q t w. out c q ∙ stays (waits m c q) (same_name c channel) w t;
    }
      where
        put_on : (a b c : Bool) → (a || b) ≡ true → (a || cond c true b) ≡ true
        put_on true b c h = refl
        put_on false b true h = refl
        put_on false b false h = h

        put_here : (a b c : Bool) → c ≡ true → (a || cond c true b) ≡ true
        put_here true b c h = refl
        put_here false b true h = refl
        put_here false b false h = cc

        on : (q : Name) → live first q ≡ true → live before q ≡ true
        on q h = ap (λ b. has (slice_cmp nat_cmp) movers q || b) (joined-put first before child number put q)
            ∙ put_on (has (slice_cmp nat_cmp) movers q) (is_joined first q) (same_name child q) h

        altered_live : (q : Name) (b : Bool) → same_name q channel ≡ b → (b || same_name q p) ≡ true → live later q ≡ true
        altered_live q true e h = more_live q (ap (λ b. has (slice_cmp nat_cmp) movers q || b) (joined-put first before child number put q)
            ∙ put_here (has (slice_cmp nat_cmp) movers q) (is_joined first q) (same_name child q) (same-symm child q ∙ ap (same_name q) is ∙ e))
        altered_live q false e h = itself later q h

-- ---- looks

pub sift_step : (test : Name → Bool) (x : Name) (ms next xs all : List Name) → next ≡ ms ++ filter test (x ∷ []) → ms ++ filter test (x ∷ xs) ≡ all → next ++ filter test xs ≡ all
sift_step test x ms next xs all is h = ap (λ zs. zs ++ filter test xs) is ∙ by (test x) ∙ h
  where
    by : (b : Bool) → (ms ++ cond b (x ∷ []) []) ++ filter test xs ≡ ms ++ cond b (x ∷ filter test xs) (filter test xs)
    by true = append_assoc ms (x ∷ []) (filter test xs)
    by false = ap (λ zs. zs ++ filter test xs) (append-nil ms)

pub sift_begins : (program : Parts) (run : Run) (ready movers : List Name) (waiting : BTreeMap Name (Vec Seat)) → movers ≡ [] → Parked program run (has (slice_cmp nat_cmp) ready) waiting
    → Parked program run (λ q. has (slice_cmp nat_cmp) ready q || has (slice_cmp nat_cmp) movers q) waiting
sift_begins program run ready movers waiting none parked q dead = parked q (by (has (slice_cmp nat_cmp) ready q) (has (slice_cmp nat_cmp) movers q) dead)
  where
    by : (a b : Bool) → (a || b) ≡ false → a ≡ false
    by true b e = e
    by false b e = refl

pub one_mover : (test : Name → Bool) (x : Name) (ms next : List Name) → next ≡ ms ++ x ∷ [] → test x ≡ true → next ≡ ms ++ filter test (x ∷ [])
one_mover test x ms next is e = is ∙ ap (λ b. ms ++ cond b (x ∷ []) []) (sym e)

pub no_mover : (test : Name → Bool) (x : Name) (ms : List Name) → test x ≡ false → ms ≡ ms ++ filter test (x ∷ [])
no_mover test x ms e = sym (append-nil ms) ∙ ap (λ b. ms ++ cond b (x ∷ []) []) (sym e)

-- ---- a turn

abbrev pub made : core.Config → List rounds.Entry → rounds.Run
made D es = record { config = D; entries = es }

module _ (program : Parts) (time : ℕ) (run : Run) (p : Name) (D : core.Config) (s : Stepped) (is : machine_step (program_of program) (config_of program run.config) p ≡ step_of D s) where
  pub forks_still : event_in s ≡ None → D ≡ config_of program run.config → (n : ℕ) (rest : List Name) → has (slice_cmp nat_cmp) rest p ≡ false
      → ForksWithin n (config_of program run.config).tasks (p ∷ rest) → ForksWithin n D.tasks rest
  forks_still none kept n rest off w = subst (λ (E : core.Config). ForksWithin n E.tasks rest) (sym kept)
      (subst (λ (E : core.Config). ForksWithin n E.tasks rest) (sym (ap (λ (r : rounds.Run). r.config) (turn_still (program_of program) time (run_as program run) p (step_of D s) is (no_event D s none))))
      (within_turn n p rest off (program_of program) (config_of program run.config) w))

  pub forks_moved : (event : Shown) → event_in s ≡ Some event → (n : ℕ) (rest : List Name) → has (slice_cmp nat_cmp) rest p ≡ false
      → ForksWithin n (config_of program run.config).tasks (p ∷ rest) → ForksWithin n D.tasks rest
  forks_moved event some n rest off w = subst (λ x. ForksWithin n (after_step (config_of program run.config) x).tasks rest) (is ∙ an_event D s event some)
      (within_turn n p rest off (program_of program) (config_of program run.config) w)

  abbrev ParkedAt : rounds.Run → List Name → Joining → Type 0
  ParkedAt next movers queue = IsParked (moves_in (program_of program)) (looks_at (program_of program)) next (stands_in movers queue) (waits queue.waiting)

  pub still_parked : D ≡ config_of program run.config → (movers : List Name) (queue : Joining) → ParkedBut program run movers queue → ParkedAt (made D (map entry_of run.entries)) movers queue
  still_parked kept movers queue parked = subst (λ (r : rounds.Run). ParkedAt r movers queue) (ap (λ E. made E (map entry_of run.entries)) (sym kept)) parked

  pub moved_parked : (event : Shown) → event_in s ≡ Some event → (es : List rounds.Entry) → es ≡ map entry_of run.entries ++ event_entries time p (event_of event) → (movers : List Name)
      → has (slice_cmp nat_cmp) movers p ≡ true → (queue later : Joining) → SpreadsTo (event_of event) queue later → ParkedBut program run movers queue → ParkedAt (made D es) movers later
  moved_parked event some es noted movers mover queue later spreads parked =
      let moved = is ∙ an_event D s event some in
      parked_moved (program_of program) time (run_as program run) (made D es) p [] D (event_of event) (stands_in movers queue) (stands_in movers later) (waits queue.waiting) (waits later.waiting) moved
      (turn_moved (program_of program) time (run_as program run) p D (event_of event) es moved noted) (spreads p movers mover)
      (λ q dead. parked q (last (has (slice_cmp nat_cmp) (p ∷ []) q) (stands_in movers queue q) dead))
    where
      last : (a b : Bool) → (a || b) ≡ false → b ≡ false
      last true b e = cc
      last false b e = e
