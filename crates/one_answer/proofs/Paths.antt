-- Schedules and rounds as paths of moves.
use Rattle.std.proofs.Common.{◌≡◌, ◌≢◌, ℕ, zero, suc, ◌+◌, ◌≤◌, ℤ, Bool, true, false, cond, if◌then◌else◌, not, ◌||◌, List, [], ◌∷◌, ◌++◌, length, length-append, append-nil, append_assoc, filter, map, Option, Some, None, is_some, refl, ap, sym, subst, ◌∙◌, ◌⊎◌, inl, inr, arith}
use Rattle.std.specs.List.{flat_map}
use Rattle.std.specs.FinMap.{get, keys}
use Rattle.core_language.specs.Names.{Name, same_name}
use Rattle.core_language.specs.Programs.{Program}
use Rattle.core_language.specs.Values.{Value}
use Rattle.core_language.specs.Computing.{machine, unbounded}
use Rattle.core_language.specs.Configurations.{Config, Place, Task}
use Rattle.core_language.specs.Acts.{Act, act_of}
use Rattle.core_language.specs.Acts as act
use Rattle.core_language.specs.Steps.{Event, Silent, Fork, Send, Recv, Print, End, Step, Moves, Waits, IsEnded, IsAbsent, IsHalted, IsStuck, effect, sent, received, step, step_at, step_within, machine_step, after_step}
use Rattle.core_language.specs.Schedules.{steps_from}
use Rattle.core_language.specs.Rounds.{is_move, moves, movers, Entry, event_entries, step_entries, Run, turn, turns, round, run_of, printed, prints_of}
use Rattle.core_language.proofs.Halting.{halts_or_steps}
use Rattle.orders.specs.Paths.{Path, Final, own}
use Rattle.graphs.proofs.Live.{has}
use Rattle.moved_uses.proofs.Bags.{name-is, name-self}
use Rattle.good_orders.specs.Changes.{State, state_of, config_of, moved_to, step_state}
use Rattle.good_orders.proofs.Changing.{step-changes, none_some}
use Rattle.good_progress.proofs.Keys.{has-keys}
use Rattle.one_answer.specs.Following.{Halts, NoneHalts, moves_along, prints_by, prints_in}

-- what a task prints on a path
abbrev pub printed_by : Name → List (Name × Event) → List ℤ
printed_by p es = flat_map (λ e. printed e.1) (own same_name p es)

flat-append : {X : Type 0} (f : X → List ℤ) (xs ys : List X) → flat_map f (xs ++ ys) ≡ flat_map f xs ++ flat_map f ys
flat-append f [] ys = refl
flat-append f (x ∷ xs) ys = ap (λ z. f x ++ z) (flat-append f xs ys) ∙ sym (append_assoc (f x) (flat_map f xs) (flat_map f ys))

filter-append : {X : Type 0} (t : X → Bool) (xs ys : List X) → filter t (xs ++ ys) ≡ filter t xs ++ filter t ys
filter-append t [] ys = refl
filter-append t (x ∷ xs) ys = go (t x) (filter-append t xs ys)
  where
    go : (b : Bool) → filter t (xs ++ ys) ≡ filter t xs ++ filter t ys → cond b (x ∷ filter t (xs ++ ys)) (filter t (xs ++ ys)) ≡ cond b (x ∷ filter t xs) (filter t xs) ++ filter t ys
    go true h = ap (λ z. x ∷ z) h
    go false h = h

map-append : {X Y : Type 0} (f : X → Y) (xs ys : List X) → map f (xs ++ ys) ≡ map f xs ++ map f ys
map-append f [] ys = refl
map-append f (x ∷ xs) ys = ap (λ z. f x ∷ z) (map-append f xs ys)

pub printed-append : (p : Name) (es fs : List (Name × Event)) → printed_by p (es ++ fs) ≡ printed_by p es ++ printed_by p fs
printed-append p es fs = ap (flat_map (λ e. printed e.1)) (filter-append (λ e. same_name p e.0) es fs) ∙ flat-append (λ e. printed e.1) (own same_name p es) (own same_name p fs)

pub prints_by-append : (p : Name) (xs ys : List (Name × ℤ)) → prints_by p (xs ++ ys) ≡ prints_by p xs ++ prints_by p ys
prints_by-append p xs ys = ap (map (λ e. e.1)) (filter-append (λ e. same_name p e.0) xs ys) ∙ map-append (λ e. e.1) (filter (λ e. same_name p e.0) xs) (filter (λ e. same_name p e.0) ys)

pub prints_in-append : (p : Name) (xs ys : List Entry) → prints_in p (xs ++ ys) ≡ prints_in p xs ++ prints_in p ys
prints_in-append p xs ys = ap prints_of (filter-append (λ e. same_name p e.name) xs ys) ∙ flat-append (λ e. printed e.event) (filter (λ e. same_name p e.name) xs) (filter (λ e. same_name p e.name) ys)

-- one path after another
pub path-join : {S K E : Type 0} (step : S → K → Option (S × E)) (ps qs : List K) (s t u : S) (es fs : List (K × E)) → Path step s ps t es → Path step t qs u fs → Path step s (ps ++ qs) u (es ++ fs)
path-join step [] qs s t u es fs (same, none) path = subst (λ z. Path step s qs u (z ++ fs)) (sym none) (subst (λ z. Path step z qs u fs) same path)
path-join step (p ∷ ps) qs s t u es fs (v, e, gs, h, rest, is) path = (v, e, gs ++ fs, h, path-join step ps qs v t u gs fs rest path, ap (λ z. z ++ fs) is)

-- ---- a move

-- what a step shows, where it moves
pub moved-of : (P : Program) (C : Config) (p : Name) (D : Config) (e : Event) → machine_step P C p ≡ Moves D e → step_state machine P (state_of C) p ≡ Some (state_of D, e)
moved-of P C p D e h = step-changes machine P (config_of (state_of C)) p ∙ sym (step-changes machine P C p) ∙ ap moved_to h

-- where it doesn't move
pub unmoved-of : (P : Program) (C : Config) (p : Name) → is_move (machine_step P C p) ≡ false → step_state machine P (state_of C) p ≡ None
unmoved-of P C p h = step-changes machine P (config_of (state_of C)) p ∙ sym (step-changes machine P C p) ∙ go (machine_step P C p) h
  where
    go : (o : Step) → is_move o ≡ false → moved_to o ≡ None
    go (Moves D e) h = cc
    go (Waits c) h = refl
    go IsEnded h = refl
    go IsAbsent h = refl
    go (IsHalted why) h = refl
    go (IsStuck why) h = refl

-- what a move adds to the prints
abbrev pub print_entries : Name → Event → List (Name × ℤ)
print_entries p (Print z) = (p, z) ∷ []
print_entries p Silent = []
print_entries p (Fork c) = []
print_entries p (Send c) = []
print_entries p (Recv c) = []
print_entries p End = []

PrintsAdd : Config → Name → Step → Type 0
PrintsAdd C p o = (D : Config) (e : Event) → o ≡ Moves D e → D.prints ≡ C.prints ++ print_entries p e

first_of : {C D : Config} {e f : Event} → Moves C e ≡ Moves D f → C ≡ D
first_of h = cc

second_of : {C D : Config} {e f : Event} → Moves C e ≡ Moves D f → e ≡ f
second_of h = cc

adds : (C : Config) (p : Name) (E : Config) (f : Event) → E.prints ≡ C.prints ++ print_entries p f → PrintsAdd C p (Moves E f)
unfolding PrintsAdd
adds C p E f h D e is = ap (λ z. z.prints) (sym (first_of is)) ∙ h ∙ ap (λ z. C.prints ++ print_entries p z) (second_of is)

effect-prints : (C : Config) (p : Name) (k : ℕ) (a : Act) → PrintsAdd C p (effect C p k a)
unfolding PrintsAdd
effect-prints C p k (act.Silent place) = adds C p _ Silent (sym (append-nil (C.prints)))
effect-prints C p k (act.Print z place) = adds C p _ (Print z) refl
effect-prints C p k (act.Fork c parent its) = adds C p _ (Fork c) (sym (append-nil (C.prints)))
effect-prints C p k (act.Send c v place) = go (get (C.channels) c)
  where
    go : (o : Option (Option Value)) (D : Config) (e : Event) → sent C p k c v place o ≡ Moves D e → D.prints ≡ C.prints ++ print_entries p e
    go None D e h = cc
    go (Some None) D e h = adds C p _ (Send c) (sym (append-nil (C.prints))) D e h
    go (Some (Some u)) D e h = cc
effect-prints C p k (act.Recv c place) = go (get (C.channels) c)
  where
    go : (o : Option (Option Value)) (D : Config) (e : Event) → received C p k c place o ≡ Moves D e → D.prints ≡ C.prints ++ print_entries p e
    go None D e h = cc
    go (Some None) D e h = cc
    go (Some (Some v)) D e h = adds C p _ (Recv c) (sym (append-nil (C.prints))) D e h
effect-prints C p k act.End = adds C p _ End (sym (append-nil (C.prints)))
effect-prints C p k act.IsEnded = λ D e h. cc
effect-prints C p k (act.IsHalted why) = λ D e h. cc
effect-prints C p k (act.IsStuck why) = λ D e h. cc

step-prints : (P : Program) (C : Config) (p : Name) (D : Config) (e : Event) → step P C p ≡ Moves D e → D.prints ≡ C.prints ++ print_entries p e
unfolding PrintsAdd
step-prints P C p D e h = go (get (C.tasks) p) h
  where
    go : (o : Option Task) → step_at unbounded P C p o ≡ Moves D e → D.prints ≡ C.prints ++ print_entries p e
    go None h = cc
    go (Some t) h = effect-prints C p (t.forks) (act_of unbounded P p (t.forks) (t.place)) D e h

-- ---- schedules

quiet : (q p : Name) (e : Event) → printed e ≡ [] → [] ≡ printed_by q ((p, e) ∷ [])
quiet q p e h = go (same_name q p)
  where
    go : (b : Bool) → [] ≡ flat_map {X = Name × Event} (λ e. printed e.1) (cond b ((p, e) ∷ []) [])
    go true = rw h refl
    go false = refl

prints-of-one : (q p : Name) (e : Event) → prints_by q (print_entries p e) ≡ printed_by q ((p, e) ∷ [])
prints-of-one q p (Print z) = go (same_name q p)
  where
    go : (b : Bool) → map {A = Name × ℤ} (λ e. e.1) (cond b ((p, z) ∷ []) []) ≡ flat_map {X = Name × Event} (λ e. printed e.1) (cond b ((p, Print z) ∷ []) [])
    go true = refl
    go false = refl
prints-of-one q p Silent = quiet q p Silent refl
prints-of-one q p (Fork c) = quiet q p (Fork c) refl
prints-of-one q p (Send c) = quiet q p (Send c) refl
prints-of-one q p (Recv c) = quiet q p (Recv c) refl
prints-of-one q p End = quiet q p End refl

pub record Followed (P : Program) (C : Config) (ps : List Name) : Type 0 where
  pub names : List Name
  pub events : List (Name × Event)
  pub path : Path (step_state machine P) (state_of C) names (state_of (steps_from P C ps)) events
  pub many : length names ≡ moves_along P C ps
  pub prints : (q : Name) → prints_by q ((steps_from P C ps).prints) ≡ prints_by q (C.prints) ++ printed_by q events

pub followed : (P : Program) (C : Config) (ps : List Name) → NoneHalts P C ps → Followed P C ps
followed P C [] h = record { names = []; events = []; path = (refl, refl); many = refl; prints = λ q. sym (append-nil (prints_by q (C.prints))) }
followed P C (p ∷ ps) (not_halted, h) = go (step P C p) refl (followed P (after_step C (step P C p)) ps h)
  where
    same_step : machine_step P C p ≡ step P C p
    same_step = by (halts_or_steps P C p)
      where
        by : ((why : _) × (machine_step P C p ≡ IsHalted why)) ⊎ (machine_step P C p ≡ step P C p) → machine_step P C p ≡ step P C p
        by (inl (why, is)) = absurd (not_halted (rw is tt))
        by (inr same) = same

    stays : (o : Step) → step P C p ≡ o → after_step C o ≡ C → is_move o ≡ false → Followed P (after_step C (step P C p)) ps → Followed P C (p ∷ ps)
    stays o is same still f = record {
      names = f.names;
      events = f.events;
      path = subst (λ z. Path (step_state machine P) (state_of z) (f.names) (state_of (steps_from P (after_step C (step P C p)) ps)) (f.events)) here (f.path);
      many = omega (arith, f.many, zero);
      prints = λ q. subst (λ z. prints_by q ((steps_from P (after_step C (step P C p)) ps).prints) ≡ prints_by q (z.prints) ++ printed_by q (f.events)) here (f.prints q);
    }
      where
        zero : ◌≡◌ {A = ℕ} (if is_move (step P C p) then 1 else 0) 0
        zero = ap {B = ℕ} (λ z. if is_move z then 1 else 0) is ∙ ap {B = ℕ} (λ b. if b then 1 else 0) still

        here : after_step C (step P C p) ≡ C
        here = ap (after_step C) is ∙ same

    go : (o : Step) → step P C p ≡ o → Followed P (after_step C (step P C p)) ps → Followed P C (p ∷ ps)
    go (Waits c) is f = stays (Waits c) is refl refl f
    go IsEnded is f = stays IsEnded is refl refl f
    go IsAbsent is f = stays IsAbsent is refl refl f
    go (IsHalted why) is f = stays (IsHalted why) is refl refl f
    go (IsStuck why) is f = stays (IsStuck why) is refl refl f
    go (Moves D e) is f = record {
      names = p ∷ f.names;
      events = (p, e) ∷ f.events;
      path = (state_of D, e, f.events, moved-of P C p D e (same_step ∙ is), subst (λ z. Path (step_state machine P) (state_of z) (f.names) (state_of (steps_from P (after_step C (step P C p)) ps)) (f.events)) here (f.path), refl);
      many = omega (arith, f.many, one);
      prints = λ q. f.prints q ∙ ap (λ z. z ++ printed_by q (f.events)) (ap (λ z. prints_by q (z.prints)) here ∙ ap (prints_by q) (step-prints P C p D e is) ∙ prints_by-append q (C.prints) (print_entries p e) ∙ ap (λ z. prints_by q (C.prints) ++ z) (prints-of-one q p e))
          ∙ append_assoc (prints_by q (C.prints)) (printed_by q ((p, e) ∷ [])) (printed_by q (f.events)) ∙ ap (λ z. prints_by q (C.prints) ++ z) (sym (printed-append q ((p, e) ∷ []) (f.events)));
    }
      where
        one : ◌≡◌ {A = ℕ} (if is_move (step P C p) then 1 else 0) 1
        one = ap {B = ℕ} (λ z. if is_move z then 1 else 0) is

        here : after_step C (step P C p) ≡ D
        here = ap (after_step C) is

-- ---- rounds

entries-of-one : (t : ℕ) (q p : Name) (e : Event) → prints_in q (event_entries t p e) ≡ printed_by q ((p, e) ∷ [])
entries-of-one t q p (Print z) = go (same_name q p)
  where
    go : (b : Bool) → prints_of (cond b (record { time = t; name = p; event = Print z } ∷ []) []) ≡ flat_map {X = Name × Event} (λ e. printed e.1) (cond b ((p, Print z) ∷ []) [])
    go true = refl
    go false = refl
entries-of-one t q p Silent = quiet q p Silent refl
entries-of-one t q p (Fork c) = silent (same_name q p)
  where
    silent : (b : Bool) → prints_of (cond b (record { time = t; name = p; event = Fork c } ∷ []) []) ≡ flat_map {X = Name × Event} (λ e. printed e.1) (cond b ((p, Fork c) ∷ []) [])
    silent true = refl
    silent false = refl
entries-of-one t q p (Send c) = silent (same_name q p)
  where
    silent : (b : Bool) → prints_of (cond b (record { time = t; name = p; event = Send c } ∷ []) []) ≡ flat_map {X = Name × Event} (λ e. printed e.1) (cond b ((p, Send c) ∷ []) [])
    silent true = refl
    silent false = refl
entries-of-one t q p (Recv c) = silent (same_name q p)
  where
    silent : (b : Bool) → prints_of (cond b (record { time = t; name = p; event = Recv c } ∷ []) []) ≡ flat_map {X = Name × Event} (λ e. printed e.1) (cond b ((p, Recv c) ∷ []) [])
    silent true = refl
    silent false = refl
entries-of-one t q p End = silent (same_name q p)
  where
    silent : (b : Bool) → prints_of (cond b (record { time = t; name = p; event = End } ∷ []) []) ≡ flat_map {X = Name × Event} (λ e. printed e.1) (cond b ((p, End) ∷ []) [])
    silent true = refl
    silent false = refl

-- some turns as a path
pub record Turned (P : Program) (run after : Run) : Type 0 where
  pub names : List Name
  pub events : List (Name × Event)
  pub path : Path (step_state machine P) (state_of run.config) names (state_of after.config) events
  pub prints : (q : Name) → prints_in q (after.entries) ≡ prints_in q (run.entries) ++ printed_by q events

turned-none : (P : Program) (run : Run) → Turned P run run
turned-none P run = record { names = []; events = []; path = (refl, refl); prints = λ q. sym (append-nil (prints_in q (run.entries))) }

turned-both : (P : Program) (a b c : Run) → Turned P a b → Turned P b c → Turned P a c
turned-both P a b c x y = record {
  names = x.names ++ y.names;
  events = x.events ++ y.events;
  path = path-join (step_state machine P) (x.names) (y.names) (state_of a.config) (state_of b.config) (state_of c.config) (x.events) (y.events) (x.path) (y.path);
  prints = λ q. y.prints q ∙ ap (λ z. z ++ printed_by q (y.events)) (x.prints q) ∙ append_assoc (prints_in q (a.entries)) (printed_by q (x.events)) (printed_by q (y.events)) ∙ ap (λ z. prints_in q (a.entries) ++ z) (sym (printed-append q (x.events) (y.events)));
}

-- a turn is a move, or changes nothing
turn-turned : (P : Program) (t : ℕ) (run : Run) (p : Name) → (x : Turned P run (turn P t run p)) × (is_move (machine_step P (run.config) p) ≡ true → 1 ≤ length (x.names))
turn-turned P t run p = go (machine_step P (run.config) p) refl
  where
    still : (o : Step) → after_step (run.config) o ≡ run.config → step_entries t p o ≡ [] → Turned P run (record { config = after_step (run.config) o; entries = run.entries ++ step_entries t p o })
    still o same none = record { names = []; events = []; path = (ap state_of same, refl); prints = λ q. ap (λ z. prints_in q (run.entries ++ z)) none ∙ ap (prints_in q) (append-nil (run.entries)) ∙ sym (append-nil (prints_in q (run.entries))) }

    go : (o : Step) → machine_step P (run.config) p ≡ o → (x : Turned P run (record { config = after_step (run.config) o; entries = run.entries ++ step_entries t p o })) × (is_move o ≡ true → 1 ≤ length (x.names))
    go (Waits c) is = (still (Waits c) refl refl, λ h. cc)
    go IsEnded is = (still IsEnded refl refl, λ h. cc)
    go IsAbsent is = (still IsAbsent refl refl, λ h. cc)
    go (IsHalted why) is = (still (IsHalted why) refl refl, λ h. cc)
    go (IsStuck why) is = (still (IsStuck why) refl refl, λ h. cc)
    go (Moves D e) is = (record { names = p ∷ []; events = (p, e) ∷ []; path = (state_of D, e, [], moved-of P (run.config) p D e is, (refl, refl), refl); prints = λ q. prints_in-append q (run.entries) (event_entries t p e) ∙ ap (λ z. prints_in q (run.entries) ++ z) (entries-of-one t q p e) }, λ h. omega arith)

turns-turned : (P : Program) (t : ℕ) (run : Run) (ps : List Name) → Turned P run (turns P t run ps)
turns-turned P t run [] = turned-none P run
turns-turned P t run (p ∷ ps) = turned-both P run (turn P t run p) (turns P t (turn P t run p) ps) ((turn-turned P t run p).0) (turns-turned P t (turn P t run p) ps)

-- who moves in a list
filter-first : (f : Name → Bool) (xs : List Name) (p : Name) (ps : List Name) → filter f xs ≡ p ∷ ps → f p ≡ true
filter-first f [] p ps e = cc
filter-first f (x ∷ xs) p ps e = go (f x) refl e (filter-first f xs p ps)
  where
    heads : {a b : Name} {as' bs : List Name} → a ∷ as' ≡ b ∷ bs → a ≡ b
    heads e = cc

    go : (b : Bool) → f x ≡ b → cond b (x ∷ filter f xs) (filter f xs) ≡ p ∷ ps → (filter f xs ≡ p ∷ ps → f p ≡ true) → f p ≡ true
    go true h e ih = ap f (sym (heads e)) ∙ h
    go false h e ih = ih e

pub filter-none : (f : Name → Bool) (xs : List Name) (p : Name) → filter f xs ≡ [] → has same_name xs p ≡ true → f p ≡ false
filter-none f [] p e h = cc
filter-none f (x ∷ xs) p e h = go (f x) refl e (same_name x p) refl h (filter-none f xs p)
  where
    go : (b : Bool) → f x ≡ b → cond b (x ∷ filter f xs) (filter f xs) ≡ [] → (t : Bool) → same_name x p ≡ t → (t || has same_name xs p) ≡ true → (filter f xs ≡ [] → has same_name xs p ≡ true → f p ≡ false) → f p ≡ false
    go true fx e t tx h ih = cc
    go false fx e true tx h ih = ap f (sym (name-is x p tx)) ∙ fx
    go false fx e false tx h ih = ih e h

-- a round moves somebody, or nobody moves at all
round-turned : (P : Program) (t : ℕ) (run : Run) → (x : Turned P run (round P t run)) × ((1 ≤ length (x.names)) ⊎ Final (step_state machine P) (state_of run.config))
unfolding turned-both
round-turned P t run = go (movers P (run.config)) refl
  where
    nobody : movers P (run.config) ≡ [] → Final (step_state machine P) (state_of run.config)
    nobody none p = unmoved-of P (run.config) p (by (get (run.config.tasks) p) refl)
      where
        by : (o : Option Task) → get (run.config.tasks) p ≡ o → is_move (machine_step P (run.config) p) ≡ false
        by None e = ap (λ z. is_move (step_at machine P (run.config) p z)) e
        by (Some task) e = filter-none (moves P (run.config)) (keys (run.config.tasks)) p none (has-keys (run.config.tasks) p ∙ ap is_some e)

    go : (ps : List Name) → movers P (run.config) ≡ ps → (x : Turned P run (turns P t run ps)) × ((1 ≤ length (x.names)) ⊎ Final (step_state machine P) (state_of run.config))
    go [] e = (turned-none P run, inr (nobody e))
    go (p ∷ ps) e = let first = turn-turned P t run p in (turned-both P run (turn P t run p) (turns P t (turn P t run p) ps) (first.0) (turns-turned P t (turn P t run p) ps), inl (longer (first.0.names) ((turns-turned P t (turn P t run p) ps).names) ((first.1) (filter-first (moves P (run.config)) (keys (run.config.tasks)) p ps e))))
      where
        longer : (xs ys : List Name) → 1 ≤ length xs → 1 ≤ length (xs ++ ys)
        longer xs ys h = omega (arith, length-append xs ys, h)

final-path : (P : Program) (s t : State) (qs : List Name) (es : List (Name × Event)) → Final (step_state machine P) s → Path (step_state machine P) s qs t es → t ≡ s
final-path P s t [] es final (same, none) = same
final-path P s t (q ∷ qs) es final (u, e, fs, h, rest, is) = none_some (sym (final q) ∙ h)

-- the run after so many rounds is as many moves at least, or nobody moves any more
pub rounds-turned : (P : Program) (t : ℕ) → (x : Turned P (run_of P 0) (run_of P t)) × ((t ≤ length (x.names)) ⊎ Final (step_state machine P) (state_of (run_of P t).config))
unfolding run_of turned-both
rounds-turned P zero = (turned-none P (run_of P 0), inl (omega arith))
rounds-turned P (suc t) = go (rounds-turned P t) (round-turned P (suc t) (run_of P t))
  where
    go : (x : Turned P (run_of P 0) (run_of P t)) × ((t ≤ length (x.names)) ⊎ Final (step_state machine P) (state_of (run_of P t).config)) → (y : Turned P (run_of P t) (round P (suc t) (run_of P t))) × ((1 ≤ length (y.names)) ⊎ Final (step_state machine P) (state_of (run_of P t).config))
        → (x : Turned P (run_of P 0) (round P (suc t) (run_of P t))) × ((suc t ≤ length (x.names)) ⊎ Final (step_state machine P) (state_of (round P (suc t) (run_of P t)).config))
    go (x, inl le) (y, inl le') = (turned-both P _ (run_of P t) _ x y, inl (omega (arith, le, le', length-append (x.names) (y.names))))
    go (x, inl le) (y, inr final) = (turned-both P _ (run_of P t) _ x y, inr (subst (Final (step_state machine P)) (sym (final-path P _ _ (y.names) (y.events) final (y.path))) final))
    go (x, inr final) (y, either) = (turned-both P _ (run_of P t) _ x y, inr (subst (Final (step_state machine P)) (sym (final-path P _ _ (y.names) (y.events) final (y.path))) final))
