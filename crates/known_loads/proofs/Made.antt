-- A state after a step, from its parts.
use Rattle.std.proofs.Common.{◌≡◌, ◌⊎◌, ℕ, suc, ◌+◌, ◌≤◌, ◌<◌, max, List, [], ◌∷◌, ◌++◌, map, flat_map, Option, Some, None, inl, inr, ⊎_elim, refl, sym, ap, subst, ◌∙◌, arith, append_assoc, append-nil, nat_lt, true, false, lt-ltb, le-ltb}
use Rattle.std.proofs.lemmas.List.{map-append}
use Rattle.core_language.specs.Names.{Name}
use Rattle.core_language.specs.Configurations.{Place}
use Rattle.core_language.specs.Configurations as configuration
use Rattle.core_language.specs.Computing.{machine}
use Rattle.core_language.specs.Acts.{act_of}
use Rattle.core_language.specs.Steps.{Event}
use Rattle.core_language.specs.Rounds.{event_entries}
use Rattle.core_programs.specs.declared.nodes.Parts.{Parts}
use Rattle.core_programs.specs.Bodies.{program_of}
use Rattle.cell_rules.specs.Lists.{In}
use Rattle.cell_rules.proofs.Totals.{In-append, In-left, In-right}
use Rattle.machine_tasks.specs.declared.tasks.Task.{Task}
use Rattle.machine_tasks.specs.Reading.{IsTask, act_in}
use Rattle.machine_tasks.specs.Steps.{IsUnmoved, place_in}
use Rattle.machine_values.specs.Reading.{value_as}
use Rattle.machine_tasks.proofs.Unmoved.{unmoved_place, unmoved_fits}
use Rattle.known_tasks.specs.Known.{KnownTask, IsKnown}
use Rattle.known_tasks.specs.Nexts.{Next, Spent, next, next_by}
use Rattle.known_tasks.specs.Calls.{moved}
use Rattle.known_tasks.proofs.Calls.{unspent}
use Rattle.known_loads.specs.declared.notes.Deed.{Deed}
use Rattle.known_loads.specs.declared.notes.Note.{Note}
use Rattle.known_loads.specs.declared.states.Late.{Late}
use Rattle.known_loads.specs.declared.states.State.{State}
use Rattle.known_loads.specs.Ends.{task_ends}
use Rattle.known_loads.specs.Following.{News, Adds, Follows, IsMade, IsUnchanged, no_news}
use Rattle.known_loads.specs.Holding.{AreSmall, Holds}
use Rattle.known_loads.specs.Meaning.{forked_by, sent_by, received_by, noted, late_channel, forks, sends, receives, mentions}
use Rattle.known_loads.specs.Reading.{entry_of, known_of, late_value}
use Rattle.known_loads.proofs.Ends.{unmoved_ends}

-- ---- lists

abbrev Pairs : Type 0
Pairs = List (ℕ × Name)

pub appended : (xs ys zs : Pairs) → zs ≡ xs ++ ys → Adds xs ys zs
appended xs ys zs same e h = ⊎_elim (λ a. inr a) (λ b. inl b) (In-append e xs ys (subst (λ (l : Pairs). In e l) same h))

pub noted_append : (reads : Deed → Pairs) (xs ys : List Note) → noted reads (xs ++ ys) ≡ noted reads xs ++ noted reads ys
noted_append reads [] ys = refl
noted_append reads (x ∷ xs) ys = ap (λ l. reads x.deed ++ l) (noted_append reads xs ys) ∙ sym (append_assoc (reads x.deed) (noted reads xs) (noted reads ys))

-- ---- what is told, where notes are added

abbrev pub news_of : Pairs → List Note → News
news_of ends added = record { ends = ends; forked = noted forked_by added; sent = noted sent_by added; received = noted received_by added }

pub follows : (old new : State) (ends : Pairs) (added : List Note) → new.cell ≡ old.cell → new.task.name ≡ old.task.name → new.limit ≡ old.limit → Adds (task_ends old.task) ends (task_ends new.task)
    → new.notes.items ≡ old.notes.items ++ added → new.late ≡ old.late → Follows old new (news_of ends added)
follows old new ends added cell name limit adds notes late = record {
  cell = cell;
  name = name;
  limit = limit;
  ends = adds;
  forked = appended (forks old) (noted forked_by added) (forks new) (all forked_by);
  sent = appended (sends old) (noted sent_by added) (sends new) (all sent_by);
  received = λ e h. ⊎_elim
      (λ a. ⊎_elim (λ b. inr (In-left e (noted received_by old.notes.items) (late_channel old.late) b)) (λ b. inl b)
      (In-append e (noted received_by old.notes.items) (noted received_by added) (subst (λ (l : Pairs). In e l) (all received_by) a)))
      (λ a. inr (In-right e (noted received_by old.notes.items) (late_channel old.late) (subst (λ l. In e (late_channel l)) late a)))
      (In-append e (noted received_by new.notes.items) (late_channel new.late) h);
  keeps = λ e h. ⊎_elim
      (λ a. In-left e (noted received_by new.notes.items) (late_channel new.late)
      (subst (λ (l : Pairs). In e l) (sym (all received_by)) (In-left e (noted received_by old.notes.items) (noted received_by added) a)))
      (λ a. In-right e (noted received_by new.notes.items) (late_channel new.late) (subst (λ l. In e (late_channel l)) (sym late) a))
      (In-append e (noted received_by old.notes.items) (late_channel old.late) h);
  tells = λ e h. In-left e (noted received_by new.notes.items) (late_channel new.late)
      (subst (λ (l : Pairs). In e l) (sym (all received_by)) (In-right e (noted received_by old.notes.items) (noted received_by added) h));
}
  where
    all : (reads : Deed → Pairs) → noted reads new.notes.items ≡ noted reads old.notes.items ++ noted reads added
    all reads = ap (noted reads) notes ∙ noted_append reads old.notes.items added

-- ---- the known task, where notes are added

pub same_task : (s t : configuration.Task) → s.place ≡ t.place → s.forks ≡ t.forks → s ≡ t
same_task s t places counts = λ i. record { place = places i; forks = counts i }

pub same_known : (k l : KnownTask) → k.program ≡ l.program → k.limit ≡ l.limit → k.name ≡ l.name → k.time ≡ l.time → k.state ≡ l.state → k.entries ≡ l.entries → k.late ≡ l.late → k ≡ l
same_known k l programs limits names times states entries lates =
    λ i. record { program = programs i; limit = limits i; name = names i; time = times i; state = states i; entries = entries i; late = lates i }

pub moved_is : (program : Parts) (old new : State) (place : Place) (count round : ℕ) (event : Event) (added : List Note) → new.limit ≡ old.limit → new.time ≡ round
    → IsTask program new.task old.task.name count place → new.notes.items ≡ old.notes.items ++ added → map (entry_of old.task.name) added ≡ event_entries round old.task.name event → new.late ≡ old.late
    → known_of (program, new) ≡ moved (known_of (program, old)) round place count event
moved_is program old new place count round event added limit time is notes reads late = same_known _ _ refl limit is.name_is time
    (same_task _ _ is.place_is is.forks_are)
    (ap (λ name. map (entry_of name) new.notes.items) is.name_is ∙ ap (map (entry_of old.task.name)) notes ∙ map-append (entry_of old.task.name) old.notes.items added
    ∙ ap (λ l. map (entry_of old.task.name) old.notes.items ++ l) reads)
    (ap (λ l. late_value l) late)

pub made : (program : Parts) (old new : State) (place : Place) (count round : ℕ) (event : Event) (ends : Pairs) (added : List Note) → new.limit ≡ old.limit → new.cell ≡ old.cell → new.time ≡ round
    → IsTask program new.task old.task.name count place → new.notes.items ≡ old.notes.items ++ added → map (entry_of old.task.name) added ≡ event_entries round old.task.name event → new.late ≡ old.late
    → Adds (task_ends old.task) ends (task_ends new.task) → count ≤ round → old.late ≡ None → IsMade program old new (moved (known_of (program, old)) round place count event) (news_of ends added)
made program old new place count round event ends added limit cell time is notes reads late adds few none = record {
  is = moved_is program old new place count round event added limit time is notes reads late;
  fits = is.fits;
  forks = let count_is = is.forks_are in omega (arith, few, count_is, time);
  late = λ l some. let both = sym none ∙ sym late ∙ some in let bad : ⊥ = cc in absurd bad;
  follows = follows old new ends added cell is.name_is limit adds notes late;
}

pub made_as : (program : Parts) (old new : State) (k l : KnownTask) (news : News) → k ≡ l → IsMade program old new k news → IsMade program old new l news
made_as program old new k l news same is = subst (λ (z : KnownTask). IsMade program old new z news) same is

-- ---- a state that holds what its type asks

-- before the limit, with this act
pub before : (program : Parts) (s : State) (n : Next) → Holds (program, s) → next (known_of (program, s)) ≡ Some n → (Spent ≡ n → ⊥) → (s.time < s.limit) × (next_by (act_in program s.task) ≡ Some n)
before program s n holds is other =
    let (early, by_act) = unspent (known_of (program, s)) n is other in
    let within = holds.known.within in
    (omega (arith, early, within), by_act)

-- nothing is kept before the limit
pub nothing_late : (program : Parts) (s : State) → Holds (program, s) → s.time < s.limit → s.late ≡ None
nothing_late program s holds early = by s.late refl
  where
    by : (o : Option Late) → s.late ≡ o → s.late ≡ None
    by None is = is
    by (Some l) is = let at_limit = (holds.known.keeps (value_as l.value) (ap (λ o. late_value o) is)).at_limit in absurd (omega (arith, early, at_limit))

in_1 : (e : ℕ × Name) (a b c d : Pairs) → In e a → In e (a ++ (b ++ (c ++ d)))
in_1 e a b c d h = In-left e a (b ++ (c ++ d)) h

in_2 : (e : ℕ × Name) (a b c d : Pairs) → In e b → In e (a ++ (b ++ (c ++ d)))
in_2 e a b c d h = In-right e a (b ++ (c ++ d)) (In-left e b (c ++ d) h)

in_3 : (e : ℕ × Name) (a b c d : Pairs) → In e c → In e (a ++ (b ++ (c ++ d)))
in_3 e a b c d h = In-right e a (b ++ (c ++ d)) (In-right e b (c ++ d) (In-left e c d h))

in_4 : (e : ℕ × Name) (a b c d : Pairs) → In e d → In e (a ++ (b ++ (c ++ d)))
in_4 e a b c d h = In-right e a (b ++ (c ++ d)) (In-right e b (c ++ d) (In-right e c d h))

pub by_four : {X : Type 0} (e : ℕ × Name) (a b c d : Pairs) → (In e a → X) → (In e b → X) → (In e c → X) → (In e d → X) → In e (a ++ (b ++ (c ++ d))) → X
by_four e a b c d f g h k i = ⊎_elim f (λ j. ⊎_elim g (λ l. ⊎_elim h k (In-append e c d l)) (In-append e b (c ++ d) j)) (In-append e a (b ++ (c ++ d)) i)

abbrev pub all_news : News → Pairs
all_news news = news.ends ++ (news.forked ++ (news.sent ++ news.received))

pub more_mentions : (old new : State) (news : News) → Follows old new news → Adds (mentions old) (all_news news) (mentions new)
more_mentions old new news f e h = ⊎_elim
    (λ own. inr (inl (own ∙ λ i. ((f.cell i).0, f.name i))))
    (by_four e (task_ends new.task) (forks new) (sends new) (receives new)
    (λ a. ⊎_elim (λ x. inl (in_1 e news.ends news.forked news.sent news.received x)) (λ y. inr (inr (in_1 e (task_ends old.task) (forks old) (sends old) (receives old) y))) (f.ends e a))
    (λ a. ⊎_elim (λ x. inl (in_2 e news.ends news.forked news.sent news.received x)) (λ y. inr (inr (in_2 e (task_ends old.task) (forks old) (sends old) (receives old) y))) (f.forked e a))
    (λ a. ⊎_elim (λ x. inl (in_3 e news.ends news.forked news.sent news.received x)) (λ y. inr (inr (in_3 e (task_ends old.task) (forks old) (sends old) (receives old) y))) (f.sent e a))
    (λ a. ⊎_elim (λ x. inl (in_4 e news.ends news.forked news.sent news.received x)) (λ y. inr (inr (in_4 e (task_ends old.task) (forks old) (sends old) (receives old) y))) (f.received e a))) h

pub still_holds : (program : Parts) (old new : State) (k : KnownTask) (news : News) → Holds (program, old) → IsMade program old new k news → IsKnown k → AreSmall (all_news news) → Holds (program, new)
still_holds program old new k news holds is known small = record {
  never = holds.never;
  known = subst IsKnown (sym is.is) known;
  fits = is.fits;
  forks = is.forks;
  limit = subst (λ n. n ≤ 1000000000) (sym is.follows.limit) holds.limit;
  late = is.late;
  small = λ e h. ⊎_elim (small e) (holds.small e) (more_mentions old new news is.follows e h);
}

-- ---- a state that is unchanged

-- the same act
pub same_act : (program : Parts) (s t : Task) → t.name ≡ s.name → t.forks ≡ s.forks → place_in program t ≡ place_in program s → act_in program t ≡ act_in program s
same_act program s t name count place = λ i. act_of machine (program_of program) (name i) (count i) (place i)

pub act_still : (program : Parts) (s t : Task) → IsUnmoved s t → act_in program t ≡ act_in program s
act_still program s t u = same_act program s t u.name_is u.forks_are (unmoved_place program s t u)

pub unchanged_follows : (old new : State) → IsUnchanged old new → Follows old new no_news
unchanged_follows old new u = follows old new [] [] u.cell u.task.name_is u.limit (λ e h. inr (unmoved_ends old.task new.task u.task e h)) (u.notes ∙ sym (append-nil old.notes.items)) u.late

pub unchanged_made : (program : Parts) (old new : State) → Holds (program, old) → IsUnchanged old new → IsMade program old new (known_of (program, old)) no_news
unchanged_made program old new holds u = record {
  is = same_known _ _ refl u.limit u.task.name_is u.time (same_task _ _ (unmoved_place program old.task new.task u.task) u.task.forks_are)
      (ap (λ name. map (entry_of name) new.notes.items) u.task.name_is ∙ ap (map (entry_of old.task.name)) u.notes) (ap (λ l. late_value l) u.late);
  fits = unmoved_fits program old.task new.task u.task holds.fits;
  forks = let few = holds.forks in let count = u.task.forks_are in let time = u.time in omega (arith, few, count, time);
  late = λ l some. let w = holds.late l (sym u.late ∙ some) in (w.0, act_still program old.task new.task u.task ∙ w.1);
  follows = unchanged_follows old new u;
}

pub unchanged_holds : (program : Parts) (old new : State) → Holds (program, old) → IsUnchanged old new → Holds (program, new)
unchanged_holds program old new holds u = still_holds program old new (known_of (program, old)) no_news holds (unchanged_made program old new holds u) holds.known (λ e h. absurd h)

pub unchanged_same : (old mid new : State) → IsUnchanged old mid → IsUnchanged mid new → IsUnchanged old new
unchanged_same old mid new u v = record {
  limit = v.limit ∙ u.limit;
  cell = v.cell ∙ u.cell;
  time = v.time ∙ u.time;
  task = record { name_is = v.task.name_is ∙ u.task.name_is; forks_are = v.task.forks_are ∙ u.task.forks_are; frames_are = v.task.frames_are ∙ u.task.frames_are };
  notes = v.notes ∙ u.notes;
  late = v.late ∙ u.late;
}

-- what follows an unchanged state follows the state
pub follows_through : (old mid new : State) (news : News) → IsUnchanged old mid → Follows mid new news → Follows old new news
follows_through old mid new news u f =
    let g = unchanged_follows old mid u in record {
      cell = f.cell ∙ u.cell;
      name = f.name ∙ u.task.name_is;
      limit = f.limit ∙ u.limit;
      ends = λ e h. ⊎_elim (λ x. inl x) (λ y. inr (only (g.ends e y))) (f.ends e h);
      forked = λ e h. ⊎_elim (λ x. inl x) (λ y. inr (only (g.forked e y))) (f.forked e h);
      sent = λ e h. ⊎_elim (λ x. inl x) (λ y. inr (only (g.sent e y))) (f.sent e h);
      received = λ e h. ⊎_elim (λ x. inl x) (λ y. inr (only (g.received e y))) (f.received e h);
      keeps = λ e h. f.keeps e (g.keeps e h);
      tells = f.tells;
    }
  where
    only : {A : Type 0} → ⊥ ⊎ A → A
    only s = ⊎_elim (λ b. absurd b) (λ a. a) s

pub made_through : (program : Parts) (old mid new : State) (what : KnownTask → KnownTask) (news : News) → Holds (program, old) → IsUnchanged old mid → IsMade program mid new (what (known_of (program, mid))) news
    → IsMade program old new (what (known_of (program, old))) news
made_through program old mid new what news holds u is = record {
  is = is.is ∙ ap what (unchanged_made program old mid holds u).is;
  fits = is.fits;
  forks = is.forks;
  late = is.late;
  follows = follows_through old mid new news u is.follows;
}

-- the next step is the same
pub next_still : (program : Parts) (old mid : State) → Holds (program, old) → IsUnchanged old mid → next (known_of (program, mid)) ≡ next (known_of (program, old))
next_still program old mid holds u = ap next (unchanged_made program old mid holds u).is

pub lt_is : (a b : ℕ) → a < b → nat_lt a b ≡ true
lt_is a b lt = lt-ltb a b lt

pub not_lt_is : (a b : ℕ) → b ≤ a → nat_lt a b ≡ false
not_lt_is a b le = le-ltb a b le
