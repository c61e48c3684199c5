-- A round over the ready tasks is the round, and where none is ready no round changes anything.
use Rattle.std.proofs.Common.{◌≡◌, ◌≤◌, ℕ, zero, suc, ◌+◌, Bool, true, false, cond, ◌&&◌, ◌||◌, List, [], ◌∷◌, ◌++◌, Option, Some, None, is_some, map, T, Ordering, Less, Equal, Greater, refl, ap, sym, subst, ◌∙◌, filter, arith}
use Rattle.std.specs.Ordering.{nat_cmp, is_lt}
use Rattle.std.specs.Cmp.Lexicographic.{slice_cmp, nat_list_cmp_total}
use Rattle.std.specs.FinMap.{FinMap, get, insert, empty, keys, entries, entries_sorted, is_sorted, contains_key-keys, get-insert, get-empty}
use Rattle.std.specs.FinMap.Entries.{below_all}
use Rattle.std.specs.List.{AllByRecursion}
use Rattle.std.specs.List.Sorted.{IsStrictlySortedBy}
use Rattle.std.proofs.lemmas.Map.Lookups.{exact_bytes}
use Rattle.std.proofs.lemmas.Map.Views.{any-filter_same}
use Rattle.core_language.specs.Names.{Name, NameMap, same_name}
use Rattle.core_language.specs.Programs.{Program, main_function}
use Rattle.core_language.specs.Computing.{machine}
use Rattle.core_language.specs.Configurations.{Config, Task, start, started}
use Rattle.core_language.specs.Steps.{step_at}
use Rattle.core_language.specs.Rounds.{Run, is_move, moves, movers, turn, turns, round, run_of}
use Rattle.machine_rounds.specs.Ready.{IsParked}
use Rattle.machine_rounds.specs.Ready as generic
use Rattle.machine_rounds.specs.Local.{act_at, moves_in, looks_at}
use Rattle.machine_rounds.specs.Local as local
use Rattle.machine_rounds.specs.Sets.{has}
use Rattle.machine_rounds.proofs.Local.{local_turns}
use Rattle.machine_rounds.proofs.Round.{round_ready}
use Rattle.machine_rounds.proofs.Sorted.{equal_from}
use Rattle.machine_rounds.specs.Showing.{ForksWithin, ForksUpTo}
use Rattle.std.proofs.lemmas.Cmp.{eq_by_cmp_equiv}
use Rattle.core_language.specs.Acts.{channel_in}

pub same-is : (a b : Name) → same_name a b ≡ true → a ≡ b
same-is a b e = exact_bytes a b (equal_from (slice_cmp nat_cmp a b) e)

pub same-self : (a : Name) → same_name a a ≡ true
same-self = (eq_by_cmp_equiv nat_list_cmp_total).refl

-- ---- ascending names

first : (a b : Bool) → T (a && b) → T a
first true b h = tt
first false b h = absurd h

second : (a b : Bool) → T (a && b) → T b
second true b h = h
second false b h = absurd h

is_less : (o : Ordering) → T (is_lt o) → o ≡ Less
is_less Less h = refl
is_less Equal h = absurd h
is_less Greater h = absurd h

below : {X : Type 0} (x : Name) (es : List (Name × X)) → T (below_all (slice_cmp nat_cmp) x es) → AllByRecursion (λ y. slice_cmp nat_cmp x y ≡ Less) (map (λ e. e.0) es)
below x [] h = tt
below x (e ∷ es) h = (is_less (slice_cmp nat_cmp x e.0) (first (is_lt (slice_cmp nat_cmp x e.0)) (below_all (slice_cmp nat_cmp) x es) h), below x es (second (is_lt (slice_cmp nat_cmp x e.0)) (below_all (slice_cmp nat_cmp) x es) h))

pub keys_ascend : {X : Type 0} (es : List (Name × X)) → T (is_sorted (slice_cmp nat_cmp) es) → IsStrictlySortedBy (slice_cmp nat_cmp) (map (λ e. e.0) es)
unfolding IsStrictlySortedBy
keys_ascend [] h = tt
keys_ascend (e ∷ es) h = (below e.0 es (first (below_all (slice_cmp nat_cmp) e.0 es) (is_sorted (slice_cmp nat_cmp) es) h), keys_ascend es (second (below_all (slice_cmp nat_cmp) e.0 es) (is_sorted (slice_cmp nat_cmp) es) h))

not_below : (p : Name) (rest : List Name) → AllByRecursion (λ y. slice_cmp nat_cmp p y ≡ Less) rest → has (slice_cmp nat_cmp) rest p ≡ false
not_below p [] h = refl
not_below p (q ∷ rest) h = both (same_name p q) (has (slice_cmp nat_cmp) rest p) (off (slice_cmp nat_cmp p q) refl) (not_below p rest h.1)
  where
    both : (a b : Bool) → a ≡ false → b ≡ false → (a || b) ≡ false
    both true b e f = e
    both false b e f = f

    off : (o : Ordering) → slice_cmp nat_cmp p q ≡ o → same_name p q ≡ false
    off Less e = ap is_equal e
      where
        is_equal : Ordering → Bool
        is_equal Less = false
        is_equal Equal = true
        is_equal Greater = false
    off Equal e = let both = sym h.0 ∙ e in cc
    off Greater e = let both = sym h.0 ∙ e in cc

pub first_is_least : (p : Name) (rest : List Name) → IsStrictlySortedBy (slice_cmp nat_cmp) (p ∷ rest) → has (slice_cmp nat_cmp) rest p ≡ false
unfolding IsStrictlySortedBy
first_is_least p rest h = not_below p rest h.0

pub rest_ascends : (p : Name) (rest : List Name) → IsStrictlySortedBy (slice_cmp nat_cmp) (p ∷ rest) → IsStrictlySortedBy (slice_cmp nat_cmp) rest
unfolding IsStrictlySortedBy
rest_ascends p rest h = h.1

-- ---- rounds

module _ (program : Program) (time : ℕ) where
  same_turns : (run : Run) (ps : List Name) → generic.turns (moves_in program) (turn program time) run ps ≡ turns program time run ps
  same_turns run [] = refl
  same_turns run (p ∷ ps) = same_turns (turn program time run p) ps

  not_there : (run : Run) (q : Name) → has (slice_cmp nat_cmp) (keys run.config.tasks) q ≡ false → moves_in program run q ≡ false
  not_there run q e = by (get run.config.tasks q) (contains_key-keys run.config.tasks q ∙ e)
    where
      by : (o : Option Task) → is_some o ≡ false → is_move (step_at machine program run.config q o) ≡ false
      by None h = refl
      by (Some t) h = cc

  pub round_is : (run : Run) (ready : List Name) (waits : Name → Name → Bool) → IsStrictlySortedBy (slice_cmp nat_cmp) ready → IsParked (moves_in program) (looks_at program) run (has (slice_cmp nat_cmp) ready) waits
      → turns program time run (filter (moves program run.config) ready) ≡ round program time run
  round_is run ready waits sorted parked = sym (same_turns run (filter (moves program run.config) ready))
      ∙ round_ready (slice_cmp nat_cmp) nat_list_cmp_total exact_bytes (moves_in program) (turn program time) (λ r. keys r.config.tasks) (looks_at program) (local.changes program) (local.touches program)
      (local_turns program time) (λ o c. true) (λ c. refl) run ready waits parked sorted (keys_ascend (entries run.config.tasks) (entries_sorted run.config.tasks)) (not_there run)
      ∙ same_turns run (movers program run.config)

-- where none is ready, a round changes nothing
pub still_round : (program : Program) (time : ℕ) (run : Run) (live : Name → Bool) (waits : Name → Name → Bool) → ((q : Name) → live q ≡ false) → IsParked (moves_in program) (looks_at program) run live waits → round program time run ≡ run
unfolding IsStrictlySortedBy
still_round program time run live waits none parked = sym (round_is program time run [] waits ascends (λ q dead. parked q (none q)))
  where
    ascends : IsStrictlySortedBy (slice_cmp nat_cmp) []
    ascends = tt

pub still_from : (program : Program) (d t u : ℕ) → u ≡ d + t → ((time : ℕ) → round program time (run_of program t) ≡ run_of program t) → run_of program u ≡ run_of program t
unfolding run_of
still_from program zero t u e h = let is : u ≡ t = omega arith in ap (run_of program) is
still_from program (suc d) t zero e h = let bad : ⊥ = omega arith in absurd bad
still_from program (suc d) t (suc u) e h =
    let less : u ≡ d + t = omega arith in
    ap (round program (suc u)) (still_from program d t u less h) ∙ h (suc u)

-- ---- the start

abbrev nothing : NameMap Task
nothing = empty

pub start_parked : (program : Program) (run : Run) (live : Name → Bool) (waits : Name → Name → Bool) → run.config ≡ start program → ((q : Name) → live q ≡ false → same_name q [] ≡ false)
    → IsParked (moves_in program) (looks_at program) run live waits
start_parked program run live waits is only q dead = (
  ap (λ C. is_move (step_at machine program C q (get C.tasks q))) is ∙ ap (λ o. is_move (step_at machine program (start program) q o)) none,
  λ c e. let both = sym (ap (λ (C : Config). channel_in (act_at program q (get C.tasks q))) is ∙ ap (λ o. channel_in (act_at program q o)) none) ∙ e in cc,
)
  where
    none : get (start program).tasks q ≡ None
    none = get-insert nat_list_cmp_total nothing [] (record { place = started (main_function program); forks = 0 }) q
        ∙ ap (λ b. cond b (Some (record { place = started (main_function program); forks = 0 })) (get nothing q)) (only q dead) ∙ get-empty (slice_cmp nat_cmp) q

pub start_forks : (program : Program) (C : Config) → C ≡ start program → ForksUpTo 0 C.tasks
start_forks program C is = subst (λ (D : Config). ForksUpTo 0 D.tasks) (sym is) at_start
  where
    first_task : Task
    first_task = record { place = started (main_function program); forks = 0 }

    at_start : ForksUpTo 0 (start program).tasks
    at_start q t got = by (same_name q []) (sym (get-insert nat_list_cmp_total nothing [] first_task q) ∙ got)
      where
        by : (b : Bool) → cond b (Some first_task) (get nothing q) ≡ Some t → t.forks ≤ 0
        by true e = let is_first : first_task ≡ t = cc in subst (λ (v : Task). v.forks ≤ 0) is_first (omega arith)
        by false e = let both = sym (get-empty (slice_cmp nat_cmp) q) ∙ e in let bad : ⊥ = cc in absurd bad

-- ---- forks

pub forks_before : (n : ℕ) (tasks : NameMap Task) (rest : List Name) → ForksUpTo n tasks → ForksWithin n tasks rest
forks_before n tasks rest up q t got = let few : t.forks ≤ n = up q t got in (omega arith, λ h. few)

pub forks_after : (n : ℕ) (tasks : NameMap Task) → ForksWithin n tasks [] → ForksUpTo (suc n) tasks
forks_after n tasks within q t got = (within q t got).0
