-- The names in a map, in order.
use Rattle.std.proofs.Common.{◌≡◌, not, filter, reverse, cond, Bool, true, false, ◌&&◌, Some, List, [], ◌∷◌, map, T, Ordering, Less, Equal, Greater, refl, ap, sym, ◌∙◌}
use Rattle.std.proofs.lemmas.List.{reverse-reverse}
use Rattle.std.specs.Ordering.{nat_cmp, is_eq, is_lt}
use Rattle.std.specs.Cmp.Lexicographic.{slice_cmp, nat_list_cmp_total}
use Rattle.std.proofs.lemmas.Cmp.{eq_by_cmp_equiv}
use Rattle.std.specs.FinMap.{entries, entries_sorted, find, get, get-entries, keys, is_sorted}
use Rattle.std.specs.FinMap.Entries.{below_all}
use Rattle.std.specs.List.{AllByRecursion}
use Rattle.std.specs.List.Sorted.{IsStrictlySortedBy}
use Rattle.std.specs.BTreeMap.{BTreeMap}
use Rattle.core_language.specs.Names.{Name, NameMap}
use Rattle.core_programs.specs.declared.nodes.Parts.{Parts}
use Rattle.machine_rounds.proofs.Rounded.{same-self}
use Rattle.task_tables.specs.Tables.{goes_on, tasks_of}
use Rattle.task_tables.proofs.Reading.{entries-tasks_of}
use Rattle.core_language.specs.Configurations as core
use Rattle.core_language.specs.Endings.{is_ended, is_nil, unended}
use Rattle.core_programs.specs.declared.nodes.Node.{Node}
use Rattle.machine_tasks.specs.declared.tasks.Frame.{Frame}
use Rattle.machine_tasks.specs.declared.tasks.Task.{Task}
use Rattle.machine_tasks.specs.Reading.{place_from, task_of}
use Rattle.chan_machine.specs.Reading.{map_of, read_entry}
use Rattle.chan_machine.proofs.Maps.{entries-in_order}

both : (a b : Bool) → T a → T b → T (a && b)
both true b x y = y
both false b x y = absurd x

is_below : (o : Ordering) → o ≡ Less → T (is_lt o)
is_below Less e = tt
is_below Equal e = let bad : ⊥ = cc in absurd bad
is_below Greater e = let bad : ⊥ = cc in absurd bad

abbrev pub names_in : {X : Type 0} → List (Name × X) → List Name
names_in es = map (λ e. e.0) es

module _ {X Y : Type 0} (f : X → Y) where
  below_read : (x : Name) (es : List (Name × X)) → AllByRecursion (λ y. slice_cmp nat_cmp x y ≡ Less) (map (λ e. e.0) es) → T (below_all (slice_cmp nat_cmp) x (map (read_entry f) es))
  below_read x [] h = tt
  below_read x (e ∷ es) h = both (is_lt (slice_cmp nat_cmp x e.0)) (below_all (slice_cmp nat_cmp) x (map (read_entry f) es)) (is_below (slice_cmp nat_cmp x e.0) h.0) (below_read x es h.1)

  sorted_read : (es : List (Name × X)) → IsStrictlySortedBy (slice_cmp nat_cmp) (map (λ e. e.0) es) → T (is_sorted (slice_cmp nat_cmp) (map (read_entry f) es))
  unfolding IsStrictlySortedBy
  sorted_read [] h = tt
  sorted_read (e ∷ es) h = both (below_all (slice_cmp nat_cmp) e.0 (map (read_entry f) es)) (is_sorted (slice_cmp nat_cmp) (map (read_entry f) es)) (below_read e.0 es h.0) (sorted_read es h.1)

  same_names : (es : List (Name × X)) → map (λ e. e.0) (map (read_entry f) es) ≡ map (λ e. e.0) es
  same_names [] = refl
  same_names (e ∷ es) = ap (λ ns. e.0 ∷ ns) (same_names es)

  -- the entries of a map that is read
  pub entries_read : (m : BTreeMap Name X) → IsStrictlySortedBy (slice_cmp nat_cmp) (map (λ e. e.0) m.entries) → entries (map_of f m) ≡ map (read_entry f) m.entries
  entries_read m h = entries-in_order (map (read_entry f) m.entries) (sorted_read m.entries h)

  pub keys_read : (m : BTreeMap Name X) → IsStrictlySortedBy (slice_cmp nat_cmp) (map (λ e. e.0) m.entries) → map (λ e. e.0) m.entries ≡ keys (map_of f m)
  keys_read m h = sym (ap (λ (es : List (Name × Y)). map (λ e. e.0) es) (entries_read m h) ∙ same_names m.entries)

-- ---- tasks that have not ended

first : (a b : Bool) → T (a && b) → T a
first true b h = tt
first false b h = absurd h

second : (a b : Bool) → T (a && b) → T b
second true b h = h
second false b h = absurd h

not_equal : (o : Ordering) → T (is_lt o) → is_eq o ≡ false
not_equal Less h = refl
not_equal Equal h = absurd h
not_equal Greater h = absurd h

abbrev AreIn : List (Name × Task) → List (Name × Task) → Type 0
AreIn all es = AllByRecursion (λ e. find (slice_cmp nat_cmp) e.0 all ≡ Some e.1) es

found_behind : (d : Name × Task) (all es : List (Name × Task)) → T (below_all (slice_cmp nat_cmp) d.0 es) → AreIn all es → AreIn (d ∷ all) es
found_behind d all [] below found = tt
found_behind d all (e ∷ es) below found = (
  ap (λ b. cond b (Some d.1) (find (slice_cmp nat_cmp) e.0 all)) ((eq_by_cmp_equiv nat_list_cmp_total).symm e.0 d.0
      ∙ not_equal (slice_cmp nat_cmp d.0 e.0) (first (is_lt (slice_cmp nat_cmp d.0 e.0)) (below_all (slice_cmp nat_cmp) d.0 es) below)) ∙ found.0,
  found_behind d all es (second (is_lt (slice_cmp nat_cmp d.0 e.0)) (below_all (slice_cmp nat_cmp) d.0 es) below) found.1,
)

all_found : (es : List (Name × Task)) → T (is_sorted (slice_cmp nat_cmp) es) → AreIn es es
all_found [] sorted = tt
all_found (e ∷ es) sorted = (
  ap (λ b. cond b (Some e.1) (find (slice_cmp nat_cmp) e.0 es)) (same-self e.0),
  found_behind e es es (first (below_all (slice_cmp nat_cmp) e.0 es) (is_sorted (slice_cmp nat_cmp) es) sorted)
      (all_found es (second (below_all (slice_cmp nat_cmp) e.0 es) (is_sorted (slice_cmp nat_cmp) es) sorted)),
)

nil_reversed : (fs : List Frame) → is_nil (reverse fs) ≡ is_nil fs
nil_reversed fs = by fs (reverse fs) (reverse-reverse fs) refl
  where
    by : (gs hs : List Frame) → reverse hs ≡ gs → reverse gs ≡ hs → is_nil hs ≡ is_nil gs
    by [] [] e f = refl
    by [] (h ∷ hs) e f = cc
    by (g ∷ gs) [] e f = cc
    by (g ∷ gs) (h ∷ hs) e f = refl

ended_from : (nodes : List Node) (fs : List Frame) → is_ended (place_from nodes fs) ≡ is_nil fs
ended_from nodes [] = refl
ended_from nodes (f ∷ fs) = refl

module _ (program : Parts) (m : NameMap Task) where
  abbrev read : Name × Task → Name × core.Task
  read e = (e.0, task_of program.nodes e.1)

  unended_among : (es : List (Name × Task)) → AreIn (entries m) es
      → filter (λ p. goes_on (get m p)) (map (λ e. e.0) es) ≡ map (λ e. e.0) (filter (λ e. not (is_ended e.1.place)) (map read es))
  unended_among [] found = refl
  unended_among (e ∷ es) found =
      ap (λ b. cond b (e.0 ∷ mine) mine) (ap goes_on (get-entries m e.0 ∙ found.0)) ∙ by (not (is_nil e.1.frames.items)) (unended_among es found.1)
      ∙ sym (ap (λ b. map (λ d. d.0) (cond (not b) (read e ∷ its) its)) (ended_from program.nodes (reverse e.1.frames.items) ∙ nil_reversed e.1.frames.items))
    where
      mine : List Name
      mine = filter (λ p. goes_on (get m p)) (map (λ d. d.0) es)

      its : List (Name × core.Task)
      its = filter (λ d. not (is_ended d.1.place)) (map read es)

      by : (b : Bool) → mine ≡ map (λ d. d.0) its → cond b (e.0 ∷ mine) mine ≡ map (λ d. d.0) (cond b (read e ∷ its) its)
      by true h = ap (λ ns. e.0 ∷ ns) h
      by false h = h

  pub unended_is : (C : core.Config) → C.tasks ≡ tasks_of program m → filter (λ p. goes_on (get m p)) (keys m) ≡ unended C
  unended_is C reads =
      unended_among (entries m) (all_found (entries m) (entries_sorted m))
      ∙ ap (λ (es : List (Name × core.Task)). map (λ e. e.0) (filter (λ e. not (is_ended e.1.place)) es)) (sym (entries-tasks_of program m) ∙ sym (ap entries reads))
