-- A map of tasks that is read as the core language has it: what is found in it, put into it, and its names in order.
use Rattle.std.proofs.Common.{◌≡◌, Bool, true, false, cond, ◌&&◌, List, [], ◌∷◌, map, Option, Some, T, refl, ap, sym, subst, ◌∙◌}
use Rattle.std.specs.Option.{option_map}
use Rattle.std.specs.Ordering.{nat_cmp, is_lt}
use Rattle.std.specs.Cmp.Lexicographic.{slice_cmp, nat_list_cmp_total}
use Rattle.std.specs.FinMap.{entries, entries_sorted, entries-from_sorted, from_entries, from_sorted, find, get, get-entries, get-from_entries, get-from_sorted, get-insert, insert, is_sorted, keys, same_map, slice_cmp-IsAntisymmetric, nat_cmp-IsAntisymmetric}
use Rattle.std.specs.FinMap.Entries.{below_all}
use Rattle.core_language.specs.Names.{Name, NameMap, same_name}
use Rattle.core_language.specs.Configurations as core
use Rattle.core_programs.specs.declared.nodes.Parts.{Parts}
use Rattle.machine_rounds.proofs.Rounded.{same-is}
use Rattle.machine_tasks.specs.declared.tasks.Task.{Task}
use Rattle.machine_tasks.specs.Reading.{task_of}
use Rattle.task_tables.specs.Tables.{tasks_of}

find-read : {X Y : Type 0} (f : X → Y) (q : Name) (es : List (Name × X)) → find (slice_cmp nat_cmp) q (map (λ e. (e.0, f e.1)) es) ≡ option_map f (find (slice_cmp nat_cmp) q es)
find-read f q [] = refl
find-read {X} {Y} f q (e ∷ es) = by (same_name q e.0) _ _ (find-read f q es)
  where
    by : (b : Bool) (y : Option Y) (x : Option X) → y ≡ option_map f x → cond b (Some (f e.1)) y ≡ option_map f (cond b (Some e.1) x)
    by true y x h = refl
    by false y x h = h

-- the map with what is there already put once more
pub put_again : {X : Type 0} (m : NameMap X) (p : Name) (x : X) → get m p ≡ Some x → insert m p x ≡ m
put_again {X} m p x there = same_map nat_list_cmp_total (slice_cmp-IsAntisymmetric nat_cmp-IsAntisymmetric) _ _ (λ q. get-insert nat_list_cmp_total m p x q ∙ by q (same_name q p) refl)
  where
    by : (q : Name) (b : Bool) → same_name q p ≡ b → cond b (Some x) (get m q) ≡ get m q
    by q true e = sym there ∙ ap (get m) (sym (same-is q p e))
    by q false e = refl

-- what holds of the one that is put, and held of those before, holds of each
pub holds_put : {X : Type 0} (P : Name → X → Type 0) (m : NameMap X) (p : Name) (x : X) → P p x → ((q : Name) (y : X) → get m q ≡ Some y → P q y)
    → (q : Name) (y : X) → get (insert m p x) q ≡ Some y → P q y
holds_put P m p x here there q y found = by (same_name q p) refl (sym (get-insert nat_list_cmp_total m p x q) ∙ found)
  where
    by : (b : Bool) → same_name q p ≡ b → cond b (Some x) (get m q) ≡ Some y → P q y
    by true e is = let same : x ≡ y = cc in subst (P q) same (subst (λ r. P r x) (sym (same-is q p e)) here)
    by false e is = there q y is

module _ (program : Parts) where
  abbrev read : Name × Task → Name × core.Task
  read e = (e.0, task_of program.nodes e.1)

  pub get-tasks_of : (m : NameMap Task) (q : Name) → get (tasks_of program m) q ≡ option_map (task_of program.nodes) (get m q)
  get-tasks_of m q = get-from_entries nat_list_cmp_total (map read (entries m)) q ∙ find-read (task_of program.nodes) q (entries m)
      ∙ ap (option_map (task_of program.nodes)) (sym (get-entries m q))

  pub insert-tasks_of : (m : NameMap Task) (p : Name) (t : Task) → tasks_of program (insert m p t) ≡ insert (tasks_of program m) p (task_of program.nodes t)
  insert-tasks_of m p t = same_map nat_list_cmp_total (slice_cmp-IsAntisymmetric nat_cmp-IsAntisymmetric) _ _ (λ q.
      get-tasks_of (insert m p t) q ∙ ap (option_map (task_of program.nodes)) (get-insert nat_list_cmp_total m p t q) ∙ by q (same_name q p)
      ∙ sym (get-insert nat_list_cmp_total (tasks_of program m) p (task_of program.nodes t) q))
    where
      by : (q : Name) (b : Bool) → option_map (task_of program.nodes) (cond b (Some t) (get m q)) ≡ cond b (Some (task_of program.nodes t)) (get (tasks_of program m) q)
      by q true = refl
      by q false = sym (get-tasks_of m q)

  below-read : (p : Name) (es : List (Name × Task)) → below_all (slice_cmp nat_cmp) p (map read es) ≡ below_all (slice_cmp nat_cmp) p es
  below-read p [] = refl
  below-read p (e ∷ es) = ap (λ b. is_lt (slice_cmp nat_cmp p e.0) && b) (below-read p es)

  sorted-read : (es : List (Name × Task)) → is_sorted (slice_cmp nat_cmp) (map read es) ≡ is_sorted (slice_cmp nat_cmp) es
  sorted-read [] = refl
  sorted-read (e ∷ es) = ap (λ b. b && is_sorted (slice_cmp nat_cmp) (map read es)) (below-read e.0 es) ∙ ap (λ b. below_all (slice_cmp nat_cmp) e.0 es && b) (sorted-read es)

  in_order : (es : List (Name × core.Task)) → T (is_sorted (slice_cmp nat_cmp) es) → entries (from_entries {R = slice_cmp nat_cmp} es) ≡ es
  in_order es sorted =
      ap entries (same_map nat_list_cmp_total (slice_cmp-IsAntisymmetric nat_cmp-IsAntisymmetric) (from_entries es) (from_sorted es)
      (λ q. get-from_entries nat_list_cmp_total es q ∙ sym (get-from_sorted (slice_cmp nat_cmp) es q sorted)))
      ∙ entries-from_sorted (slice_cmp nat_cmp) es sorted

  pub entries-tasks_of : (m : NameMap Task) → entries (tasks_of program m) ≡ map read (entries m)
  entries-tasks_of m = in_order (map read (entries m)) (subst T (sym (sorted-read (entries m))) (entries_sorted m))

  names-read : (es : List (Name × Task)) → map (λ e. e.0) (map read es) ≡ map (λ e. e.0) es
  names-read [] = refl
  names-read (e ∷ es) = ap (λ ns. e.0 ∷ ns) (names-read es)

  pub keys-tasks_of : (m : NameMap Task) → keys m ≡ keys (tasks_of program m)
  keys-tasks_of m = sym (ap (λ (es : List (Name × core.Task)). map (λ e. e.0) es) (entries-tasks_of m) ∙ names-read (entries m))
