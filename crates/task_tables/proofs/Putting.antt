-- A table in which one task was written, and what is read there.
use Rattle.std.proofs.Common.{◌≡◌, ◌<◌, ℕ, cond, List, length, get_or, Some, None, refl, ap, sym, subst, ◌∙◌}
use Rattle.std.specs.Prelude.{slice_set}
use Rattle.std.specs.List.{slice_get}
use Rattle.std.specs.Option.{option_map}
use Rattle.std.specs.Ordering.{nat_cmp}
use Rattle.std.specs.Cmp.Lexicographic.{slice_cmp, nat_list_cmp_total}
use Rattle.std.specs.BTreeMap.{BTreeMap}
use Rattle.std.specs.FinMap.{from_entries, get, get-insert, insert}
use Rattle.std.proofs.lemmas.Option.{slice_get_read}
use Rattle.core_language.specs.Names.{Name, NameMap}
use Rattle.core_language.specs.Configurations.{Place}
use Rattle.core_language.specs.Configurations as core
use Rattle.core_programs.specs.declared.nodes.Parts.{Parts}
use Rattle.machine_rounds.proofs.Rounded.{same-self}
use Rattle.machine_values.specs.Cells.{EndTest}
use Rattle.machine_tasks.specs.declared.tasks.Task.{Task}
use Rattle.machine_tasks.specs.Ends.{TaskPasses}
use Rattle.machine_tasks.specs.Fits.{FramesFit}
use Rattle.machine_tasks.specs.Moving.{HasRoom}
use Rattle.machine_tasks.specs.Reading.{IsTask, place_of, task_of}
use Rattle.machine_tasks.specs.Steps.{IsUnmoved}
use Rattle.machine_tasks.proofs.Unmoved.{unmoved_fits, unmoved_passes, unmoved_place}
use Rattle.task_tables.specs.Ends.{TasksPass}
use Rattle.task_tables.specs.Fits.{ForksAt, RoomAt, TasksFit}
use Rattle.task_tables.specs.Numbered.{IsTable, rows_of}
use Rattle.task_tables.specs.Tables.{AreUnmoved, MovesTo, tasks_of}
use Rattle.task_tables.proofs.Indexed.{differ, index_absent, index_row, index_within, number_in}
use Rattle.task_tables.proofs.Rows.{row_set}
use Rattle.task_tables.proofs.Reading.{get-tasks_of, holds_put, insert-tasks_of, put_again}

abbrev made : Place → ℕ → core.Task
made place forks = record { place = place; forks = forks }

-- what the fields of a table say of the map that it is, at a name with its number
module _ (names : List Name) (tasks : List Task) (numbers : BTreeMap Name ℕ) (is : IsTable names tasks numbers) (m : NameMap Task)
    (view : from_entries {R = slice_cmp nat_cmp} (rows_of names tasks) ≡ m) (p : Name) where
  pub inside : (k : ℕ) → Some k ≡ number_in numbers p → k < length tasks
  inside k at = index_within names numbers is.numbered tasks p k is.as_many (sym at)

  pub found_there : (k : ℕ) → Some k ≡ number_in numbers p → (t : Task) → slice_get tasks k ≡ Some t → get m p ≡ Some t
  found_there k at t row = ap (λ x. get x p) (sym view) ∙ index_row names numbers is.numbered tasks p k t (sym at) row

  pub nothing_there : None ≡ number_in numbers p → get m p ≡ None
  nothing_there none = ap (λ x. get x p) (sym view) ∙ index_absent names numbers is.numbered tasks p (sym none)

  pub put_there : (k : ℕ) → Some k ≡ number_in numbers p → (new : Task) → from_entries {R = slice_cmp nat_cmp} (rows_of names (slice_set tasks k new)) ≡ insert m p new
  put_there k at new = row_set names tasks k p new (differ names numbers is.numbered) (is.numbered.stands p k (sym at)) is.as_many ∙ ap (λ x. insert x p new) view

  -- the task at the number is the one with the name, and another one written there is put under the name
  pub written : (k : ℕ) → Some k ≡ number_in numbers p → (old new : Task) → old ≡ get_or tasks k old
      → (get m p ≡ Some old) × (from_entries {R = slice_cmp nat_cmp} (rows_of names (slice_set tasks k new)) ≡ insert m p new)
  written k at old new read = (
    found_there k at old (slice_get_read tasks (length tasks) k old refl (inside k at) read),
    put_there k at new,
  )

-- one task is found under a name
pub one_task : (m : NameMap Task) (p : Name) (t u : Task) → get m p ≡ Some t → get m p ≡ Some u → t ≡ u
one_task m p t u one two = let both = sym one ∙ two in cc

module _ (m n : NameMap Task) (p : Name) (new : Task) (put : n ≡ insert m p new) where
  pub got_put : get n p ≡ Some new
  got_put = ap (λ x. get x p) put ∙ get-insert nat_list_cmp_total m p new p ∙ ap (λ b. cond b (Some new) (get m p)) (same-self p)

  pub placed : (program : Parts) (place : Place) (forks : ℕ) → place_of program.nodes new.frames.items ≡ place → new.forks ≡ forks → MovesTo program m n p place forks
  placed program place forks stands made_them =
      ap (tasks_of program) put ∙ insert-tasks_of program m p new
      ∙ ap (insert (tasks_of program m) p) (ap (λ x. made x new.forks) stands ∙ ap (made place) made_them)

  pub fits_put : (program : Parts) → TasksFit program m → new.name ≡ p → FramesFit program.nodes new.frames.items → TasksFit program n
  fits_put program fit named frames = subst (TasksFit program) (sym put)
      (holds_put (λ q (t : Task). (t.name ≡ q) × FramesFit program.nodes t.frames.items) m p new (named, frames) fit)

  pub passes_put : (test : EndTest) → TasksPass test m → TaskPasses test new → TasksPass test n
  passes_put test pass one = subst (TasksPass test) (sym put) (holds_put (λ q (t : Task). TaskPasses test t) m p new one pass)

module _ (m n : NameMap Task) (p : Name) (old new : Task) (there : get m p ≡ Some old) (put : n ≡ insert m p new) where
  -- the task stands where a function of the old one says
  pub goes : (program : Parts) (place : Task → Place) (forks : Task → ℕ) → IsTask program new old.name (forks old) (place old)
      → (t : Task) → get m p ≡ Some t → MovesTo program m n p (place t) (forks t)
  goes program place forks is t found = subst (λ x. MovesTo program m n p (place x) (forks x)) (one_task m p old t there found) (placed m n p new put program (place old) (forks old) is.place_is is.forks_are)

  pub fits_on : (program : Parts) (forks : ℕ) (place : Place) → TasksFit program m → IsTask program new old.name forks place → TasksFit program n
  fits_on program forks place fit is = fits_put m n p new put program fit (is.name_is ∙ (fit p old there).0) is.fits

  pub passes_on : (test : EndTest) → TasksPass test m → (TaskPasses test old → TaskPasses test new) → TasksPass test n
  passes_on test pass keeps = passes_put m n p new put test pass (keeps (pass p old there))

  module _ (same : IsUnmoved old new) where
    pub stays : (program : Parts) → AreUnmoved program m n
    stays program = placed m n p new put program (place_of program.nodes old.frames.items) old.forks (unmoved_place program old new same) same.forks_are
        ∙ put_again (tasks_of program m) p (task_of program.nodes old) (get-tasks_of program m p ∙ ap (option_map (task_of program.nodes)) there)

    pub fits_still : (program : Parts) → TasksFit program m → TasksFit program n
    fits_still program fit = fits_put m n p new put program fit (same.name_is ∙ (fit p old there).0) (unmoved_fits program old new same (fit p old there).1)

    pub passes_still : (test : EndTest) → TasksPass test m → TasksPass test n
    passes_still test pass = passes_on test pass (unmoved_passes test old new same)

    pub forks_still : ForksAt m p → ForksAt n p
    forks_still few t found = subst (λ k. k < 4294967295) (sym same.forks_are ∙ ap (λ (x : Task). x.forks) (new_there t found)) (few old there)
      where
        new_there : (t : Task) → get n p ≡ Some t → new ≡ t
        new_there t found = let both = sym (got_put m n p new put) ∙ found in cc

  pub has_room : HasRoom new.frames.items 1 → RoomAt n p
  has_room room t found = let both = sym (got_put m n p new put) ∙ found in let one : new ≡ t = cc in subst (λ (x : Task). HasRoom x.frames.items 1) one room
