-- What holds after each turn, and so after each round.
use Rattle.std.proofs.Common.{◌≡◌, inl, ℕ, zero, suc, ◌<◌, true, false, List, [], ◌∷◌, ◌++◌, append-nil, Option, is_some, refl, sym, ap, subst, ◌∙◌}
use Rattle.std.specs.FinMap.{get, empty, get-empty}
use Rattle.std.specs.Ordering.{nat_cmp}
use Rattle.std.specs.Cmp.Lexicographic.{slice_cmp}
use Rattle.core_language.specs.Names.{Name, NameMap, child, main}
use Rattle.core_language.specs.Values.{Value}
use Rattle.core_language.specs.Programs.{Program, main_function}
use Rattle.core_language.specs.Computing.{machine}
use Rattle.core_language.specs.Configurations.{Task, start, started}
use Rattle.core_language.specs.Steps.{Step, Moves, Waits, IsEnded, IsAbsent, IsHalted, IsStuck, machine_step, after_step}
use Rattle.core_language.specs.Rounds.{Run, step_entries, turn, turns, run_of, movers}
use Rattle.task_rounds.specs.Reaching.{IsReached}
use Rattle.task_rounds.specs.Telling.{forks_made, IsTold, Tells}
use Rattle.task_rounds.proofs.Names.{by_name}
use Rattle.task_rounds.proofs.Reaching.{start_reached, turn_reached}
use Rattle.task_rounds.specs.Tasks.{placed}
use Rattle.task_rounds.proofs.Moving.{mover}
use Rattle.task_rounds.proofs.Forking.{names_its_child}
use Rattle.task_rounds.proofs.Told.{told_moved}

-- a run up to here: a schedule reaches it, and its entries tell of it
pub record IsRun (program : Program) (run : Run) : Type 0 where
  pub reached : IsReached program run.config
  pub tells : Tells run.entries run.config

module _ (program : Program) where
  not_main : (p : Name) (k : ℕ) → child p k ≡ main → ⊥
  not_main [] k e = cc
  not_main (x ∷ p) k e = cc

  start_tells : Tells [] (start program)
  start_tells = record {
    tasks = λ p k. by_name empty main first (λ o. is_some o ≡ true → k < forks_made (get (start program).tasks p)) (child p k) (λ e h. absurd (not_main p k e)) (λ e h. absurd (nothing (child p k) h));
    channels = λ p k h. absurd (no_channel (child p k) h);
    made = λ p k h. let bad : ⊥ = cc in absurd bad;
    stages = λ c. subst (IsTold false false false) (sym (get-empty (slice_cmp nat_cmp) c)) (inl (refl, refl, refl));
    owners = λ e h. absurd h;
    sends = λ c e f h g is is'. absurd h;
    receives = λ c e f h g is is'. absurd h;
    prints = refl;
  }
    where
      first : Task
      first = placed (started (main_function program)) 0

      none : NameMap Task
      none = empty

      no_channels : NameMap (Option Value)
      no_channels = empty

      nothing : (q : Name) → is_some (get none q) ≡ true → ⊥
      nothing q h = let both = sym (ap is_some (get-empty {X = Task} (slice_cmp nat_cmp) q)) ∙ h in cc

      no_channel : (q : Name) → is_some (get no_channels q) ≡ true → ⊥
      no_channel q h = let both = sym (ap is_some (get-empty {X = Option Value} (slice_cmp nat_cmp) q)) ∙ h in cc

  pub turn_tells : (time : ℕ) (run : Run) (p : Name) → Tells run.entries run.config → Tells (turn program time run p).entries (turn program time run p).config
  turn_tells time run p tells = by (machine_step program run.config p) refl
    where
      same_still : Tells (run.entries ++ []) run.config
      same_still = subst (λ es. Tells es run.config) (sym (append-nil run.entries)) tells

      by : (s : Step) → machine_step program run.config p ≡ s → Tells (run.entries ++ step_entries time p s) (after_step run.config s)
      by (Moves D e) is =
          let (t, there, move) = mover program run.config p D e is in
          told_moved run.config p t there run.entries tells time _ D e move (λ c parent its. names_its_child machine program p t.forks t.place c parent its)
      by (Waits c) is = same_still
      by IsEnded is = same_still
      by IsAbsent is = same_still
      by (IsHalted why) is = same_still
      by (IsStuck why) is = same_still

  pub turn_runs : (time : ℕ) (run : Run) (p : Name) → IsRun program run → IsRun program (turn program time run p)
  turn_runs time run p is = record { reached = turn_reached program run.config p is.reached; tells = turn_tells time run p is.tells }

  pub turns_run : (time : ℕ) (ps : List Name) (run : Run) → IsRun program run → IsRun program (turns program time run ps)
  turns_run time [] run is = is
  turns_run time (p ∷ ps) run is = turns_run time ps (turn program time run p) (turn_runs time run p is)

  pub is_run : (t : ℕ) → IsRun program (run_of program t)
  unfolding run_of
  is_run zero = record { reached = start_reached program; tells = start_tells }
  is_run (suc t) = turns_run (suc t) (movers program (run_of program t).config) (run_of program t) (is_run t)
