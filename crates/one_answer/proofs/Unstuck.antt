-- No round run of an outlined program ends stuck.
use Rattle.std.proofs.Common.{◌≡◌, ◌≢◌, ℕ, ◌≤◌, length, ℤ, Bool, true, false, if◌then◌else◌, ◌&&◌, List, [], ◌∷◌, Option, Some, None, refl, ap, sym, subst, ◌∙◌, ◌⊎◌, inl, inr}
use Rattle.std.specs.FinMap.{keys}
use Rattle.core_language.specs.Names.{Name}
use Rattle.core_language.specs.Programs.{Program}
use Rattle.core_language.specs.Computing.{machine, Halt, StuckWhy}
use Rattle.core_language.specs.Configurations.{Config, start}
use Rattle.core_language.specs.Configurations as place
use Rattle.core_language.specs.Steps.{Event, Step, Moves, Waits, IsEnded, IsAbsent, IsHalted, IsStuck, step, machine_step}
use Rattle.core_language.specs.Schedules.{IsStuckStep}
use Rattle.core_language.specs.Rounds.{run_of, movers}
use Rattle.core_language.specs.Endings.{Ending, Finished, Stuck, OutOfRange, TooDeep, Rounds, Deadlocked, Leaked, stuck_why, stuck_or, stuck, is_range, is_depth, out_of_range, too_deep, blocked, moving, unended, is_nil, ending_of}
use Rattle.core_language.proofs.Halting.{halts_or_steps}
use Rattle.orders.specs.Paths.{Path, Final}
use Rattle.good_configurations.specs.Acts.{Typing}
use Rattle.good_configurations.specs.Good.{Good}
use Rattle.good_steps.proofs.Keeping.{with_prints}
use Rattle.good_steps.proofs.Kept.{ActsFit, step_fine}
use Rattle.good_orders.specs.Changes.{State, state_of, config_of, step_state}
use Rattle.one_answer.proofs.Paths.{Turned, rounds-turned}
use Rattle.one_answer.proofs.Answer.{keeps}

-- the ending names no task that is stuck
abbrev pub NotStuck : Ending → Type 0
NotStuck (Stuck p why) = ⊥
NotStuck Finished = Unit {0}
NotStuck (OutOfRange p) = Unit {0}
NotStuck (TooDeep p) = Unit {0}
NotStuck Rounds = Unit {0}
NotStuck (Deadlocked ps) = Unit {0}
NotStuck (Leaked cs) = Unit {0}

blocked-not : (ps cs : List Name) → NotStuck (blocked ps cs)
blocked-not [] cs = tt
blocked-not (p ∷ ps) cs = tt

moving-not : (C : Config) (ps : List Name) → NotStuck (moving C ps)
moving-not C [] = blocked-not (unended C) (keys C.channels)
moving-not C (p ∷ ps) = tt

deep-not : (P : Program) (C : Config) (ps : List Name) (other : Ending) → NotStuck other → NotStuck (too_deep P C ps other)
deep-not P C [] other h = h
deep-not P C (p ∷ ps) other h = go (is_depth (machine_step P C p)) (deep-not P C ps other h)
  where
    go : (b : Bool) → NotStuck (too_deep P C ps other) → NotStuck (if b then TooDeep p else too_deep P C ps other)
    go true ih = tt
    go false ih = ih

range-not : (P : Program) (C : Config) (ps : List Name) (other : Ending) → NotStuck other → NotStuck (out_of_range P C ps other)
range-not P C [] other h = h
range-not P C (p ∷ ps) other h = go (is_range (machine_step P C p)) (range-not P C ps other h)
  where
    go : (b : Bool) → NotStuck (out_of_range P C ps other) → NotStuck (if b then OutOfRange p else out_of_range P C ps other)
    go true ih = tt
    go false ih = ih

module _ (P : Program) (Typed : Typing) (fits : ActsFit P Typed) (ended : Typed place.Ended []) (start_good : Good (P.protos) Typed (start P)) where
  path-good : (ps : List Name) (s t : State) (es : List (Name × Event)) → Good (P.protos) Typed (config_of s) → Path (step_state machine P) s ps t es → Good (P.protos) Typed (config_of t)
  path-good [] s t es good (same, none) = subst (λ z. Good (P.protos) Typed (config_of z)) (sym same) good
  path-good (p ∷ ps) s t es good (u, e, fs, h, rest, is) = path-good ps u t fs (keeps P Typed fits ended start_good s p u e good h) rest

  -- each round reaches what is good
  pub rounds_good : (t : ℕ) → Good (P.protos) Typed (run_of P t).config
  unfolding run_of
  rounds_good t = go (rounds-turned P t)
    where
      go : (x : Turned P (run_of P 0) (run_of P t)) × ((t ≤ length (x.names)) ⊎ Final (step_state machine P) (state_of (run_of P t).config)) → Good (P.protos) Typed (run_of P t).config
      go (x, either) = with_prints (P.protos) Typed (config_of (state_of (run_of P t).config)) ((run_of P t).config.prints) (path-good (x.names) (state_of (start P)) (state_of (run_of P t).config) (x.events) (with_prints (P.protos) Typed (start P) [] start_good) (x.path))

  pub none-stuck : (C : Config) → Good (P.protos) Typed C → (p : Name) → stuck_why (machine_step P C p) ≡ None
  none-stuck C good p = by (halts_or_steps P C p)
    where
      not_stuck : (o : Step) → (IsStuckStep o → ⊥) → stuck_why o ≡ None
      not_stuck (Moves D e) h = refl
      not_stuck (Waits c) h = refl
      not_stuck IsEnded h = refl
      not_stuck IsAbsent h = refl
      not_stuck (IsHalted why) h = refl
      not_stuck (IsStuck why) h = absurd (h tt)

      by : ((why : Halt) × (machine_step P C p ≡ IsHalted why)) ⊎ (machine_step P C p ≡ step P C p) → stuck_why (machine_step P C p) ≡ None
      by (inl (why, halted)) = ap stuck_why halted
      by (inr same) = ap stuck_why same ∙ not_stuck (step P C p) ((step_fine P Typed fits ended C good p).1)

  stuck-not : (C : Config) → Good (P.protos) Typed C → (ps : List Name) (other : Ending) → NotStuck other → NotStuck (stuck P C ps other)
  stuck-not C good [] other h = h
  stuck-not C good (p ∷ ps) other h = subst (λ z. NotStuck (stuck_or p z (stuck P C ps other))) (sym (none-stuck C good p)) (stuck-not C good ps other h)

  -- no ending names a stuck task
  pub ends_unstuck : (t : ℕ) → NotStuck (ending_of P (run_of P t).config)
  ends_unstuck t = go (is_nil (unended (run_of P t).config) && is_nil (keys ((run_of P t).config.channels)))
    where
      go : (b : Bool) → NotStuck (if b then Finished else stuck P (run_of P t).config (keys ((run_of P t).config.tasks)) (out_of_range P (run_of P t).config (keys ((run_of P t).config.tasks)) (too_deep P (run_of P t).config (keys ((run_of P t).config.tasks)) (moving (run_of P t).config (movers P (run_of P t).config)))))
      go true = tt
      go false = stuck-not (run_of P t).config (rounds_good t) (keys ((run_of P t).config.tasks)) _ (range-not P (run_of P t).config (keys ((run_of P t).config.tasks)) _ (deep-not P (run_of P t).config (keys ((run_of P t).config.tasks)) _ (moving-not (run_of P t).config (movers P (run_of P t).config))))
