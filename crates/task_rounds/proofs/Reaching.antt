-- The machine's turns stay among what schedules reach, and none of them is stuck.
use Rattle.std.proofs.Common.{◌≡◌, ◌⊎◌, inl, inr, List, [], ◌∷◌, ◌++◌, refl, sym, ap, subst, ◌∙◌}
use Rattle.core_language.specs.Names.{Name}
use Rattle.core_language.specs.Programs.{Program}
use Rattle.core_language.specs.Computing.{Halt, StuckWhy}
use Rattle.core_language.specs.Configurations.{Config, start}
use Rattle.core_language.specs.Steps.{IsHalted, IsStuck, step, machine_step, after_step}
use Rattle.core_language.specs.Schedules.{steps_from, IsStuckStep}
use Rattle.core_language.proofs.Halting.{halts_or_steps}
use Rattle.task_rounds.specs.Reaching.{IsReached, NeverSticks}

module _ (program : Program) where
  one_more : (C : Config) (ps : List Name) (p : Name) → steps_from program C (ps ++ p ∷ []) ≡ after_step (steps_from program C ps) (step program (steps_from program C ps) p)
  one_more C [] p = refl
  one_more C (q ∷ ps) p = one_more (after_step C (step program C q)) ps p

  pub start_reached : IsReached program (start program)
  start_reached = record { schedule = []; is = refl }

  step_reached : (C : Config) (p : Name) → IsReached program C → IsReached program (after_step C (step program C p))
  step_reached C p reached = record {
    schedule = reached.schedule ++ p ∷ [];
    is = one_more (start program) reached.schedule p ∙ ap (λ D. after_step D (step program D p)) reached.is;
  }

  -- a turn of the machine is a step, or changes nothing
  pub turn_reached : (C : Config) (p : Name) → IsReached program C → IsReached program (after_step C (machine_step program C p))
  turn_reached C p reached = by (halts_or_steps program C p)
    where
      by : ((why : Halt) × (machine_step program C p ≡ IsHalted why)) ⊎ (machine_step program C p ≡ step program C p) → IsReached program (after_step C (machine_step program C p))
      by (inl (why, halts)) = subst (λ s. IsReached program (after_step C s)) (sym halts) reached
      by (inr steps) = subst (λ s. IsReached program (after_step C s)) (sym steps) (step_reached C p reached)

  pub not_stuck : NeverSticks program → (C : Config) (p : Name) (why : StuckWhy) → IsReached program C → machine_step program C p ≡ IsStuck why → ⊥
  not_stuck never C p why reached stuck = by (halts_or_steps program C p)
    where
      by : ((why : Halt) × (machine_step program C p ≡ IsHalted why)) ⊎ (machine_step program C p ≡ step program C p) → ⊥
      by (inl (other, halts)) = let both = sym halts ∙ stuck in cc
      by (inr steps) = never.safe reached.schedule p (subst (λ D. IsStuckStep (step program D p)) (sym reached.is) (subst IsStuckStep (sym stuck ∙ steps) tt))
