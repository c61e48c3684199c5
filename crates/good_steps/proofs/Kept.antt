-- Each step of a good configuration is fine, where the acts of typed places fit.
use Rattle.std.proofs.Common.{◌≡◌, ℕ, List, [], ◌∷◌, Option, Some, None, refl, sym, subst}
use Rattle.std.specs.FinMap.{get}
use Rattle.core_language.specs.Names.{Name}
use Rattle.core_language.specs.Programs.{Program}
use Rattle.core_language.specs.Computing.{unbounded}
use Rattle.core_language.specs.Configurations.{Config, Place, Ended, Task}
use Rattle.core_language.specs.Acts.{Act, act_of}
use Rattle.core_language.specs.Acts as act
use Rattle.core_language.specs.Steps.{effect, forked, step, step_at, after_step}
use Rattle.core_language.specs.Schedules.{steps_from}
use Rattle.graphs.specs.Graph.{task}
use Rattle.outline_language.specs.Equations.{opposite}
use Rattle.good_configurations.specs.Values.{Use}
use Rattle.good_configurations.specs.Uses.{Holds}
use Rattle.good_configurations.specs.Acts.{Typing, Stands, Fits}
use Rattle.good_configurations.specs.Good.{TaskGood, Good}
use Rattle.good_steps.proofs.Keeping.{same_uses, with_prints}
use Rattle.good_steps.proofs.Ends.{Fine, send_fine, recv_fine}
use Rattle.good_steps.proofs.Forks.{fork_good}

-- the acts of typed places fit
abbrev pub ActsFit : Program → Typing → Type 0
ActsFit P Typed = (p : Name) (k : ℕ) (place : Place) (us : List Use) → Typed place us → Fits P.protos Typed p k (act_of unbounded P p k place) us

module _ (P : Program) (Typed : Typing) (fits : ActsFit P Typed) (ended : Typed Ended []) where
  effect_fine : (C : Config) (good : Good (P.protos) Typed C) (p : Name) (t : Task) → get (C.tasks) p ≡ Some t → (us : List Use) → Holds (task p) us (good.uses) → (a : Act) → Fits (P.protos) Typed p (t.forks) a us → Fine (P.protos) Typed C (effect C p (t.forks) a)
  effect_fine C good p t at_p us holds (act.Silent place) stands = (same_uses (P.protos) Typed C good p t place us at_p holds stands, λ z. z)
  effect_fine C good p t at_p us holds (act.Print z place) stands = (with_prints (P.protos) Typed _ _ (same_uses (P.protos) Typed C good p t place us at_p holds stands), λ z. z)
  effect_fine C good p t at_p us holds (act.Fork c mine its) (e, vs, rest, is_c, split, does, parent, born) =
      subst (λ d. Stands Typed mine ((d, e) ∷ rest) → Stands Typed its ((d, opposite e) ∷ vs) → Fine (P.protos) Typed C (forked C p (t.forks) d mine its)) (sym is_c)
      (λ parent born. (fork_good (P.protos) Typed C good p t at_p us holds e vs rest split does mine its parent born, λ z. z)) parent born
  effect_fine C good p t at_p us holds (act.Send c v place) (e, vs, rest, split, does, carries, stands) = send_fine (P.protos) Typed C good p t at_p us holds c e v place vs rest split does carries stands
  effect_fine C good p t at_p us holds (act.Recv c place) (e, rest, split, does, goes_on) = recv_fine (P.protos) Typed C good p t at_p us holds c e place rest split does goes_on
  effect_fine C good p t at_p us holds act.End none = (same_uses (P.protos) Typed C good p t Ended us at_p holds ([], λ q. rw none refl, ended), λ z. z)
  effect_fine C good p t at_p us holds act.IsEnded none = (good, λ z. z)
  effect_fine C good p t at_p us holds (act.IsHalted why) fit = absurd fit
  effect_fine C good p t at_p us holds (act.IsStuck why) fit = absurd fit

  pub step_fine : (C : Config) → Good (P.protos) Typed C → (p : Name) → Fine (P.protos) Typed C (step P C p)
  step_fine C good p = go (get (C.tasks) p) refl (good.tasks p)
    where
      go : (o : Option Task) → get (C.tasks) p ≡ o → TaskGood Typed (good.uses) p o → Fine (P.protos) Typed C (step_at unbounded P C p o)
      go None e typed = (good, λ z. z)
      go (Some t) e (us, typed, holds) = effect_fine C good p t e us holds (act_of unbounded P p (t.forks) (t.place)) (fits p (t.forks) (t.place) us typed)

  pub steps_good : (C : Config) (ps : List Name) → Good (P.protos) Typed C → Good (P.protos) Typed (steps_from P C ps)
  steps_good C [] good = good
  steps_good C (p ∷ ps) good = steps_good (after_step C (step P C p)) ps ((step_fine C good p).0)
