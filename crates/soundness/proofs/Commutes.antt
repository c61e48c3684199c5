-- Steps of configurations commute, since those of their tasks and channels do.
use Rattle.std.proofs.Common.{◌≡◌, ◌≢◌, [], Option, Some, None, refl, ap, sym, ◌∙◌}
use Rattle.core_language.specs.Names.{Name}
use Rattle.core_language.specs.Programs.{Program}
use Rattle.core_language.specs.Computing.{unbounded}
use Rattle.core_language.specs.Configurations.{Config}
use Rattle.core_language.specs.Steps.{Event, Step, Moves, Waits, IsEnded, IsAbsent, IsHalted, IsStuck, step}
use Rattle.good_steps.proofs.Keeping.{with_prints}
use Rattle.good_orders.specs.Changes.{State, state_of, config_of, moved_to, step_state}
use Rattle.good_orders.proofs.Changing.{step-changes, none_some}
use Rattle.good_orders.proofs.Commuting.{commute, unbounded_fits}
use Rattle.standing_contexts.specs.Places.{PlaceAt}
use Rattle.outline_steps.proofs.Sound.{acts_fit}
use Rattle.soundness.specs.Laws.{FormedStepsCommute}

pair_same : {x y : State × Event} → Some x ≡ Some y → x ≡ y
pair_same e = cc

-- a configuration steps as its tasks and channels do
state_steps : (P : Program) (C : Config) (p : Name) → step_state unbounded P (state_of C) p ≡ moved_to (step P C p)
state_steps P C p = step-changes unbounded P (config_of (state_of C)) p ∙ sym (step-changes unbounded P C p)

steps_to : (o : Step) (v : State) (e : Event) → moved_to o ≡ Some (v, e) → (X : Config) × (o ≡ Moves X e) × (state_of X ≡ v)
steps_to (Moves X f) v e h = let same = pair_same h in (X, ap (Moves X) (ap (λ z. z.1) same), ap (λ z. z.0) same)
steps_to (Waits c) v e h = none_some h
steps_to IsEnded v e h = none_some h
steps_to IsAbsent v e h = none_some h
steps_to (IsHalted why) v e h = none_some h
steps_to (IsStuck why) v e h = none_some h

pub steps_commute : FormedStepsCommute
steps_commute P outlined formed C good p q D E a b apart h h' = go (commute unbounded P (PlaceAt P) (unbounded_fits P (PlaceAt P) (acts_fit P outlined formed)) (state_of C) (with_prints (P.protos) (PlaceAt P) C [] good) p q (state_of D) (state_of E) a b apart (state_steps P C p ∙ ap moved_to h) (state_steps P C q ∙ ap moved_to h'))
  where
    go : (v : State) × (step_state unbounded P (state_of D) q ≡ Some (v, b)) × (step_state unbounded P (state_of E) p ≡ Some (v, a)) → (X Y : Config) × (step P D q ≡ Moves X b) × (step P E p ≡ Moves Y a) × (X.tasks ≡ Y.tasks) × (X.channels ≡ Y.channels)
    go (v, e, f) = both (steps_to (step P D q) v b (sym (state_steps P D q) ∙ e)) (steps_to (step P E p) v a (sym (state_steps P E p) ∙ f))
      where
        both : (X : Config) × (step P D q ≡ Moves X b) × (state_of X ≡ v) → (Y : Config) × (step P E p ≡ Moves Y a) × (state_of Y ≡ v) → (X Y : Config) × (step P D q ≡ Moves X b) × (step P E p ≡ Moves Y a) × (X.tasks ≡ Y.tasks) × (X.channels ≡ Y.channels)
        both (X, to_x, x_is) (Y, to_y, y_is) = (X, Y, to_x, to_y, ap (λ z. z.tasks) (x_is ∙ sym y_is), ap (λ z. z.channels) (x_is ∙ sym y_is))
