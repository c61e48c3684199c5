-- The kinds of acts that need two results.
use Rattle.std.proofs.Common.{◌≡◌, ℤ, Option, Some, None, refl}
use Rattle.core_language.specs.Names.{Name}
use Rattle.core_language.specs.Values.{Value}
use Rattle.core_language.specs.Values as value
use Rattle.core_language.specs.Computing.{Computed, Done, Sticks, Halts}
use Rattle.core_language.specs.Configurations.{Place}
use Rattle.core_language.specs.Acts.{with_result, on_end}
use Rattle.core_language.specs.Acts as act
use Rattle.machine_values.specs.Troubles.{done_of}
use Rattle.machine_tasks.specs.Kinds.{Silent, Send, kind_of, kind_after, kind_at_end}

pub sends : (m : Computed Value) (o : Option Value) (go : Value → Name → Place)
    → kind_after (done_of m) (kind_at_end o Send) ≡ kind_of (with_result m (λ v. on_end o (λ c. act.Send c v (go v c))))
sends (Done v) (Some (value.End c)) go = refl
sends (Done v) (Some (value.Int z)) go = refl
sends (Done v) (Some value.Unit) go = refl
sends (Done v) (Some (value.Pair a b)) go = refl
sends (Done v) (Some (value.Arm i a)) go = refl
sends (Done v) None go = refl
sends (Sticks why) o go = refl
sends (Halts why) o go = refl

pub chooses : (m u : Computed ℤ) (go : ℤ → ℤ → Place) → kind_after m (kind_after u Silent) ≡ kind_of (with_result m (λ a. with_result u (λ b. act.Silent (go a b))))
chooses (Done a) (Done b) go = refl
chooses (Done a) (Sticks why) go = refl
chooses (Done a) (Halts why) go = refl
chooses (Sticks why) u go = refl
chooses (Halts why) u go = refl
