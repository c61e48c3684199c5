-- Reasons that are handed on.
use Rattle.std.proofs.Common.{◌≡◌, ap, Result, Ok, Err}
use Rattle.nameless_forms.specs.declared.faults.FormFault.{FormFault}
use Rattle.nameless_forms.specs.declared.faults.FormFault.TheVariants as form_fault
use Rattle.nameless_forms.specs.Faults.{IsTooLarge}
use Rattle.outline_language.specs.Contexts.{Why, and_then}
use Rattle.outline_obligations.specs.declared.faults.ContextFault.{ContextFault}
use Rattle.outline_obligations.specs.declared.faults.ContextFault.TheVariants as fault
use Rattle.outline_obligations.specs.Reasons.{why_of, IsReason, fault_of}

-- what fails first, fails whole
pub reason_to : {A B : Type 0} (first : Result A Why) (whole : Result B Why) → ((w : Why) → first ≡ Err w → whole ≡ Err w)
    → (f : ContextFault) → IsReason first f → IsReason whole f
reason_to first whole to (fault.Why w) reason = to (why_of w) reason
reason_to first whole to fault.Memory reason = tt

pub too_large : {A : Type 0} (answer : Result A Why) (f : FormFault) → IsTooLarge answer f → IsReason answer (fault_of f)
too_large answer form_fault.TooLarge large = large
too_large answer form_fault.Memory large = tt

pub then_ok : {A B : Type 0} (r : Result A Why) (a : A) (go : A → Result B Why) → r ≡ Ok a → and_then r go ≡ go a
then_ok r a go is = ap (λ o. and_then o go) is

pub then_err : {A B : Type 0} (r : Result A Why) (w : Why) (go : A → Result B Why) → r ≡ Err w → and_then r go ≡ Err w
then_err r w go is = ap (λ o. and_then o go) is

-- the first of two steps fails
pub then_reason : {A B : Type 0} (r : Result A Why) (go : A → Result B Why) (f : ContextFault) → IsReason r f → IsReason (and_then r go) f
then_reason r go f reason = reason_to r (and_then r go) (λ w is. then_err r w go is) f reason
