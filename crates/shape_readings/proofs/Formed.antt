-- Forms where 64 bits hold their numbers.
use Rattle.std.proofs.Common.{◌≡◌, Bool, true, false, Result, Ok, Err, IfOk, IfErr, OnOk, refl, sym, ap, ◌∙◌}
use Rattle.outline_language.specs.LinearForms.{LinearForm, form_fits}
use Rattle.outline_language.specs.Contexts.{TooLarge, provided, formed}
use Rattle.nameless_forms.specs.declared.faults.FormFault.{FormFault}
use Rattle.nameless_forms.specs.declared.faults.FormFault.TheVariants as cause
use Rattle.nameless_forms.specs.Faults.{IsTooLarge}

one : (form f : LinearForm) → formed form ≡ Ok f → (f ≡ form) × (form_fits form ≡ true)
one form f is = pick (form_fits form) refl is
  where
    pick : (b : Bool) → form_fits form ≡ b → provided b TooLarge form ≡ Ok f → (f ≡ form) × (form_fits form ≡ true)
    pick true fits is = (cc, fits)
    pick false fits is = absurd cc

none : (form : LinearForm) → formed form ≡ Err TooLarge → form_fits form ≡ false
none form is = pick (form_fits form) refl is
  where
    pick : (b : Bool) → form_fits form ≡ b → provided b TooLarge form ≡ Err TooLarge → form_fits form ≡ false
    pick true fits is = absurd cc
    pick false fits is = fits

pub formed_is : (form : LinearForm) (r : Result LinearForm FormFault) → IfOk r (λ f. formed form ≡ Ok f) → IfOk r (λ f. f ≡ form)
formed_is form (Ok f) is = (one form f is).0
formed_is form (Err fault) is = tt

pub formed_fits : (form : LinearForm) (r : Result LinearForm FormFault) → IfOk r (λ f. formed form ≡ Ok f) → OnOk r (form_fits form ≡ true)
formed_fits form (Ok f) is = (one form f is).1
formed_fits form (Err fault) is = tt

pub unformed : (form : LinearForm) (r : Result LinearForm FormFault) → IfErr r (IsTooLarge (formed form)) → IfErr r (λ fault. fault ≡ cause.TooLarge → form_fits form ≡ false)
unformed form (Ok f) is = tt
unformed form (Err cause.TooLarge) is = λ e. none form is
unformed form (Err cause.Memory) is = λ e. absurd cc

pub as_formed : (form f : LinearForm) → f ≡ form → form_fits form ≡ true → formed form ≡ Ok f
as_formed form f is fits = ap (λ b. provided b TooLarge form) fits ∙ ap (λ g. Ok g) (sym is)

pub as_too_large : {A : Type 0} (fits : Bool) (a : A) (fault : FormFault) → (fault ≡ cause.TooLarge → fits ≡ false) → IsTooLarge (provided fits TooLarge a) fault
as_too_large fits a cause.TooLarge fails = ap (λ b. provided b TooLarge a) (fails refl)
as_too_large fits a cause.Memory fails = tt

pub as_provided : {A : Type 0} (fits : Bool) (a x : A) → x ≡ a → fits ≡ true → provided fits TooLarge a ≡ Ok x
as_provided fits a x is holds = ap (λ b. provided b TooLarge a) holds ∙ ap (λ y. Ok y) (sym is)
