-- What 64 bits hold, as answers and as tests.
use Rattle.std.proofs.Common.{◌≡◌, Bool, true, false, ◌&&◌, Ok, refl}
use Rattle.outline_language.specs.Contexts.{TooLarge, provided}
use Rattle.nameless_forms.specs.declared.faults.FormFault.{FormFault}
use Rattle.nameless_forms.specs.declared.faults.FormFault.TheVariants as cause
use Rattle.nameless_forms.specs.Faults.{IsTooLarge}
use Rattle.nameless_shapes.specs.Formed.{TellsMisfit}

pub formed_is : {A : Type 0} (fits : Bool) (a x : A) → provided fits TooLarge a ≡ Ok x → x ≡ a
formed_is true a x is = cc
formed_is false a x is = cc

pub misfits : {A : Type 0} (fits : Bool) (a : A) (fault : FormFault) → IsTooLarge (provided fits TooLarge a) fault → TellsMisfit fits fault
misfits true a cause.TooLarge is = λ e. cc
misfits false a cause.TooLarge is = λ e. refl
misfits fits a cause.Memory is = λ e. cc

pub and_false : (b : Bool) → (b && false) ≡ false
and_false true = refl
and_false false = refl
