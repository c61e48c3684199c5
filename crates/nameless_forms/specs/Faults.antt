-- What an answer without a form or a row says.
use Rattle.std.specs.Prelude.{◌≡◌, ⊤, Result, Err}
use Rattle.outline_language.specs.Contexts as context
use Rattle.nameless_forms.specs.declared.faults.FormFault.{FormFault}
use Rattle.nameless_forms.specs.declared.faults.FormFault.TheVariants as fault

-- the reason is that a number is too large; memory may fail at any time
abbrev pub IsTooLarge : {A : Type 0} → Result A context.Why → FormFault → Type 0
IsTooLarge answer fault.TooLarge = answer ≡ Err context.TooLarge
IsTooLarge answer fault.Memory = ⊤
