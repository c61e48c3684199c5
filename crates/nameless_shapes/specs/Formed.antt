-- Shapes and limits where 64 bits hold their numbers.
use Rattle.std.specs.Prelude.{◌≡◌, Bool, false, List, Result}
use Rattle.std.specs.List.{list_all}
use Rattle.outline_language.specs.Nameless.{Shape, Limit, shape_fits, limit_fits}
use Rattle.outline_language.specs.Contexts.{Why, TooLarge, provided}
use Rattle.nameless_forms.specs.declared.faults.FormFault.{FormFault}
use Rattle.nameless_forms.specs.declared.faults.FormFault.TheVariants as cause

abbrev pub formed_shape : Shape → Result Shape Why
formed_shape shape = provided (shape_fits shape) TooLarge shape

abbrev pub formed_limits : List Limit → Result (List Limit) Why
formed_limits limits = provided (list_all limit_fits limits) TooLarge limits

-- a number is told too large only where the test fails
abbrev pub TellsMisfit : Bool → FormFault → Type 0
TellsMisfit fits fault = fault ≡ cause.TooLarge → fits ≡ false
