-- The names of a context as linear forms have them, and what `normal` answers.
use Rattle.std.specs.Prelude.{◌≡◌, map, Result, Err}
use Rattle.linear_forms.specs.Terms as linear
use Rattle.linear_forms.specs.Normal.{Fault}
use Rattle.linear_forms.specs.Normal as form
use Rattle.farkas_check.specs.declared.cert.Row.{Row}
use Rattle.chan_syntax.specs.Reading.{term_of}
use Rattle.outline_rules.specs.declared.naming.IntVar.{IntVar}
use Rattle.outline_rules.specs.declared.naming.IntNames.{IntNames}
use Rattle.outline_rules.specs.declared.naming.TermFault.{TermFault}
use Rattle.outline_rules.specs.declared.naming.TermFault.TheVariants.{TooLarge, NotInt, Memory}

abbrev pub int_var_of : IntVar → linear.IntVar
int_var_of var = record { name = var.name; term = term_of var.term }

abbrev pub int_names_of : IntNames → linear.IntNames
int_names_of names = record { ints = names.ints; vars = map int_var_of names.vars }

-- the fault that the normal form has; memory may fail at any time
abbrev pub IsFaultOf : Result Row Fault → TermFault → Type 0
IsFaultOf answer TooLarge = answer ≡ Err form.TooLarge
IsFaultOf answer (NotInt x) = answer ≡ Err (form.NotInt x)
IsFaultOf answer Memory = Unit {0}
