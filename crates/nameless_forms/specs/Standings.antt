-- What stands for a name or a variable.
use Rattle.std.specs.Prelude.{pos}
use Rattle.outline_language.specs.LinearForms.{LinearForm, constant_form, variable_form}
use Rattle.nameless_forms.specs.declared.sums.Standing.{Standing}
use Rattle.nameless_forms.specs.declared.sums.Standing.TheVariants.{Nothing, Unit as Bare, Variable, Whole}

abbrev pub standing_of : Standing → LinearForm
standing_of Nothing = constant_form (pos 0)
standing_of Bare = constant_form (pos 1)
standing_of (Variable v) = variable_form v
standing_of (Whole f) = f.now
