-- What is added to a context.
use Rattle.std.specs.Prelude.{nat_lt, List, [], ◌∷◌, ◌++◌, length, Result}
use Rattle.farkas_check.specs.declared.cert.Row.{Row}
use Rattle.outline_language.specs.LinearForms.{LinearForm}
use Rattle.outline_language.specs.Nameless.{Limit, limit_with, forms_of_limit}
use Rattle.outline_language.specs.Contexts.{Why, TooLarge, Context, provided, most}

-- one hypothesis more, where there is room
abbrev pub with_row : Context → Row → Result Context Why
with_row ctx row = provided (nat_lt (length ctx.hyps) most) TooLarge (record ctx { hyps = ctx.hyps ++ row ∷ [] })

-- what a limit says to be at most 0, with instances put in
abbrev pub limit_forms : List LinearForm → Limit → List LinearForm
limit_forms instances limit = forms_of_limit (limit_with instances 0 limit)
