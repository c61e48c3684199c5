-- Limits that are shown, one after the other.
use Rattle.std.proofs.Common.{◌≡◌, List, ◌∷◌, map, flat_map, refl, Result}
use Rattle.nameless_forms.specs.declared.limits.Limit.{Limit}
use Rattle.nameless_forms.specs.Limits.{limit_of}
use Rattle.outline_language.specs.LinearForms.{LinearForm}
use Rattle.outline_language.specs.Nameless as nameless
use Rattle.outline_language.specs.Contexts.{Why, NotProved, Context, Cursor, and_then, oblige, oblige_all}
use Rattle.outline_obligations.proofs.Steps.{steps-append}

-- what limits say, by a reading of each
abbrev pub limits_shown : (nameless.Limit → List LinearForm) → Context → Cursor → List Limit → Result Cursor Why
limits_shown says ctx cursor limits = oblige_all ctx (flat_map says (map limit_of limits)) cursor

abbrev pub limit_shown : (nameless.Limit → List LinearForm) → Context → Cursor → Limit → Result Cursor Why
limit_shown says ctx cursor limit = oblige_all ctx (says (limit_of limit)) cursor

pub one_limit : (says : nameless.Limit → List LinearForm) (ctx : Context) (cursor : Cursor) (limit : Limit) (limits : List Limit)
    → limits_shown says ctx cursor (limit ∷ limits) ≡ and_then (limit_shown says ctx cursor limit) (λ next. limits_shown says ctx next limits)
one_limit says ctx cursor limit limits =
    steps-append (λ c fs. oblige_all ctx fs c) (λ c f. oblige NotProved ctx f c) (λ c. refl) (λ c f fs. refl) cursor (says (limit_of limit)) (flat_map says (map limit_of limits))
