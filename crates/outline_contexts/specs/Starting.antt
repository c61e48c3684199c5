-- The context in which a function begins, step by step.
use Rattle.std.specs.Prelude.{◌≡◌, ◌≤◌, true, List, [], ◌∷◌, map, flat_map, length, Result, Ok}
use Rattle.std.specs.List.{list_all}
use Rattle.core_language.specs.Names.{Ident}
use Rattle.core_language.specs.Programs.{Function, Param}
use Rattle.linear_forms.specs.Normal.{row_fits}
use Rattle.outline_language.specs.LinearForms.{LinearForm, row_of}
use Rattle.outline_language.specs.Nameless.{Limit, Shape, limit_fits, shape_fits, forms_of_limit, nameless_limit, nameless_shape}
use Rattle.outline_language.specs.Contexts.{Why, Context, and_then, most, add_ints, add_hyps, hold}
use Rattle.nameless_shapes.specs.Formed.{formed_shape, formed_limits}
use Rattle.outline_contexts.specs.Trails.{Trail, context_in}

abbrev pub nothing_yet : Trail
nothing_yet = record { ints = []; hyps = []; names = []; shapes = []; taken = [] }

-- the limits of a function, where its binders are the first integer variables, and what they say to be at most 0
abbrev pub header_limits : Function → List Limit
header_limits f = map (nameless_limit f.bound.names []) f.bound.limits

abbrev pub header_forms : Function → List LinearForm
header_forms f = flat_map forms_of_limit (header_limits f)

abbrev pub param_shape : List Ident → Param → Shape
param_shape ints p = nameless_shape ints [] p.shape

-- a header of a program of form: it has few binders and rows, and 64 bits hold its numbers
pub record IsHeader (f : Function) : Type 0 where
  pub few_ints : length f.bound.names ≤ most
  pub few_hyps : length (header_forms f) ≤ most
  pub limits : list_all limit_fits (header_limits f) ≡ true
  pub rows : list_all (λ g. row_fits (row_of (length f.bound.names) g)) (header_forms f) ≡ true
  pub shapes : list_all (λ p. shape_fits (param_shape f.bound.names p)) f.params ≡ true

-- parameters are held, one after another
abbrev pub with_params : (ints : List Ident) → List Param → Context → Result Context Why
with_params ints [] ctx = Ok ctx
with_params ints (p ∷ ps) ctx = and_then (formed_shape (param_shape ints p)) (λ shape. with_params ints ps (hold ctx p.name shape))

-- binders, then limits, then parameters
abbrev pub begun : Function → Result Context Why
begun f =
    and_then (add_ints (context_in nothing_yet) f.bound.names) (λ ints.
    and_then (formed_limits (header_limits f)) (λ limits.
    and_then (add_hyps ints (flat_map forms_of_limit limits)) (λ hyps. with_params f.bound.names f.params hyps)))
