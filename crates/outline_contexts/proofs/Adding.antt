-- Hypotheses of limits, one limit after the other, and parameters that are held.
use Rattle.std.proofs.Common.{◌≡◌, List, [], ◌∷◌, map, flat_map, refl, Result, Ok, Err}
use Rattle.core_language.specs.Names.{Ident}
use Rattle.core_language.specs.Programs.{Param}
use Rattle.nameless_forms.specs.declared.limits.Limit.{Limit}
use Rattle.nameless_forms.specs.Limits.{limit_of}
use Rattle.outline_language.specs.LinearForms.{LinearForm}
use Rattle.outline_language.specs.Nameless as nameless
use Rattle.outline_language.specs.Contexts.{Why, Context, and_then, add_hyp, add_hyps, hold}
use Rattle.nameless_shapes.specs.Formed.{formed_shape}
use Rattle.outline_obligations.proofs.Steps.{steps-append}
use Rattle.outline_contexts.specs.Starting.{param_shape, with_params}

-- what limits say, by a reading of each
abbrev pub limits_added : (nameless.Limit → List LinearForm) → Context → List Limit → Result Context Why
limits_added says ctx limits = add_hyps ctx (flat_map says (map limit_of limits))

abbrev pub limit_added : (nameless.Limit → List LinearForm) → Context → Limit → Result Context Why
limit_added says ctx limit = add_hyps ctx (says (limit_of limit))

pub one_limit : (says : nameless.Limit → List LinearForm) (ctx : Context) (limit : Limit) (limits : List Limit)
    → limits_added says ctx (limit ∷ limits) ≡ and_then (limit_added says ctx limit) (λ more. limits_added says more limits)
one_limit says ctx limit limits = steps-append add_hyps add_hyp (λ s. refl) (λ s y ys. refl) ctx (says (limit_of limit)) (flat_map says (map limit_of limits))

pub one_param : (ints : List Ident) (ctx : Context) (p : Param) (ps : List Param) → with_params ints (p ∷ ps) ctx ≡ and_then (with_params ints (p ∷ []) ctx) (λ more. with_params ints ps more)
one_param ints ctx p ps = pick (formed_shape (param_shape ints p))
  where
    pick : (r : Result nameless.Shape Why) → and_then r (λ s. with_params ints ps (hold ctx p.name s)) ≡ and_then (and_then r (λ s. Ok (hold ctx p.name s))) (λ more. with_params ints ps more)
    pick (Ok s) = refl
    pick (Err w) = refl
