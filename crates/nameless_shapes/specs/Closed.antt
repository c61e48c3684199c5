-- What is kept beside shapes and resources: how many binders outwards their variables stand at most, and whether an end stands in them.
use Rattle.std.specs.Prelude.{◌≡◌, ℕ, ◌+◌, ◌≤◌, ◌<◌, ◌^◌, Bool, true, List, map}
use Rattle.std.specs.List.{list_all}
use Rattle.outline_language.specs.LinearForms.{LinearForm, form_fits}
use Rattle.outline_language.specs.Nameless.{Limit, Shape, Res, Resources, Binds, form_with, limit_with, shape_with, res_with, resources_with, limit_fits, shape_fits, res_fits, resources_fit, has_end, have_end}

-- ---- instances for the binders around so many others, or more, change nothing

abbrev pub IsClosedForm : ℕ → LinearForm → Type 0
IsClosedForm reach form = (instances : List LinearForm) (depth : ℕ) → reach ≤ depth → form_with instances depth form ≡ form

abbrev pub AreClosedForms : ℕ → List LinearForm → Type 0
AreClosedForms reach forms = (instances : List LinearForm) (depth : ℕ) → reach ≤ depth → map (form_with instances depth) forms ≡ forms

abbrev pub AreClosedLimits : ℕ → List Limit → Type 0
AreClosedLimits reach limits = (instances : List LinearForm) (depth : ℕ) → reach ≤ depth → map (limit_with instances depth) limits ≡ limits

abbrev pub IsClosedShape : ℕ → Shape → Type 0
IsClosedShape reach shape = (instances : List LinearForm) (depth : ℕ) → reach ≤ depth → shape_with instances depth shape ≡ shape

abbrev pub IsClosedRes : ℕ → Res → Type 0
IsClosedRes reach res = (instances : List LinearForm) (depth : ℕ) → reach ≤ depth → res_with instances depth res ≡ res

abbrev pub AreClosed : ℕ → Resources → Type 0
AreClosed reach rs = (instances : List LinearForm) (depth : ℕ) → reach ≤ depth → resources_with instances depth rs ≡ rs

-- ---- what is kept, of forms and limits too: 64 bits hold their numbers

abbrev pub binders_of : Res → ℕ
binders_of (Binds n limits shape) = n

pub record AreFormsKept (reach : ℕ) (forms : List LinearForm) : Type 0 where
  pub closed : AreClosedForms reach forms
  pub fits : list_all form_fits forms ≡ true

pub record AreLimitsKept (reach : ℕ) (limits : List Limit) : Type 0 where
  pub closed : AreClosedLimits reach limits
  pub fits : list_all limit_fits limits ≡ true

pub record IsShapeKept (end : Bool) (reach : ℕ) (shape : Shape) : Type 0 where
  pub has_end : end ≡ has_end shape
  pub closed : IsClosedShape reach shape
  pub fits : shape_fits shape ≡ true

pub record IsResKept (reach : ℕ) (res : Res) : Type 0 where
  pub closed : IsClosedRes reach res
  pub fits : res_fits res ≡ true
  -- 64 bits hold how many binders stand around the shape where an instance may stand in it
  pub room : reach + binders_of res < 2 ^ 64

pub record AreKept (end : Bool) (reach : ℕ) (rs : Resources) : Type 0 where
  pub have_end : end ≡ have_end rs
  pub closed : AreClosed reach rs
  pub fits : resources_fit rs ≡ true
