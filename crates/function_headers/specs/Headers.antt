-- Headers of functions without the names of their binders: what calls and forks ask of a function.
use Rattle.std.specs.Prelude.{ℕ, Bool, ◌&&◌, if◌then◌else◌, List, [], ◌∷◌, length, Option, Some, None}
use Rattle.std.specs.List.{list_all}
use Rattle.core_language.specs.Names.{Ident, same}
use Rattle.core_language.specs.Programs.{Function, Param}
use Rattle.outline_language.specs.Nameless.{Limit, Shape, Res, nameless_shape, limit_fits, shape_fits, res_fits}
use Rattle.outline_language.specs.Rules.{limits_of, param_shapes, result_of, is_bare_unit}

pub record Header : Type 0 where
  pub name : Ident
  pub binders : ℕ
  pub limits : List Limit
  pub shapes : List Shape
  pub result : Res
  pub gives_unit : Bool

abbrev pub shape_read : List Ident → Param → Shape
shape_read names p = nameless_shape [] names p.shape

abbrev pub header_read : Function → Header
header_read f = record {
  name = f.name;
  binders = length f.bound.names;
  limits = limits_of f;
  shapes = param_shapes f;
  result = result_of f;
  gives_unit = is_bare_unit f.result;
}

-- 64 bits hold each number of it
abbrev pub header_fits : Header → Bool
header_fits h = list_all limit_fits h.limits && (list_all shape_fits h.shapes && res_fits h.result)

-- the first header with this name
abbrev pub header_named : Ident → List Header → Option Header
header_named x [] = None
header_named x (h ∷ hs) = if same h.name x then Some h else header_named x hs
