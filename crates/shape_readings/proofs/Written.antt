-- Sums of a text without names.
use Rattle.std.proofs.Common.{◌≡◌, Bool, List, [], ◌∷◌, ◌++◌, ◌&&◌, true, false, map, length, refl, sym, ap, ◌∙◌}
use Rattle.std.specs.List.{list_all}
use Rattle.core_language.specs.Names.{Ident}
use Rattle.core_language.specs.Terms.{Bound}
use Rattle.core_language.specs.Resources as written
use Rattle.outline_language.specs.Nameless.{Shape, Res, Binds, Pair, Sum, More, nameless_limit, nameless_shape, nameless_res, nameless_resources, limit_fits, shape_fits, res_fits, resources_fit}
use Rattle.nameless_shapes.specs.Reading.{resources_from}

arms_read : (ints around : List Ident) (rs : List written.Res) → resources_from (map (nameless_res ints around) rs) ≡ nameless_resources ints around (written.resources_from rs)
arms_read ints around [] = refl
arms_read ints around (r ∷ rs) = ap (More (nameless_res ints around r)) (arms_read ints around rs)

arms_fit : (ints around : List Ident) (rs : List written.Res) → list_all res_fits (map (nameless_res ints around) rs) ≡ resources_fit (nameless_resources ints around (written.resources_from rs))
arms_fit ints around [] = refl
arms_fit ints around (r ∷ rs) = ap (λ b. res_fits (nameless_res ints around r) && b) (arms_fit ints around rs)

module _ (ints around : List Ident) (shape : written.Shape) (arms : List written.Res) (is : shape ≡ written.Sum (written.resources_from arms)) where
  pub sum_read : (made : List Res) (sum : Shape) → sum ≡ Sum (resources_from made) → made ≡ map (nameless_res ints around) arms → sum ≡ nameless_shape ints around shape
  sum_read made sum so each = so ∙ ap (λ rs. Sum (resources_from rs)) each ∙ ap Sum (arms_read ints around arms) ∙ ap (nameless_shape ints around) (sym is)

  pub sum_fits : list_all res_fits (map (nameless_res ints around) arms) ≡ true → shape_fits (nameless_shape ints around shape) ≡ true
  sum_fits each = ap (λ s. shape_fits (nameless_shape ints around s)) is ∙ sym (arms_fit ints around arms) ∙ each

  pub sum_fails : list_all res_fits (map (nameless_res ints around) arms) ≡ false → shape_fits (nameless_shape ints around shape) ≡ false
  sum_fails each = ap (λ s. shape_fits (nameless_shape ints around s)) is ∙ sym (arms_fit ints around arms) ∙ each

module _ (ints around : List Ident) (shape : written.Shape) (r s : written.Res) (is : shape ≡ written.Pair r s) where
  pub pair_read : (first second : Res) (pair : Shape) → pair ≡ Pair first second → first ≡ nameless_res ints around r → second ≡ nameless_res ints around s → pair ≡ nameless_shape ints around shape
  pair_read first second pair so first_is second_is =
      so ∙ ap (λ a. Pair a second) first_is ∙ ap (Pair (nameless_res ints around r)) second_is ∙ ap (nameless_shape ints around) (sym is)

  pub pair_fits : res_fits (nameless_res ints around r) ≡ true → res_fits (nameless_res ints around s) ≡ true → shape_fits (nameless_shape ints around shape) ≡ true
  pair_fits first second =
      ap (λ t. shape_fits (nameless_shape ints around t)) is ∙ ap (λ b. b && res_fits (nameless_res ints around s)) first ∙ second

  pub second_fails : res_fits (nameless_res ints around r) ≡ true → res_fits (nameless_res ints around s) ≡ false → shape_fits (nameless_shape ints around shape) ≡ false
  second_fails first second =
      ap (λ t. shape_fits (nameless_shape ints around t)) is ∙ ap (λ b. b && res_fits (nameless_res ints around s)) first ∙ second

and_false : (b : Bool) → (b && false) ≡ false
and_false true = refl
and_false false = refl

module _ (ints around : List Ident) (bound : Bound) where
  pub limits_fail : (s : Shape) → list_all limit_fits (map (nameless_limit ints (bound.names ++ around)) bound.limits) ≡ false
      → res_fits (Binds (length bound.names) (map (nameless_limit ints (bound.names ++ around)) bound.limits) s) ≡ false
  limits_fail s fails = ap (λ b. b && shape_fits s) fails

  pub shape_fails : (s : Shape) → shape_fits s ≡ false → res_fits (Binds (length bound.names) (map (nameless_limit ints (bound.names ++ around)) bound.limits) s) ≡ false
  shape_fails s fails =
      ap (λ b. list_all limit_fits (map (nameless_limit ints (bound.names ++ around)) bound.limits) && b) fails
      ∙ and_false (list_all limit_fits (map (nameless_limit ints (bound.names ++ around)) bound.limits))
