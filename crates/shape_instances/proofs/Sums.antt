-- Sums in which instances stand for binders.
use Rattle.std.proofs.Common.{◌≡◌, ℕ, true, false, ◌&&◌, List, [], ◌∷◌, map, refl, sym, ap, ◌∙◌}
use Rattle.std.specs.List.{list_all}
use Rattle.outline_language.specs.LinearForms.{LinearForm}
use Rattle.outline_language.specs.Nameless.{Shape, Res, Sum, More, shape_with, shape_fits, res_with, resources_with, res_fits, resources_fit}
use Rattle.nameless_shapes.specs.Reading.{resources_from}

arms_with : (instances : List LinearForm) (depth : ℕ) (rs : List Res) → resources_from (map (res_with instances depth) rs) ≡ resources_with instances depth (resources_from rs)
arms_with instances depth [] = refl
arms_with instances depth (r ∷ rs) = ap (More (res_with instances depth r)) (arms_with instances depth rs)

arms_fit : (instances : List LinearForm) (depth : ℕ) (rs : List Res) → list_all res_fits (map (res_with instances depth) rs) ≡ resources_fit (resources_with instances depth (resources_from rs))
arms_fit instances depth [] = refl
arms_fit instances depth (r ∷ rs) = ap (λ b. res_fits (res_with instances depth r) && b) (arms_fit instances depth rs)

module _ (instances : List LinearForm) (depth : ℕ) (shape : Shape) (arms : List Res) (is : shape ≡ Sum (resources_from arms)) where
  pub sum_with : (made : List Res) (sum : Shape) → sum ≡ Sum (resources_from made) → made ≡ map (res_with instances depth) arms → sum ≡ shape_with instances depth shape
  sum_with made sum so each = so ∙ ap (λ rs. Sum (resources_from rs)) each ∙ ap Sum (arms_with instances depth arms) ∙ ap (shape_with instances depth) (sym is)

  pub sum_fits : list_all res_fits (map (res_with instances depth) arms) ≡ true → shape_fits (shape_with instances depth shape) ≡ true
  sum_fits each = ap (λ s. shape_fits (shape_with instances depth s)) is ∙ sym (arms_fit instances depth arms) ∙ each

  pub sum_fails : list_all res_fits (map (res_with instances depth) arms) ≡ false → shape_fits (shape_with instances depth shape) ≡ false
  sum_fails each = ap (λ s. shape_fits (shape_with instances depth s)) is ∙ sym (arms_fit instances depth arms) ∙ each
