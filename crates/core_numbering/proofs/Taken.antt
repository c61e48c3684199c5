-- Arms that are taken one by one.
use Rattle.std.proofs.Common.{◌≡◌, ℕ, ◌+◌, ◌<◌, true, ◌&&◌, List, [], ◌∷◌, ◌++◌, length, get_or, take, drop, sym, ap, ◌∙◌}
use Rattle.std.specs.List.{list_all}
use Rattle.std.proofs.lemmas.List.{take_more, at_drop_more}
use Rattle.chan_syntax.specs.declared.surface_tree.SurfaceArm.{SurfaceArm}
use Rattle.core_trees.specs.Core.{is_core_block, is_core_arm}
use Rattle.core_trees.proofs.CoreBlocks.{this_core, other_core}

module _ (xs : List SurfaceArm) (i : ℕ) (x : SurfaceArm) (l : i < length xs) (e : get_or xs i x ≡ x) where
  both_core : list_all is_core_arm (drop i xs) ≡ true → (is_core_arm x && list_all is_core_arm (drop (i + 1) xs)) ≡ true
  both_core h = sym (at_drop_more (list_all is_core_arm) xs i x l ∙ ap (λ y. is_core_arm y && list_all is_core_arm (drop (i + 1) xs)) e) ∙ h

  pub first_core : list_all is_core_arm (drop i xs) ≡ true → is_core_block x.block ≡ true
  first_core h = this_core (is_core_arm x) (list_all is_core_arm (drop (i + 1) xs)) (both_core h)

  pub later_core : list_all is_core_arm (drop i xs) ≡ true → list_all is_core_arm (drop (i + 1) xs) ≡ true
  later_core h = other_core (is_core_arm x) (list_all is_core_arm (drop (i + 1) xs)) (both_core h)

  pub took : take i xs ++ x ∷ [] ≡ take (i + 1) xs
  took = sym (take_more xs i x l ∙ ap (λ y. take i xs ++ y ∷ []) e)
