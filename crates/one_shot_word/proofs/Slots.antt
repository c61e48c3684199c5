-- What the slots at the end hold, one by one.
use Rattle.std.proofs.Common.{◌≡◌, ℕ, zero, suc, ◌+◌, List, [], ◌∷◌, ◌++◌, sym, ap, ◌∙◌, arith, Some, None}
use mathlib.Core.Option.{some, some-injective, some-ne-none}
use lib.ListN.{get_elem?}
use Rattle.std.proofs.Math.ListN.{take}
use Rattle.cell_rules.specs.declared.item.Item.TheVariants.{Load, Parcel}
use Rattle.cell_rules.specs.Rule.{Held}
use Rattle.cell_rules.specs.Closing.{loads_in, parcels_in}

module _ {L P : Type 0} where
  loads_step : (xs : List (Held L P)) (i : ℕ) (y : Held L P) → get_elem? xs i ≡ some y → loads_in (take (suc i) xs) ≡ loads_in (take i xs) ++ loads_in (y ∷ [])
  loads_step [] i y e = absurd (some-ne-none _ (sym e))
  loads_step (None ∷ xs) zero y e = ap (λ (z : Held L P). loads_in (z ∷ [])) (some-injective _ y e)
  loads_step (Some (Load l) ∷ xs) zero y e = ap (λ (z : Held L P). loads_in (z ∷ [])) (some-injective _ y e)
  loads_step (Some (Parcel p) ∷ xs) zero y e = ap (λ (z : Held L P). loads_in (z ∷ [])) (some-injective _ y e)
  loads_step (None ∷ xs) (suc i) y e = loads_step xs i y e
  loads_step (Some (Load l) ∷ xs) (suc i) y e = ap (λ z. l ∷ z) (loads_step xs i y e)
  loads_step (Some (Parcel p) ∷ xs) (suc i) y e = loads_step xs i y e

  parcels_step : (xs : List (Held L P)) (i : ℕ) (y : Held L P) → get_elem? xs i ≡ some y → parcels_in (take (suc i) xs) ≡ parcels_in (take i xs) ++ parcels_in (y ∷ [])
  parcels_step [] i y e = absurd (some-ne-none _ (sym e))
  parcels_step (None ∷ xs) zero y e = ap (λ (z : Held L P). parcels_in (z ∷ [])) (some-injective _ y e)
  parcels_step (Some (Load l) ∷ xs) zero y e = ap (λ (z : Held L P). parcels_in (z ∷ [])) (some-injective _ y e)
  parcels_step (Some (Parcel p) ∷ xs) zero y e = ap (λ (z : Held L P). parcels_in (z ∷ [])) (some-injective _ y e)
  parcels_step (None ∷ xs) (suc i) y e = parcels_step xs i y e
  parcels_step (Some (Load l) ∷ xs) (suc i) y e = parcels_step xs i y e
  parcels_step (Some (Parcel p) ∷ xs) (suc i) y e = ap (λ z. p ∷ z) (parcels_step xs i y e)

  pub loads_next : (xs : List (Held L P)) (i : ℕ) (y : Held L P) → get_elem? xs i ≡ some y → loads_in (take (i + 1) xs) ≡ loads_in (take i xs) ++ loads_in (y ∷ [])
  loads_next xs i y e = let next : i + 1 ≡ suc i = omega arith in ap (λ z. loads_in (take z xs)) next ∙ loads_step xs i y e

  pub parcels_next : (xs : List (Held L P)) (i : ℕ) (y : Held L P) → get_elem? xs i ≡ some y → parcels_in (take (i + 1) xs) ≡ parcels_in (take i xs) ++ parcels_in (y ∷ [])
  parcels_next xs i y e = let next : i + 1 ≡ suc i = omega arith in ap (λ z. parcels_in (take z xs)) next ∙ parcels_step xs i y e
