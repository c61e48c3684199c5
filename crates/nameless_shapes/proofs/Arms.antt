-- The arms of a sum as a list.
use Rattle.std.proofs.Common.{◌≡◌, ℕ, zero, suc, ◌+◌, ◌<◌, ◌≤◌, ◌&&◌, List, [], ◌∷◌, drop, length, get_or, refl, sym, ap, ◌∙◌, arith}
use Rattle.std.specs.Cmp.Lexicographic.{pointwise}
use Rattle.outline_language.specs.Nameless.{Shape, Res, Sum, same_shape, same_res, same_resources}
use Rattle.nameless_shapes.specs.Reading.{resources_from}
use Rattle.nameless_shapes.specs.Sizes.{res_size, resources_size}
use Rattle.nameless_shapes.proofs.Lists.{one_later}

-- no arm is larger than all of them together
pub arm_within : (rs : List Res) (i : ℕ) (r : Res) → i < length rs → r ≡ get_or rs i r → res_size r ≤ resources_size (resources_from rs)
arm_within rs i r within is = pick (drop i rs) (drop (i + 1) rs) (one_later rs i r within is) (falls rs i)
  where
    falls : (rs : List Res) (i : ℕ) → resources_size (resources_from (drop i rs)) ≤ resources_size (resources_from rs)
    falls rs zero = omega arith
    falls [] (suc i) = omega arith
    falls (s ∷ ss) (suc i) = omega (arith, falls ss i)

    pick : (here later : List Res) → here ≡ r ∷ later → resources_size (resources_from here) ≤ resources_size (resources_from rs) → res_size r ≤ resources_size (resources_from rs)
    pick here later so less = let whole = ap (λ xs. resources_size (resources_from xs)) so in omega (arith, less, whole)

-- sums are one where their arms are, one by one
same_arms : (rs ss : List Res) → same_resources (resources_from rs) (resources_from ss) ≡ pointwise same_res rs ss
same_arms [] [] = refl
same_arms [] (s ∷ ss) = refl
same_arms (r ∷ rs) [] = refl
same_arms (r ∷ rs) (s ∷ ss) = ap (λ b. same_res r s && b) (same_arms rs ss)

pub sums_same : (left right : Shape) (rs ss : List Res) → left ≡ Sum (resources_from rs) → right ≡ Sum (resources_from ss) → pointwise same_res rs ss ≡ same_shape left right
sums_same left right rs ss is other = sym (same_arms rs ss) ∙ sym (ap (λ s. same_shape s right) is ∙ ap (same_shape (Sum (resources_from rs))) other)
