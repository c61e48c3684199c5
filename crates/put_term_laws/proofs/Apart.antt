-- Numbered names are apart.
use Rattle.std.proofs.Common.{◌≡◌, ℕ, zero, suc, ◌<◌, ◌+◌, ◌^◌, Bool, true, false, if◌then◌else◌, List, [], ◌∷◌, ◌++◌, decimal, Some, option_map, refl, sym, ap, ◌∙◌, arith}
use Rattle.std.proofs.lemmas.Fmt.{decimal_is_IsNumeral}
use Rattle.std.specs.Str.Parse.{digits_value}
use Rattle.core_language.specs.Names.{same}
use Rattle.linear_forms.specs.Substitution.{place_of}
use Rattle.linear_forms.proofs.SameNames.{same_is, same-self}
use Rattle.session_lowering.specs.MadeNames.{numbered, numbered_from}
use Rattle.put_term_laws.specs.MadeNames.{NumberedIsOne, NumberedStands}

tail_of : List ℕ → List ℕ
tail_of [] = []
tail_of (x ∷ xs) = xs

same_behind : (base xs ys : List ℕ) → base ++ xs ≡ base ++ ys → xs ≡ ys
unfolding tail_of
same_behind [] xs ys is = is
same_behind (b ∷ base) xs ys is = same_behind base xs ys (ap tail_of is)

decimal_is_one : (i j : ℕ) → i < 2 ^ 64 → j < 2 ^ 64 → decimal i ≡ decimal j → i ≡ j
decimal_is_one i j small other is = sym ((decimal_is_IsNumeral i small).1) ∙ ap (digits_value 10) is ∙ (decimal_is_IsNumeral j other).1

pub numbered_is_one : NumberedIsOne
unfolding tail_of
numbered_is_one base i j small other is = decimal_is_one i j small other (ap tail_of (same_behind base (46 ∷ decimal i) (46 ∷ decimal j) is))

from_none : (k : ℕ) → k + 0 ≡ k
from_none k = omega arith

pub numbered_stands : NumberedStands
numbered_stands base k i [] below small = absurd (omega (arith, below))
numbered_stands base k zero (x ∷ xs) below small =
    ap (λ n. place_of (numbered base k ∷ numbered_from base (suc k) xs) (numbered base n)) (from_none k)
    ∙ ap (λ b. if b then Some 0 else option_map suc (place_of (numbered_from base (suc k) xs) (numbered base k))) (same-self (numbered base k))
numbered_stands base k (suc i) (x ∷ xs) below small =
    later (same (numbered base k) (numbered base (k + suc i))) refl (numbered_stands base (suc k) i xs (omega (arith, below)) (omega (arith, small)))
  where
    counted : suc k + i ≡ k + suc i
    counted = omega arith

    apart : k ≡ k + suc i → ⊥
    apart is = omega (arith, is)

    later : (b : Bool) → same (numbered base k) (numbered base (k + suc i)) ≡ b → place_of (numbered_from base (suc k) xs) (numbered base (suc k + i)) ≡ Some i
        → (if b then Some 0 else option_map suc (place_of (numbered_from base (suc k) xs) (numbered base (k + suc i)))) ≡ Some (suc i)
    later true is more = absurd (apart (numbered_is_one base k (k + suc i) (omega (arith, small)) (omega (arith, below, small)) (same_is (numbered base k) (numbered base (k + suc i)) is)))
    later false is more = ap (λ n. option_map suc (place_of (numbered_from base (suc k) xs) (numbered base n))) (sym counted) ∙ ap (option_map suc) more
