-- The first place of a name, looked for from the first name on.
use Rattle.std.proofs.Common.{◌≡◌, ℕ, suc, ◌+◌, ◌<◌, ◌≤◌, true, false, if◌then◌else◌, List, map, drop, length, get_or, Bor, Option, Some, None, refl, sym, ap, ◌∙◌, arith}
use Rattle.std.proofs.lemmas.List.{length-map}
use Rattle.std.proofs.Math.ListN.{get_or-map, drop_of_length-le}
use Rattle.std.specs.Option.{option_map}
use Rattle.core_language.specs.Names.{Ident, same}
use Rattle.linear_forms.specs.Substitution.{place_of}
use Rattle.shape_readings.specs.Names.{names_in}
use Rattle.nameless_shapes.proofs.Lists.{one_later}

-- what is found from this place on is what is found
abbrev pub Looks : List Ident → Ident → ℕ → Type 0
Looks xs x i = option_map (λ j. i + j) (place_of (drop i xs) x) ≡ place_of xs x

abbrev from_here : ℕ → Option ℕ → Option ℕ
from_here i o = option_map (λ j. i + j) o

pub looks_on : (xs : List Ident) (x : Ident) (i : ℕ) (y : Ident) → i < length xs → y ≡ get_or xs i y → same y x ≡ false → Looks xs x i → Looks xs x (i + 1)
looks_on xs x i y within is other so =
    step (place_of (drop (i + 1) xs) x) ∙ sym (ap (λ b. from_here i (if b then Some 0 else option_map suc (place_of (drop (i + 1) xs) x))) other)
    ∙ sym (ap (λ ys. from_here i (place_of ys x)) (one_later xs i y within is)) ∙ so
  where
    step : (o : Option ℕ) → from_here (i + 1) o ≡ from_here i (option_map suc o)
    step None = refl
    step (Some j) = let further : (i + 1) + j ≡ i + suc j = omega arith in ap Some further

pub looks_here : (xs : List Ident) (x : Ident) (i : ℕ) (y : Ident) → i < length xs → y ≡ get_or xs i y → same y x ≡ true → Looks xs x i → Some i ≡ place_of xs x
looks_here xs x i y within is this so =
    let here : Some i ≡ Some (i + 0) = (let at : i ≡ i + 0 = omega arith in ap Some at) in
    here ∙ sym (ap (λ b. from_here i (if b then Some 0 else option_map suc (place_of (drop (i + 1) xs) x))) this)
    ∙ sym (ap (λ ys. from_here i (place_of ys x)) (one_later xs i y within is)) ∙ so

pub looks_past : (xs : List Ident) (x : Ident) (i : ℕ) → length xs ≤ i → Looks xs x i → None ≡ place_of xs x
looks_past xs x i past so = sym (ap (λ ys. from_here i (place_of ys x)) (drop_of_length-le xs past)) ∙ so

-- the name behind a reference
pub behind : (names : List (Bor Ident)) (i : ℕ) (name : Bor Ident) → name ≡ get_or names i name → name.now ≡ get_or (names_in names) i name.now
behind names i name is = ap (λ (n : Bor Ident). n.now) is ∙ sym (get_or-map (λ (n : Bor Ident). n.now) names i name)

pub looks_first : (xs : List Ident) (x : Ident) → Looks xs x 0
looks_first xs x = pick (place_of xs x)
  where
    pick : (o : Option ℕ) → from_here 0 o ≡ o
    pick None = refl
    pick (Some j) = let same_place : 0 + j ≡ j = omega arith in ap Some same_place

pub below : (names : List (Bor Ident)) (i : ℕ) → i < length names → i < length (names_in names)
below names i within = rw (length-map names (λ (n : Bor Ident). n.now)) within
