-- A number between two others, and a list that ascends.
use Rattle.std.proofs.Common.{◌≡◌, ℕ, ◌<◌, ◌≤◌, Bool, true, false, leb, List, length, get_or, ⊎_elim, refl, sym, subst, arith}
use Rattle.std.specs.List.{list_any}
use Rattle.std.specs.List.Sorted.{IsNonDecreasing}
use Rattle.std.proofs.lemmas.Bool.{and_left, and_right, and_parts, and_from, lt-leb, le-leb, leb-true, leb-false, cases_lt}
use Rattle.std.proofs.lemmas.List.Elements.{All-from_get_or}
use Rattle.std.proofs.lemmas.List.Folds.{list_any_none, list_any_at}
use Rattle.name_uses.specs.Uses.{is_between}

pub between : (low high n : ℕ) → low ≤ n → n ≤ high → is_between low high n ≡ true
between low high n from to = and_from _ _ (le-leb low n from) (le-leb n high to)

pub bounds : (low high n : ℕ) → is_between low high n ≡ true → (low ≤ n) × (n ≤ high)
bounds low high n is = let (from, to) = and_parts (leb low n) (leb n high) is in (leb-true low n from, leb-true n high to)

module _ (xs : List ℕ) (low high i : ℕ) (found : (i ≤ length xs) × ((k : ℕ) → k < i → get_or xs k 0 < low) × ((k : ℕ) → i ≤ k → k < length xs → low < get_or xs k 0)) where
  below : (n : ℕ) → n < low → is_between low high n ≡ false
  below n lt = and_left (leb low n) (leb n high) (lt-leb low n lt)

  above : (n : ℕ) → high < n → is_between low high n ≡ false
  above n lt = and_right (leb low n) (leb n high) (lt-leb n high lt)

  none : ((k : ℕ) → k < length xs → is_between low high (get_or xs k 0) ≡ false) → list_any (is_between low high) xs ≡ false
  none each = list_any_none (is_between low high) xs (All-from_get_or (λ n. is_between low high n ≡ false) xs 0 each)

  -- none stands at the place or behind it
  pub past : length xs ≤ i → false ≡ list_any (is_between low high) xs
  past long = sym (none (λ k lt. below (get_or xs k 0) (found.1 k (omega (arith, long, lt)))))

  -- the one at the place is the least that is not below
  pub at_place : IsNonDecreasing xs → i < length xs → (n : ℕ) → n ≡ get_or xs i 0 → leb n high ≡ list_any (is_between low high) xs
  at_place sorted lt n is = by (leb n high) refl
    where
      from : low < n
      from = let ahead = found.2 i (omega arith) lt in omega (arith, ahead, is)

      by : (b : Bool) → leb n high ≡ b → b ≡ list_any (is_between low high) xs
      by true e = sym (list_any_at (is_between low high) xs i 0 lt (subst (λ m. is_between low high m ≡ true) is (between low high n (omega (arith, from)) (leb-true n high e))))
      by false e = sym (none (λ k inside. ⊎_elim
          (λ before. below (get_or xs k 0) (found.1 k before))
          (λ after. let more : get_or xs i 0 ≤ get_or xs k 0 = sorted i k 0 after inside in
          let over = leb-false n high e in
          above (get_or xs k 0) (omega (arith, more, is, over)))
          (cases_lt k i)))
