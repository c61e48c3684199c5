-- Lists from a place on.
use Rattle.std.proofs.Common.{◌≡◌, ℕ, suc, ◌+◌, ◌-◌, ◌<◌, ◌≤◌, Bool, true, false, ◌&&◌, List, [], ◌∷◌, ◌++◌, map, drop, length, get_or, append_assoc, ◌≢◌, refl, sym, ap, ◌∙◌, arith}
use Rattle.std.specs.List.{list_all}
use Rattle.std.specs.Cmp.Lexicographic.{pointwise}
use Rattle.std.proofs.lemmas.List.{map-append}
use Rattle.std.proofs.Math.Seq.{drop-cons}

-- one item more, from the last one on
pub one_earlier : {X : Type 0} (xs : List X) (k : ℕ) (x : X) → 0 < k → k ≤ length xs → x ≡ get_or xs (k - 1) x → drop (k - 1) xs ≡ x ∷ drop k xs
one_earlier xs k x some within is =
    let back : suc (k - 1) ≡ k = omega (arith, some) in
    drop-cons xs (k - 1) x (omega (arith, some, within)) ∙ ap (λ y. y ∷ drop (suc (k - 1)) xs) (sym is) ∙ ap (λ j. x ∷ drop j xs) back

-- one item more, from the first one on
pub one_later : {X : Type 0} (xs : List X) (k : ℕ) (x : X) → k < length xs → x ≡ get_or xs k x → drop k xs ≡ x ∷ drop (k + 1) xs
one_later xs k x within is =
    let next : suc k ≡ k + 1 = omega arith in
    drop-cons xs k x within ∙ ap (λ y. y ∷ drop (suc k) xs) (sym is) ∙ ap (λ j. x ∷ drop j xs) next

-- ---- loops that put what a function makes of each item

module _ {X Y : Type 0} (f : X → Y) (xs : List X) (i : ℕ) (x : X) (within : i < length xs) (is : x ≡ get_or xs i x) where
  pub put_next : (ys : List Y) (y : Y) → y ≡ f x → ys ++ map f (drop i xs) ≡ map f xs → (ys ++ y ∷ []) ++ map f (drop (i + 1) xs) ≡ map f xs
  put_next ys y made so =
      append_assoc ys (y ∷ []) (map f (drop (i + 1) xs)) ∙ ap (λ z. ys ++ z ∷ map f (drop (i + 1) xs)) made
      ∙ ap (λ zs. ys ++ map f zs) (sym (one_later xs i x within is)) ∙ so

  pub test_next : (test : Y → Bool) → test (f x) ≡ true → list_all test (map f (drop i xs)) ≡ list_all test (map f xs)
      → list_all test (map f (drop (i + 1) xs)) ≡ list_all test (map f xs)
  test_next test holds so =
      ap (λ b. b && list_all test (map f (drop (i + 1) xs))) (sym holds) ∙ ap (λ zs. list_all test (map f zs)) (sym (one_later xs i x within is)) ∙ so

  pub test_fails : (test : Y → Bool) → test (f x) ≡ false → list_all test (map f (drop i xs)) ≡ list_all test (map f xs) → list_all test (map f xs) ≡ false
  test_fails test fails so =
      sym so ∙ ap (λ zs. list_all test (map f zs)) (one_later xs i x within is) ∙ ap (λ b. b && list_all test (map f (drop (i + 1) xs))) fails

-- the same over what the items are read as
module _ {S X Y : Type 0} (f : X → Y) (of : S → X) (xs : List S) (i : ℕ) (x : S) (within : i < length xs) (is : x ≡ get_or xs i x) where
  pub list_put_next : (ys : List Y) (y : Y) → y ≡ f (of x) → ys ++ map f (map of (drop i xs)) ≡ map f (map of xs)
      → (ys ++ y ∷ []) ++ map f (map of (drop (i + 1) xs)) ≡ map f (map of xs)
  list_put_next ys y made so =
      append_assoc ys (y ∷ []) (map f (map of (drop (i + 1) xs))) ∙ ap (λ z. ys ++ z ∷ map f (map of (drop (i + 1) xs))) made
      ∙ ap (λ zs. ys ++ map f (map of zs)) (sym (one_later xs i x within is)) ∙ so

  pub read_test_next : (test : Y → Bool) → test (f (of x)) ≡ true → list_all test (map f (map of (drop i xs))) ≡ list_all test (map f (map of xs))
      → list_all test (map f (map of (drop (i + 1) xs))) ≡ list_all test (map f (map of xs))
  read_test_next test holds so =
      ap (λ b. b && list_all test (map f (map of (drop (i + 1) xs)))) (sym holds) ∙ ap (λ zs. list_all test (map f (map of zs))) (sym (one_later xs i x within is)) ∙ so

  pub read_test_fails : (test : Y → Bool) → test (f (of x)) ≡ false → list_all test (map f (map of (drop i xs))) ≡ list_all test (map f (map of xs))
      → list_all test (map f (map of xs)) ≡ false
  read_test_fails test fails so =
      sym so ∙ ap (λ zs. list_all test (map f (map of zs))) (one_later xs i x within is) ∙ ap (λ b. b && list_all test (map f (map of (drop (i + 1) xs)))) fails

-- and what is put is read too
module _ {S T X Y : Type 0} (f : X → Y) (of : S → X) (out : T → Y) (xs : List S) (i : ℕ) (x : S) (within : i < length xs) (is : x ≡ get_or xs i x) where
  pub read_put_next : (ys : List T) (y : T) → out y ≡ f (of x) → map out ys ++ map f (map of (drop i xs)) ≡ map f (map of xs)
      → map out (ys ++ y ∷ []) ++ map f (map of (drop (i + 1) xs)) ≡ map f (map of xs)
  read_put_next ys y made so =
      ap (λ zs. zs ++ map f (map of (drop (i + 1) xs))) (map-append out ys (y ∷ [])) ∙ append_assoc (map out ys) (out y ∷ []) (map f (map of (drop (i + 1) xs)))
      ∙ ap (λ z. map out ys ++ z ∷ map f (map of (drop (i + 1) xs))) made ∙ ap (λ zs. map out ys ++ map f (map of zs)) (sym (one_later xs i x within is)) ∙ so

-- ---- two lists, one by one

pub uneven : {X : Type 0} (same : X → X → Bool) (xs ys : List X) → length xs ≢ length ys → pointwise same xs ys ≡ false
uneven same [] [] different = absurd (different refl)
uneven same [] (y ∷ ys) different = refl
uneven same (x ∷ xs) [] different = refl
uneven same (x ∷ xs) (y ∷ ys) different = ap (λ b. same x y && b) (uneven same xs ys (λ e. different (ap suc e))) ∙ and_false (same x y)
  where
    and_false : (b : Bool) → (b && false) ≡ false
    and_false true = refl
    and_false false = refl
