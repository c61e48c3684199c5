-- Lists by turns.
use Rattle.std.proofs.Common.{◌≡◌, ◌≢◌, ℕ, zero, suc, ◌+◌, ◌-◌, Bool, true, false, ◌||◌, List, [], ◌∷◌, drop, Some, None, slice_get, refl, sym, ap, ◌∙◌, subst, arith}
use Rattle.std.specs.List.{list_any}
use Rattle.std.proofs.lemmas.Bool.{or_right}
use Rattle.std.proofs.lemmas.Option.{slice_get-map}
use Rattle.core_programs.specs.Uses.{StandBefore}
use Rattle.core_programs.proofs.Mentioned.{off}

pub turn_first : {X : Type 0} (x : X) (xs : List X) (i : ℕ) → i ≡ 0 → slice_get (x ∷ xs) i ≡ Some x
turn_first x xs zero is = refl
turn_first x xs (suc i) is = absurd (omega (arith, is))

pub turn_later : {X : Type 0} (x : X) (xs : List X) (i : ℕ) → i ≢ 0 → slice_get (x ∷ xs) i ≡ slice_get xs (i - 1)
turn_later x xs zero other = absurd (other refl)
turn_later x xs (suc i) other = let less : i ≡ suc i - 1 = omega arith in ap (slice_get xs) less

pub ruleset turn_rules = (turn_first, turn_later, slice_get-map)

-- what is left at a turn
pub dropped : {X : Type 0} (xs : List X) (k : ℕ) (x : X) → slice_get xs k ≡ Some x → drop k xs ≡ x ∷ drop (suc k) xs
dropped [] k x is = cc
dropped (y ∷ ys) zero x is = let same : y ≡ x = cc in ap (λ z. z ∷ ys) same
dropped (y ∷ ys) (suc k) x is = dropped ys k x is

-- ---- a test of the bodies that follow

pub any_none : (p : ℕ → Bool) (ns : List ℕ) → slice_get ns 0 ≡ None → list_any p ns ≡ false
any_none p [] is = refl
any_none p (m ∷ ns) is = cc

pub any_past : (p : ℕ → Bool) (ns : List ℕ) (k : ℕ) → slice_get ns k ≡ None → list_any p (drop k ns) ≡ false
any_past p [] zero is = refl
any_past p [] (suc k) is = refl
any_past p (m ∷ ns) zero is = cc
any_past p (m ∷ ns) (suc k) is = any_past p ns k is

pub any_first : (p : ℕ → Bool) (ns : List ℕ) (n : ℕ) → slice_get ns 0 ≡ Some n → list_any p (drop 1 ns) ≡ false → list_any p ns ≡ p n
any_first p [] n is none = cc
any_first p (m ∷ ns) n is none = let same : m ≡ n = cc in ap (λ b. p m || b) none ∙ off (p m) ∙ ap p same

pub any_later : (p : ℕ → Bool) (ns : List ℕ) → list_any p (drop 1 ns) ≡ true → list_any p ns ≡ true
any_later p [] is = is
any_later p (m ∷ ns) is = or_right (p m) (list_any p ns) is

pub any_at : (p : ℕ → Bool) (ns : List ℕ) (k n : ℕ) → slice_get ns k ≡ Some n → list_any p (drop k ns) ≡ (p n || list_any p (drop (suc k) ns))
any_at p ns k n is = ap (list_any p) (dropped ns k n is)

-- ---- where bodies begin

pub stands_more : (starts ns : List ℕ) (k n end start s : ℕ) → slice_get ns k ≡ Some n → n + 1 ≡ start → slice_get starts n ≡ Some s → StandBefore starts (drop (suc k) ns) end start
    → StandBefore starts (drop k ns) end s
stands_more starts ns k n end start s is behind at stands =
    subst (λ ms. StandBefore starts ms end s) (sym (dropped ns k n is)) (subst (StandBefore starts (drop (suc k) ns) end) (sym behind) stands, at)
