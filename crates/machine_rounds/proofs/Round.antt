-- One round as the code does it: look at the ready names, then a turn of each that moves, and collect who may move next.
use Rattle.std.proofs.Common.{◌≡◌, ◌⊎◌, inl, inr, Bool, true, false, cond, not, ◌&&◌, ◌||◌, List, [], ◌∷◌, Option, Some, None, Ordering, refl, ap, sym, ◌∙◌, subst, filter}
use Rattle.std.specs.Ordering.{eq_by_cmp}
use Rattle.std.specs.List.Sorted.{IsStrictlySortedBy}
use Rattle.std.specs.Cmp.{IsTotalOrder}
use Rattle.std.proofs.lemmas.Map.Lookups.{CmpEqualImpliesEq}
use Rattle.machine_rounds.specs.Ready.{turns, round, IsLocal, IsParked}
use Rattle.machine_rounds.proofs.Ready.{turn_parked, parked_more}
use Rattle.machine_rounds.specs.Sets.{has}
use Rattle.machine_rounds.proofs.Sorted.{equal_from, same_movers}

module _ {S K C : Type 0} (cmp : K → K → Ordering) (order : IsTotalOrder cmp) (same-is : CmpEqualImpliesEq cmp)
    (moves : S → K → Bool) (turn : S → K → S) (names : S → List K) (at : S → K → Option C) (changed : S → K → K → Bool) (touches : S → K → C → Bool)
    (local : IsLocal moves turn at changed touches) (same_at : Option C → C → Bool) (at-self : (c : C) → same_at (Some c) c ≡ true) where
  -- after the looks: who is live are the movers
  abbrev pub waits_after : S → List K → (C → K → Bool) → C → K → Bool
  waits_after s ready waits c q = waits c q || (has cmp ready q && same_at (at s q) c)

  -- the looks, all at once
  pub looked : (s : S) (ready : List K) (waits : C → K → Bool) → IsParked moves at s (has cmp ready) waits →
      IsParked moves at s (λ q. has cmp ready q && moves s q) (waits_after s ready waits)
  looked s ready waits parked q dead = by (has cmp ready q) refl
    where
      either : (a b : Bool) → b ≡ true → (a || b) ≡ true
      either true b e = refl
      either false b e = e

      first : (a b : Bool) → a ≡ true → (a || b) ≡ true
      first true b e = refl
      first false b e = cc

      at_is : (c : C) → at s q ≡ Some c → same_at (at s q) c ≡ true
      at_is c e = ap (λ o. same_at o c) e ∙ at-self c

      is_still : (b : Bool) → has cmp ready q ≡ true → moves s q ≡ b → moves s q ≡ false
      is_still false e f = f
      is_still true e f = let y : (has cmp ready q && moves s q) ≡ true = ap (λ b. b && moves s q) e ∙ f in cc

      by : (b : Bool) → has cmp ready q ≡ b → (moves s q ≡ false) × ((c : C) → at s q ≡ Some c → waits_after s ready waits c q ≡ true)
      by true e = (is_still (moves s q) e refl, λ c f. either (waits c q) (has cmp ready q && same_at (at s q) c) (ap (λ b. b && same_at (at s q) c) e ∙ at_is c f))
      by false e = ((parked q e).0, λ c f. first (waits c q) (has cmp ready q && same_at (at s q) c) ((parked q e).1 c f))

  -- so the round over the ready names is the round
  pub round_ready : (s : S) (ready : List K) (waits : C → K → Bool) → IsParked moves at s (has cmp ready) waits → IsStrictlySortedBy cmp ready → IsStrictlySortedBy cmp (names s) →
      ((q : K) → has cmp (names s) q ≡ false → moves s q ≡ false) → turns moves turn s (filter (moves s) ready) ≡ round moves turn names s
  round_ready s ready waits parked sr sn named = ap (turns moves turn s) (same_movers cmp order same-is (moves s) ready (names s) sr sn (λ q e. (parked q e).0) named)

  -- one turn in the loop: `rest` are the movers still to come, `next` who may move in the next round
  pub turned : (s : S) (p : K) (rest : List K) (next next' : K → Bool) (waits waits' : C → K → Bool) →
      ((q : K) → next q ≡ true → next' q ≡ true) →
      ((q : K) → changed s p q ≡ true → next' q ≡ true) →
      changed s p p ≡ true →
      ((c : C) (q : K) → touches s p c ≡ true → waits c q ≡ true → next' q ≡ true) →
      ((c : C) (q : K) → touches s p c ≡ false → waits c q ≡ true → waits' c q ≡ true) →
      IsParked moves at s (λ q. has cmp (p ∷ rest) q || next q) waits → IsParked moves at (turn s p) (λ q. has cmp rest q || next' q) waits'
  turned s p rest next next' waits waits' more changes self wakes keeps parked =
      turn_parked moves turn at changed touches local s p (λ q. has cmp (p ∷ rest) q || next q) (λ q. has cmp rest q || next' q) waits waits' stay (λ q e. late (has cmp rest q) (next' q) (changes q e)) (λ c q t w. late (has cmp rest q) (next' q) (wakes c q t w)) keeps parked
    where
      late : (a b : Bool) → b ≡ true → (a || b) ≡ true
      late true b e = refl
      late false b e = e

      three : (q : K) (h a b b' : Bool) → (h ≡ true → b' ≡ true) → (b ≡ true → b' ≡ true) → ((h || a) || b) ≡ true → (a || b') ≡ true
      three q true a b b' f g e = late a b' (f refl)
      three q false true b b' f g e = refl
      three q false false b b' f g e = g e

      stay : (q : K) → changed s p q ≡ false → (has cmp (p ∷ rest) q || next q) ≡ true → (has cmp rest q || next' q) ≡ true
      stay q same e = three q (eq_by_cmp cmp q p) (has cmp rest q) (next q) (next' q) (λ h. absurd (off h)) (more q) e
        where
          off : eq_by_cmp cmp q p ≡ true → ⊥
          off h = let y : changed s p q ≡ true = ap (changed s p) (same-is q p (equal_from (cmp q p) h)) ∙ self in cc
