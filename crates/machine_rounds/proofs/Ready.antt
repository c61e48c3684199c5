-- The names outside the ready ones don't move, through turns and parkings; and so a round over the ready names is the round.
use Rattle.std.proofs.Common.{◌⊎◌, inl, inr, ◌≡◌, Bool, true, false, ◌||◌, List, [], ◌∷◌, Option, Some, None, refl, ap, sym, ◌∙◌, filter}
use Rattle.machine_rounds.specs.Ready.{turns, round, IsLocal, IsParked}

module _ {S K C : Type 0} (moves : S → K → Bool) (turn : S → K → S) (at : S → K → Option C) (changed : S → K → K → Bool) (touches : S → K → C → Bool) (local : IsLocal moves turn at changed touches) where
  -- a turn: the live of before but p stay so, and those changed and those that wait at a channel touched become so
  pub turn_parked : (s : S) (p : K) (live live' : K → Bool) (waits waits' : C → K → Bool) →
      ((q : K) → changed s p q ≡ false → live q ≡ true → live' q ≡ true) →
      ((q : K) → changed s p q ≡ true → live' q ≡ true) →
      ((c : C) (q : K) → touches s p c ≡ true → waits c q ≡ true → live' q ≡ true) →
      ((c : C) (q : K) → touches s p c ≡ false → waits c q ≡ true → waits' c q ≡ true) →
      IsParked moves at s live waits → IsParked moves at (turn s p) live' waits'
  turn_parked s p live live' waits waits' stay changes wakes keeps parked q out = go (changed s p q) refl (live q) refl
    where
      here : changed s p q ≡ false → live q ≡ false → (moves (turn s p) q ≡ false) × ((c : C) → at (turn s p) q ≡ Some c → waits' c q ≡ true)
      here same dead = ((local s p q same).1 untouched ∙ (parked q dead).0, λ c e. keeps c q (untouched c (sym ((local s p q same).0) ∙ e)) ((parked q dead).1 c (sym ((local s p q same).0) ∙ e)))
        where
          untouched : (c : C) → at s q ≡ Some c → touches s p c ≡ false
          untouched c e = by (touches s p c) refl
            where
              by : (b : Bool) → touches s p c ≡ b → touches s p c ≡ false
              by false t = t
              by true t = let y = wakes c q t ((parked q dead).1 c e) in cc

      go : (b : Bool) → changed s p q ≡ b → (d : Bool) → live q ≡ d → (moves (turn s p) q ≡ false) × ((c : C) → at (turn s p) q ≡ Some c → waits' c q ≡ true)
      go true e d f = let y = changes q e in cc
      go false e true f = let y = stay q e f in cc
      go false e false f = here e f

-- a look: a ready task that doesn't move is taken out, where it waits from now on at the channel that it looks at
pub parked_more : {S K C : Type 0} (moves : S → K → Bool) (at : S → K → Option C) (s : S) (p : K) (live live' : K → Bool) (waits waits' : C → K → Bool) →
    moves s p ≡ false → ((c : C) → at s p ≡ Some c → waits' c p ≡ true) → ((q : K) → live' q ≡ false → (live q ≡ false) ⊎ (q ≡ p)) →
    ((c : C) (q : K) → waits c q ≡ true → waits' c q ≡ true) →
    IsParked moves at s live waits → IsParked moves at s live' waits'
parked_more moves at s p live live' waits waits' still here out keeps parked q dead = by (out q dead)
  where
    by : (live q ≡ false) ⊎ (q ≡ p) → (moves s q ≡ false) × ((c : _) → at s q ≡ Some c → waits' c q ≡ true)
    by (inl d) = ((parked q d).0, λ c e. keeps c q ((parked q d).1 c e))
    by (inr e) = (ap (moves s) e ∙ still, λ c f. ap (waits' c) e ∙ here c (sym (ap (at s) e) ∙ f))
