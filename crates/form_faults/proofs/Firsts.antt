-- The first fault of lists that are joined.
use Rattle.std.proofs.Common.{◌≡◌, if◌then◌else◌, List, [], ◌∷◌, ◌++◌, Option, Some, None, ℕ, zero, suc, ◌≤◌, length, map, slice_get, refl, sym, ap, arith}
use Rattle.chan_base.specs.declared.spans.Span.{Span}
use Rattle.form_faults.specs.declared.faults.Ill.{Ill}
use Rattle.form_faults.specs.Faults.{decides, sooner_of, least, at_element, past}

pub least-nil : (best : Option Ill) → least best [] ≡ best
unfolding least
least-nil best = refl

pub least-one : (best : Option Ill) (f : Ill) → least best (f ∷ []) ≡ (if decides best f.kind f.span then Some f else best)
unfolding least
least-one best f = refl

pub least-append : (best : Option Ill) (xs ys : List Ill) → least best (xs ++ ys) ≡ least (least best xs) ys
unfolding least
least-append best [] ys = refl
least-append best (x ∷ xs) ys = least-append (sooner_of best x) xs ys

pub ruleset first_rules = (least-nil, least-one, least-append)

pub past_end : {X : Type 0} (at : X → Span) (best : Option Ill) (xs : List X) (most : ℕ) → length xs ≤ most → best ≡ least best (past most (map at xs))
unfolding past least
past_end {X = X} at best xs most le = sym (ap (λ o. least best (at_element o)) (none xs most le))
  where
    none : (ys : List X) (k : ℕ) → length ys ≤ k → slice_get (map at ys) k ≡ None
    none [] zero h = refl
    none [] (suc k) h = refl
    none (y ∷ ys) zero h = absurd (omega (arith, h))
    none (y ∷ ys) (suc k) h = none ys k (omega (arith, h))
