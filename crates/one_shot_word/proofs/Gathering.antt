-- The views of several hands in one.
use Rattle.std.proofs.Common.{◌≡◌, ℕ, suc, ◌+◌, ◌<◌, List, [], ◌∷◌, length, refl, ap, arith, All, Some, slice_get, remove}
use Rattle.cell_rules.specs.declared.view.View.{View}
use Rattle.cell_rules.specs.Lists.{total}
use Rattle.cell_rules.specs.Rule.{both}
use Rattle.cell_rules.specs.Closing.{HasNothing}
use Rattle.cell_rules.proofs.Totals.{total-append}
use Rattle.cell_rules.specs.Lists.{one}
use Rattle.cell_rules.specs.Marks.{mark}
use Rattle.one_shot_word.specs.declared.cells.Cells.{Cells}
use Rattle.one_shot_word.specs.declared.hand.Hand.{Hand}
use Rattle.one_shot_word.specs.Hands.{IsDone, gathered, together}

both_nothing : {L A : Type 0} (v w : View L A) → HasNothing v → HasNothing w → HasNothing (both v w)
both_nothing v w a b = λ q m small. omega (arith, total-append (one (mark q m)) v.marks w.marks, a q m small, b q m small)

module _ {L P A : Type 0} where
  abbrev pub parts_of : List (Hand L P A) → ℕ
  parts_of hs = total (λ h. h.seat.me.0.parts) hs

  pub gathered_parts : (v : View L (A × ℕ)) (hs : List (Hand L P A)) → (gathered v hs).parts ≡ v.parts + parts_of hs
  gathered_parts v [] = omega arith
  gathered_parts v (h ∷ hs) = omega (arith, gathered_parts (both v h.seat.me.0) hs)

  pub gathered_nothing : (cells : Cells L P A) (v : View L (A × ℕ)) (hs : List (Hand L P A)) → HasNothing v → All (IsDone cells) hs → HasNothing (gathered v hs)
  gathered_nothing cells v [] idle all = idle
  gathered_nothing cells v (h ∷ hs) idle all = gathered_nothing cells (both v h.seat.me.0) hs (both_nothing v h.seat.me.0 idle (all 0 h (omega arith)).1) (λ k d lt. all (suc k) d (omega arith))

  pub together_parts : (hs : List (Hand L P A)) → (together hs).parts ≡ parts_of hs
  together_parts [] = refl
  together_parts (h ∷ hs) = gathered_parts h.seat.me.0 hs

  pub together_nothing : (cells : Cells L P A) (hs : List (Hand L P A)) → All (IsDone cells) hs → HasNothing (together hs)
  together_nothing cells [] all = λ q m small. refl
  together_nothing cells (h ∷ hs) all = gathered_nothing cells h.seat.me.0 hs (all 0 h (omega arith)).1 (λ k d lt. all (suc k) d (omega arith))

  pub some_hands : (hs : List (Hand L P A)) → 0 < parts_of hs → 0 < length hs
  some_hands [] lt = absurd (omega arith)
  some_hands (h ∷ hs) lt = omega arith

-- the first element, and the list once it is out
pub first_out : {X : Type 0} (xs : List X) (x : X) → slice_get xs 0 ≡ Some x → xs ≡ x ∷ remove xs 0
first_out [] x e = absurd cc
first_out (y ∷ ys) x e = let same : y ≡ x = cc in ap (λ z. z ∷ ys) same
