-- The words at the start, by their places.
use Rattle.std.proofs.Common.{◌≡◌, ℕ, zero, suc, ◌+◌, ◌*◌, ◌<◌, List, [], ◌∷◌, ◌++◌, length, get_or, sym, refl, ap, ◌∙◌, arith, length-append}
use mathlib.Core.Logic.{dite}
use native.Mathlib.Decide.{ℕ_discrete}
use Rattle.std.proofs.lemmas.List.{get_or_append_left, get_or-append-add}
use Rattle.cell_rules.specs.Words.{UNMADE, FREE, EMPTY, cells_at_start, words_at_start, task_at, claim_at, chan_at, retire_at}
use Rattle.cell_rules.specs.Rule.{Means}
use Rattle.cell_rules.proofs.Seats.{Starts}

pub cells_long : (n : ℕ) → length (cells_at_start n) ≡ 4 * n
cells_long zero = refl
cells_long (suc n) = omega (arith, length-append (cells_at_start n) (UNMADE ∷ FREE n ∷ EMPTY n ∷ 0 ∷ []), cells_long n)

word_at : (n i d : ℕ) → i < n → d < 4 → get_or (cells_at_start n) (4 * i + d) 0 ≡ get_or (UNMADE ∷ FREE i ∷ EMPTY i ∷ 0 ∷ []) d 0
word_at zero i d lt few = absurd (omega arith)
word_at (suc n) i d lt few = dite (ℕ_discrete i n)
    (λ e. let at : 4 * i + d ≡ length (cells_at_start n) + d = omega (arith, cells_long n) in
    ap (λ z. get_or (cells_at_start n ++ UNMADE ∷ FREE n ∷ EMPTY n ∷ 0 ∷ []) z 0) at ∙ (get_or-append-add (cells_at_start n) (UNMADE ∷ FREE n ∷ EMPTY n ∷ 0 ∷ []) d 0 ∙ ap (λ z. get_or (UNMADE ∷ FREE z ∷ EMPTY z ∷ 0 ∷ []) d 0) (sym e)))
    (λ ne. get_or_append_left (cells_at_start n) (UNMADE ∷ FREE n ∷ EMPTY n ∷ 0 ∷ []) 0 (4 * i + d) (omega (arith, cells_long n)) ∙ word_at n i d (omega arith) few)

at_next : (n p i d : ℕ) → p ≡ 1 + (4 * i + d) → get_or (words_at_start n) p 0 ≡ get_or (cells_at_start n) (4 * i + d) 0
at_next n p i d e = let s : p ≡ suc (4 * i + d) = omega arith in ap (λ z. get_or (words_at_start n) z 0) s

module _ {L P A : Type 0} (x : Means L P A) (key : ℕ × ℕ × A) where
  pub starting : (n : ℕ) (ws : List ℕ) → ws ≡ words_at_start n → Starts x key n ws
  starting n ws is = rw is record {
    long = omega (arith, cells_long n);
    drawn = refl;
    tasks = λ i lt. at_next n (task_at i) i 0 (omega arith) ∙ word_at n i 0 lt (omega arith);
    claims = λ i lt. at_next n (claim_at i) i 1 (omega arith) ∙ word_at n i 1 lt (omega arith);
    chans = λ i lt. at_next n (chan_at i) i 2 (omega arith) ∙ word_at n i 2 lt (omega arith);
    retires = λ i lt. at_next n (retire_at i) i 3 (omega arith) ∙ word_at n i 3 lt (omega arith);
  }

-- one more cell
pub words_next : (k : ℕ) → words_at_start k ++ UNMADE ∷ FREE k ∷ EMPTY k ∷ 0 ∷ [] ≡ words_at_start (k + 1)
words_next k = let e : k + 1 ≡ suc k = omega arith in rw e refl
