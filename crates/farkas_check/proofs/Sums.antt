-- Sums of multiples of hypotheses.
use Rattle.std.proofs.Common.{◌≡◌, ℕ, zero, suc, ◌+◌, ◌<◌, ◌≤◌, ℤ, pos, ◌+ℤ◌, ◌*ℤ◌, unsigned_abs, List, [], ◌∷◌, length, take, get_or, refl, arith}
use Rattle.std.proofs.lemmas.Int.{ints}
use Rattle.std.proofs.Math.IntN as Z
use Rattle.farkas_check.specs.declared.cert.Row.{Row}
use Rattle.farkas_check.specs.declared.cert.Mention.{Mention}
use Rattle.farkas_check.specs.Rows.{hypothesis}
use Rattle.farkas_check.specs.Certificates.{combined}

-- what one mention adds
abbrev pub term_of : (Row → ℤ) → List Row → Mention → ℤ
term_of number hyps m = m.factor *ℤ number (hypothesis hyps m.index)

pub combined-more : (number : Row → ℤ) (hyps : List Row) (ms : List Mention) (i : ℕ) (d : Mention) → i < length ms → combined number hyps (take (suc i) ms) ≡ combined number hyps (take i ms) +ℤ term_of number hyps (get_or ms i d)
combined-more number hyps [] i d h = absurd (omega arith)
combined-more number hyps (m ∷ ms) zero d h = omega (arith, ints)
combined-more number hyps (m ∷ ms) (suc i) d h = omega (arith, ints, combined-more number hyps ms i d (omega arith))

pub combined-zero : (number : Row → ℤ) (hyps : List Row) (ms : List Mention) → ((index : ℕ) → number (hypothesis hyps index) ≡ pos 0) → combined number hyps ms ≡ pos 0
combined-zero number hyps [] each = refl
combined-zero number hyps (m ∷ ms) each = rw (each m.index) (omega (arith, ints, Z.*ℤ-zero m.factor, combined-zero number hyps ms each))

pub combined-cong : (f g : Row → ℤ) (hyps : List Row) (ms : List Mention) → ((index : ℕ) → f (hypothesis hyps index) ≡ g (hypothesis hyps index)) → combined f hyps ms ≡ combined g hyps ms
combined-cong f g hyps [] each = refl
combined-cong f g hyps (m ∷ ms) each = rw (each m.index, combined-cong f g hyps ms each)

-- the size of a sum is at most the sum of the sizes
pub size-add : (a b : ℤ) → unsigned_abs (a +ℤ b) ≤ unsigned_abs a + unsigned_abs b
size-add a b = omega (arith, ints)

pub hypothesis-at : (hyps : List Row) (index : ℕ) (d : Row) → index < length hyps → hypothesis hyps index ≡ get_or hyps index d
hypothesis-at [] index d h = absurd (omega arith)
hypothesis-at (r ∷ rs) zero d h = refl
hypothesis-at (r ∷ rs) (suc index) d h = hypothesis-at rs index d (omega arith)
