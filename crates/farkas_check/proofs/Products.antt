-- Products of integers.
use Rattle.std.proofs.Common.{◌≡◌, ℕ, zero, suc, ◌≤◌, ℤ, pos, negsuc, neg_ℤ, ◌+ℤ◌, ◌-ℤ◌, ◌*ℤ◌, ◌≤ℤ◌, ap, sym, ◌∙◌, arith, mul-suc}
use Rattle.std.proofs.lemmas.Int.{ints}
use Rattle.std.proofs.Math.IntN as Z

pub distribute : (k a b : ℤ) → k *ℤ (a +ℤ b) ≡ (k *ℤ a) +ℤ (k *ℤ b)
distribute (pos zero) a b = omega (arith, ints)
distribute (pos (suc n)) a b = omega (arith, ints, Z.suc_ℤ-*ℤ (pos n) (a +ℤ b), Z.suc_ℤ-*ℤ (pos n) a, Z.suc_ℤ-*ℤ (pos n) b, distribute (pos n) a b)
distribute (negsuc zero) a b = omega (arith, ints)
distribute (negsuc (suc n)) a b = omega (arith, ints, Z.pred_ℤ-*ℤ (negsuc n) (a +ℤ b), Z.pred_ℤ-*ℤ (negsuc n) a, Z.pred_ℤ-*ℤ (negsuc n) b, distribute (negsuc n) a b)

pub distribute_right : (a b k : ℤ) → (a +ℤ b) *ℤ k ≡ (a *ℤ k) +ℤ (b *ℤ k)
distribute_right a b k = Z.*ℤ_comm (a +ℤ b) k ∙ omega (arith, ints, distribute k a b, Z.*ℤ_comm a k, Z.*ℤ_comm b k)

pub neg_times : (x k : ℤ) → neg_ℤ x *ℤ k ≡ neg_ℤ (x *ℤ k)
neg_times x k = omega (arith, ints, distribute_right x (neg_ℤ x) k, Z.zero-*ℤ k, ap (λ y. y *ℤ k) (Z.+ℤ_invr x))

times_pos : (n : ℕ) (a b : ℤ) → (pos n *ℤ a) *ℤ b ≡ pos n *ℤ (a *ℤ b)
times_pos zero a b = ap (λ y. y *ℤ b) (Z.zero-*ℤ a) ∙ Z.zero-*ℤ b ∙ sym (Z.zero-*ℤ (a *ℤ b))
times_pos (suc n) a b = rw (Z.suc_ℤ-*ℤ (pos n) a) (omega (arith, ints, Z.suc_ℤ-*ℤ (pos n) (a *ℤ b), distribute_right (pos n *ℤ a) a b, times_pos n a b))

pub times_times : (k a b : ℤ) → (k *ℤ a) *ℤ b ≡ k *ℤ (a *ℤ b)
times_times (pos n) a b = times_pos n a b
times_times (negsuc n) a b = ap (λ y. y *ℤ b) (neg_times (pos (suc n)) a) ∙ neg_times (pos (suc n) *ℤ a) b ∙ ap neg_ℤ (times_pos (suc n) a b) ∙ sym (neg_times (pos (suc n)) (a *ℤ b))

pub times_at_most_zero : (a b : ℤ) → pos 0 ≤ℤ a → b ≤ℤ pos 0 → (a *ℤ b) ≤ℤ pos 0
times_at_most_zero (pos n) (pos zero) h l = omega (arith, ints, Z.*ℤ-zero (pos n))
times_at_most_zero (pos n) (pos (suc k)) h l = absurd (omega (arith, ints))
times_at_most_zero (pos n) (negsuc k) h l = omega (arith, ints)
times_at_most_zero (negsuc n) b h l = absurd (omega (arith, ints))

-- a multiple of d that is at most d - 1 is a multiple by at most 0
pub below_divisor : (d : ℕ) (x : ℤ) → 1 ≤ d → (pos d *ℤ x) ≤ℤ (pos d -ℤ pos 1) → x ≤ℤ pos 0
below_divisor d (pos zero) h l = omega (arith, ints)
below_divisor d (pos (suc n)) h l = absurd (omega (arith, ints, Z.pos-*ℤ-pos d (suc n), mul-suc d n))
below_divisor d (negsuc n) h l = omega (arith, ints)
