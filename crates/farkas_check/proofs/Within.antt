-- A fault names no variable past the rows.
use Rattle.std.proofs.Common.{ℕ, zero, suc, ◌+◌, ◌<◌, Bool, true, false, pos, List, [], ◌∷◌, ◌++◌, length, nat_le, int_lt, flat_map, IfErr, arith}
use Rattle.std.specs.List.{range_with_len}
use Rattle.farkas_check.specs.declared.cert.Row.{Row}
use Rattle.farkas_check.specs.declared.cert.Mention.{Mention}
use Rattle.farkas_check.specs.declared.cert.CertFault.{CertFault}
use Rattle.farkas_check.specs.declared.cert.CertFault.TheVariants.{BadIndex, Negative, NotEqual, Constant}
use Rattle.farkas_check.specs.Rows.{width}
use Rattle.farkas_check.specs.Certificates.{claimed_at, combined_at, constant_left, fault_if, faults_of_mention, mention_faults, faults_at_variable, coefficient_faults, constant_faults, faults, verdict, IsWithin}

-- the first of the faults, if there is one, names no variable from n on
abbrev FirstWithin : ℕ → List CertFault → Type 0
FirstWithin n found = IfErr (verdict found) (IsWithin n)

if_fault : (n : ℕ) (test : Bool) (fault : CertFault) → IsWithin n fault → FirstWithin n (fault_if test fault)
if_fault n true fault h = h
if_fault n false fault h = tt

both : (n : ℕ) (found more : List CertFault) → FirstWithin n found → FirstWithin n more → FirstWithin n (found ++ more)
both n [] more h k = k
both n (fault ∷ found) more h k = h

each : {X : Type 0} (n : ℕ) (f : X → List CertFault) (xs : List X) → ((x : X) → FirstWithin n (f x)) → FirstWithin n (flat_map f xs)
each n f [] h = tt
each n f (x ∷ xs) h = both n (f x) (flat_map f xs) (h x) (each n f xs h)

each_below : (n : ℕ) (f : ℕ → List CertFault) (a k : ℕ) → ((variable : ℕ) → variable < a + k → FirstWithin n (f variable)) → FirstWithin n (flat_map f (range_with_len a k))
each_below n f a zero h = tt
each_below n f a (suc k) h = both n (f a) (flat_map f (range_with_len (a + 1) k)) (h a (omega arith)) (each_below n f (a + 1) k (λ variable b. h variable (omega arith)))

pub first_within : (divisor : ℕ) (mentions : List Mention) (hyps : List Row) (claim : Row) → FirstWithin (width hyps claim) (faults divisor mentions hyps claim)
first_within divisor mentions hyps claim =
    both n (mention_faults hyps mentions ++ coefficient_faults divisor mentions hyps claim) (constant_faults divisor mentions hyps claim)
    (both n (mention_faults hyps mentions) (coefficient_faults divisor mentions hyps claim)
    (each n (faults_of_mention hyps) mentions (λ m. both n (fault_if (nat_le (length hyps) m.index) (BadIndex m.index)) (fault_if (int_lt m.factor (pos 0)) (Negative m.index)) (if_fault n (nat_le (length hyps) m.index) (BadIndex m.index) tt) (if_fault n (int_lt m.factor (pos 0)) (Negative m.index) tt)))
    (each_below n (faults_at_variable divisor mentions hyps claim) 0 n (λ variable below. if_fault n _ (NotEqual variable (claimed_at divisor claim variable) (combined_at mentions hyps variable)) (omega arith))))
    (if_fault n _ (Constant (constant_left divisor mentions hyps claim) divisor) tt)
  where
    n : ℕ
    n = width hyps claim
