-- A certificate is valid exactly where nothing fails.
use Rattle.std.proofs.Common.{◌≡◌, ◌≢◌, ℕ, ◌<◌, ◌≤◌, ◌↔◌, Bool, true, false, not, ℤ, pos, ◌-ℤ◌, ◌≤ℤ◌, ◌<ℤ◌, List, [], ◌++◌, length, All, get_or, flat_map, nat_le, int_lt, Result, Ok, Err, IsOk, refl, sym, ◌∙◌, ◌⊎◌, inl, inr, arith}
use Rattle.std.proofs.lemmas.Int.{ints}
use Rattle.std.proofs.lemmas.Bool.Decides.{Decides-int_eq, Decides-not, nat_tests}
use Rattle.std.proofs.Math.IntN as Z
use Rattle.std.specs.List.{range_with_len}
use Rattle.std.specs.Ordering.{int_eq}
use Rattle.farkas_check.specs.declared.cert.Row.{Row}
use Rattle.farkas_check.specs.declared.cert.Mention.{Mention}
use Rattle.farkas_check.specs.declared.cert.CertFault.{CertFault}
use Rattle.farkas_check.specs.declared.cert.CertFault.TheVariants.{BadIndex, Negative, NotEqual, Constant}
use Rattle.farkas_check.specs.Rows.{coefficient, width}
use Rattle.farkas_check.specs.Certificates.{claimed_at, combined_at, constant_left, IsValid, fault_if, faults_of_mention, faults_at_variable, constant_faults, faults, verdict}
use Rattle.farkas_check.proofs.FaultLists.{empty_left, empty_right, empty_both, none_at, none_of_all, none_below, none_of_all_below, fault_if_false, test_false, none_if_ok, ok_if_none}
use Rattle.farkas_check.proofs.Sums.{combined-zero}
use Rattle.farkas_check.proofs.Widths.{claim-past, hypothesis-past}

-- tests of numbers
at_most : (a b : ℕ) → a ≤ b → nat_le a b ≡ true
at_most a b h = grind (arith, nat_tests)

above : (a b : ℕ) → b < a → nat_le a b ≡ false
above a b h = grind (arith, nat_tests)

above_test : (a b : ℕ) → nat_le a b ≡ false → b < a
above_test a b h = grind (arith, nat_tests)

below_int : (a b : ℤ) → a <ℤ b → int_lt a b ≡ true
below_int a b h = grind (arith, ints)

at_least_int : (a b : ℤ) → b ≤ℤ a → int_lt a b ≡ false
at_least_int a b h = grind (arith, ints)

at_least_test : (a b : ℤ) → int_lt a b ≡ false → b ≤ℤ a
at_least_test a b h = grind (arith, ints)

-- a mention
pub bad_index : (hyps : List Row) (m : Mention) → length hyps ≤ m.index → verdict (faults_of_mention hyps m) ≡ Err (BadIndex m.index)
bad_index hyps m h = rw (at_most (length hyps) m.index h)

pub negative : (hyps : List Row) (m : Mention) → m.index < length hyps → m.factor <ℤ pos 0 → verdict (faults_of_mention hyps m) ≡ Err (Negative m.index)
negative hyps m h n = rw (above (length hyps) m.index h, below_int m.factor (pos 0) n)

pub sound_mention : (hyps : List Row) (m : Mention) → m.index < length hyps → pos 0 ≤ℤ m.factor → faults_of_mention hyps m ≡ []
sound_mention hyps m h n = rw (above (length hyps) m.index h, at_least_int m.factor (pos 0) n)

indexed_mention : (hyps : List Row) (m : Mention) → faults_of_mention hyps m ≡ [] → m.index < length hyps
indexed_mention hyps m e = above_test (length hyps) m.index (test_false (nat_le (length hyps) m.index) (BadIndex m.index) (empty_left (fault_if (nat_le (length hyps) m.index) (BadIndex m.index)) (fault_if (int_lt m.factor (pos 0)) (Negative m.index)) e))

non_negative_mention : (hyps : List Row) (m : Mention) → faults_of_mention hyps m ≡ [] → pos 0 ≤ℤ m.factor
non_negative_mention hyps m e = at_least_test m.factor (pos 0) (test_false (int_lt m.factor (pos 0)) (Negative m.index) (empty_right (fault_if (nat_le (length hyps) m.index) (BadIndex m.index)) (fault_if (int_lt m.factor (pos 0)) (Negative m.index)) e))

pub indexed_all : (hyps : List Row) (ms : List Mention) → flat_map (faults_of_mention hyps) ms ≡ [] → All (λ m. m.index < length hyps) ms
indexed_all hyps ms none = λ k d h. indexed_mention hyps (get_or ms k d) (none_at (faults_of_mention hyps) ms k d h none)

-- the coefficients at a variable
differs : (l r : ℤ) → l ≢ r → not (int_eq l r) ≡ true
differs l r h = (Decides-not (int_eq l r) (Decides-int_eq l r)).1 h

same : (l r : ℤ) → l ≡ r → not (int_eq l r) ≡ false
same l r e = rw ((Decides-int_eq l r).1 e)

not_false : (test : Bool) → not test ≡ false → test ≡ true
not_false true e = refl
not_false false e = cc

same_test : (l r : ℤ) → not (int_eq l r) ≡ false → l ≡ r
same_test l r e = (Decides-int_eq l r).0 (not_false (int_eq l r) e)

pub equal_variable : (divisor : ℕ) (mentions : List Mention) (hyps : List Row) (claim : Row) (variable : ℕ) → claimed_at divisor claim variable ≡ combined_at mentions hyps variable → faults_at_variable divisor mentions hyps claim variable ≡ []
equal_variable divisor mentions hyps claim variable e = fault_if_false (not (int_eq (claimed_at divisor claim variable) (combined_at mentions hyps variable))) _ (same (claimed_at divisor claim variable) (combined_at mentions hyps variable) e)

pub unequal_variable : (divisor : ℕ) (mentions : List Mention) (hyps : List Row) (claim : Row) (variable : ℕ) (left right : ℤ) → left ≡ claimed_at divisor claim variable → right ≡ combined_at mentions hyps variable → left ≢ right → verdict (faults_at_variable divisor mentions hyps claim variable) ≡ Err (NotEqual variable left right)
unequal_variable divisor mentions hyps claim variable left right l r h = rw (← l, ← r, differs left right h)

equal_at : (divisor : ℕ) (mentions : List Mention) (hyps : List Row) (claim : Row) (variable : ℕ) → faults_at_variable divisor mentions hyps claim variable ≡ [] → claimed_at divisor claim variable ≡ combined_at mentions hyps variable
equal_at divisor mentions hyps claim variable e = same_test (claimed_at divisor claim variable) (combined_at mentions hyps variable) (test_false (not (int_eq (claimed_at divisor claim variable) (combined_at mentions hyps variable))) (NotEqual variable (claimed_at divisor claim variable) (combined_at mentions hyps variable)) e)

equal_past : (divisor : ℕ) (mentions : List Mention) (hyps : List Row) (claim : Row) (variable : ℕ) → width hyps claim ≤ variable → claimed_at divisor claim variable ≡ combined_at mentions hyps variable
equal_past divisor mentions hyps claim variable h =
    rw (claim-past hyps claim variable h) (Z.*ℤ-zero (pos divisor) ∙ sym (combined-zero (λ row. coefficient row variable) hyps mentions (hypothesis-past hyps claim variable h)))

-- the constant
pub close_constant : (divisor : ℕ) (mentions : List Mention) (hyps : List Row) (claim : Row) → constant_left divisor mentions hyps claim ≤ℤ (pos divisor -ℤ pos 1) → constant_faults divisor mentions hyps claim ≡ []
close_constant divisor mentions hyps claim h = fault_if_false (int_lt (pos divisor -ℤ pos 1) (constant_left divisor mentions hyps claim)) _ (at_least_int (pos divisor -ℤ pos 1) (constant_left divisor mentions hyps claim) h)

pub far_constant : (divisor : ℕ) (mentions : List Mention) (hyps : List Row) (claim : Row) (left : ℤ) → left ≡ constant_left divisor mentions hyps claim → (pos divisor -ℤ pos 1) <ℤ left → verdict (constant_faults divisor mentions hyps claim) ≡ Err (Constant left divisor)
far_constant divisor mentions hyps claim left e h = rw (← e, below_int (pos divisor -ℤ pos 1) left h)

constant_at : (divisor : ℕ) (mentions : List Mention) (hyps : List Row) (claim : Row) → constant_faults divisor mentions hyps claim ≡ [] → constant_left divisor mentions hyps claim ≤ℤ (pos divisor -ℤ pos 1)
constant_at divisor mentions hyps claim e = at_least_test (pos divisor -ℤ pos 1) (constant_left divisor mentions hyps claim) (test_false (int_lt (pos divisor -ℤ pos 1) (constant_left divisor mentions hyps claim)) (Constant (constant_left divisor mentions hyps claim) divisor) e)

-- the whole certificate
valid_if_none : (divisor : ℕ) (mentions : List Mention) (hyps : List Row) (claim : Row) → faults divisor mentions hyps claim ≡ [] → IsValid divisor mentions hyps claim
valid_if_none divisor mentions hyps claim none =
    let of_mentions : flat_map (faults_of_mention hyps) mentions ≡ [] = empty_left _ _ (empty_left _ (constant_faults divisor mentions hyps claim) none) in
    let of_variables : flat_map (faults_at_variable divisor mentions hyps claim) (range_with_len 0 (width hyps claim)) ≡ [] = empty_right (flat_map (faults_of_mention hyps) mentions) _ (empty_left _ (constant_faults divisor mentions hyps claim) none) in
    record {
      indexed = indexed_all hyps mentions of_mentions;
      non_negative = λ k d h. non_negative_mention hyps (get_or mentions k d) (none_at (faults_of_mention hyps) mentions k d h of_mentions);
      equal = λ variable. equal_everywhere of_variables variable (within variable (width hyps claim));
      constant = constant_at divisor mentions hyps claim (empty_right (flat_map (faults_of_mention hyps) mentions ++ flat_map (faults_at_variable divisor mentions hyps claim) (range_with_len 0 (width hyps claim))) _ none);
    }
  where
    within : (a b : ℕ) → (a < b) ⊎ (b ≤ a)
    within a b = grind arith

    equal_everywhere : flat_map (faults_at_variable divisor mentions hyps claim) (range_with_len 0 (width hyps claim)) ≡ [] → (variable : ℕ) → (variable < width hyps claim) ⊎ (width hyps claim ≤ variable) → claimed_at divisor claim variable ≡ combined_at mentions hyps variable
    equal_everywhere none variable (inl h) = equal_at divisor mentions hyps claim variable (none_below (faults_at_variable divisor mentions hyps claim) (width hyps claim) variable h none)
    equal_everywhere none variable (inr h) = equal_past divisor mentions hyps claim variable h

none_if_valid : (divisor : ℕ) (mentions : List Mention) (hyps : List Row) (claim : Row) → IsValid divisor mentions hyps claim → faults divisor mentions hyps claim ≡ []
none_if_valid divisor mentions hyps claim valid =
    empty_both _ _
    (empty_both _ _
    (none_of_all (faults_of_mention hyps) mentions (λ k d h. sound_mention hyps (get_or mentions k d) (valid.indexed k d h) (valid.non_negative k d h)))
    (none_of_all_below (faults_at_variable divisor mentions hyps claim) (width hyps claim) (λ variable h. equal_variable divisor mentions hyps claim variable (valid.equal variable))))
    (close_constant divisor mentions hyps claim valid.constant)

pub valid-ok : (divisor : ℕ) (mentions : List Mention) (hyps : List Row) (claim : Row) → IsOk (verdict (faults divisor mentions hyps claim)) ↔ IsValid divisor mentions hyps claim
valid-ok divisor mentions hyps claim = (λ h. valid_if_none divisor mentions hyps claim (none_if_ok (faults divisor mentions hyps claim) h), λ valid. ok_if_none (faults divisor mentions hyps claim) (none_if_valid divisor mentions hyps claim valid))

pub indexed_if_ok : (hyps : List Row) (ms items : List Mention) (result : Result (Unit {0}) CertFault) (unit : Unit {0}) → items ≡ ms → result ≡ verdict (flat_map (faults_of_mention hyps) items) → result ≡ Ok unit → All (λ m. m.index < length hyps) ms
indexed_if_ok hyps ms items result unit same made ok =
    let none : IsOk (verdict (flat_map (faults_of_mention hyps) ms)) = rw (← same, ← made, ok) refl in
    indexed_all hyps ms (none_if_ok (flat_map (faults_of_mention hyps) ms) none)
