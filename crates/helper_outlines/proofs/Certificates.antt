-- Hypotheses show themselves.
use Rattle.std.proofs.Common.{◌≡◌, ℕ, suc, ◌<◌, ℤ, pos, ◌*ℤ◌, ◌+ℤ◌, ◌-ℤ◌, ◌≤ℤ◌, Bool, true, false, if◌then◌else◌, List, [], ◌∷◌, ◌++◌, length, map, flat_map, slice_get, Option, Some, None, Result, Ok, refl, sym, ap, ◌∙◌, subst, arith, append_assoc, append-nil}
use Rattle.std.proofs.lemmas.Int.{ints}
use Rattle.std.specs.List.{range_with_len}
use Rattle.farkas_check.specs.declared.cert.Row.{Row}
use Rattle.farkas_check.specs.declared.cert.Mention.{Mention}
use Rattle.farkas_check.specs.declared.cert.CertFault.{CertFault}
use Rattle.farkas_check.specs.Rows.{coefficient, hypothesis, width}
use Rattle.farkas_check.specs.Certificates.{claimed_at, combined_at, constant_left, faults_of_mention, mention_faults, faults_at_variable, coefficient_faults, constant_faults, faults, verdict}
use Rattle.farkas_check.proofs.FaultLists.{empty_both, none_of_all_below}
use Rattle.farkas_check.proofs.Validity.{sound_mention, equal_variable, close_constant}
use Rattle.core_language.specs.Operands.{Cert, Proof}
use Rattle.core_language.specs.Terms.{Term}
use Rattle.outline_language.specs.Contexts.{Why, CertCount, Cursor, or_why, and_then, asks_nothing, mentioned, tried, shown, row_shown}
use Rattle.helper_outlines.specs.Helpers as h
use Rattle.helper_outlines.proofs.Steps.{chain, there}

pub at_length : {A : Type 0} (before : List A) (x : A) (after : List A) → slice_get (before ++ x ∷ after) (length before) ≡ Some x
at_length [] x after = refl
at_length (y ∷ before) x after = at_length before x after

within_length : {A : Type 0} (before : List A) (x : A) (after : List A) → length before < length (before ++ x ∷ after)
within_length [] x after = omega arith
within_length (y ∷ before) x after = let rest = within_length before x after in omega (arith, rest)

hypothesis_there : (before : List Row) (row : Row) (after : List Row) → hypothesis (before ++ row ∷ after) (length before) ≡ row
hypothesis_there [] row after = refl
hypothesis_there (r ∷ before) row after = hypothesis_there before row after

once : (z : ℤ) → (pos 1 *ℤ z) +ℤ pos 0 ≡ pos 1 *ℤ z
once z = omega (arith, ints)

nothing_left : (z : ℤ) → ((pos 1 *ℤ z) -ℤ ((pos 1 *ℤ z) +ℤ pos 0)) ≤ℤ (pos 1 -ℤ pos 1)
nothing_left z = omega (arith, ints)

abbrev one_of : ℕ → Mention
one_of i = record { factor = pos 1; index = i }

pub shows_itself : (before : List Row) (row : Row) (after : List Row)
    → verdict (faults 1 (one_of (length before) ∷ []) (before ++ row ∷ after) row) ≡ Ok tt
shows_itself before row after = ap verdict (empty_both (mention_faults hyps ms ++ coefficient_faults 1 ms hyps row) (constant_faults 1 ms hyps row) (empty_both (mention_faults hyps ms) (coefficient_faults 1 ms hyps row) no_mention no_coefficient) no_constant)
  where
    hyps : List Row
    hyps = before ++ row ∷ after

    ms : List Mention
    ms = one_of (length before) ∷ []

    no_mention : mention_faults hyps ms ≡ []
    no_mention = append-nil (faults_of_mention hyps (one_of (length before))) ∙ sound_mention hyps (one_of (length before)) (within_length before row after) (omega (arith, ints))

    no_coefficient : coefficient_faults 1 ms hyps row ≡ []
    no_coefficient = none_of_all_below (faults_at_variable 1 ms hyps row) (width hyps row) (λ v _. equal_variable 1 ms hyps row v (sym (ap (λ r. (pos 1 *ℤ coefficient r v) +ℤ pos 0) (hypothesis_there before row after) ∙ once (coefficient row v))))

    no_constant : constant_faults 1 ms hyps row ≡ []
    no_constant = close_constant 1 ms hyps row (subst (λ r. ((pos 1 *ℤ row.constant) -ℤ ((pos 1 *ℤ r.constant) +ℤ pos 0)) ≤ℤ (pos 1 -ℤ pos 1)) (sym (hypothesis_there before row after)) (nothing_left row.constant))
