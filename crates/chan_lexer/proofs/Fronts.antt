-- The front of a text that is all of one class, and the token that it is.
use Rattle.std.proofs.Common.{◌≡◌, ℕ, suc, ◌<◌, ◌≤◌, Bool, true, List, [], ◌∷◌, length, slice_index, take, drop, refl, ◌∙◌, ap, arith, inl, inr}
use Rattle.std.proofs.lemmas.Bool.{and_from, cases_Bool, not-false}
use Rattle.std.proofs.lemmas.List.Sums.{prefix_len-le-length}
use Rattle.std.specs.Char.{is_ascii_digit}
use Rattle.std.specs.List.{list_all, prefix_len}
use Rattle.text_tokens.specs.Word.{begins_name, continues_name, is_spelled_as_name, is_digits, IsLongest}
use Rattle.text_tokens.specs.Text.{is_separator, separator, comment, is_in_line, is_line_end, EndsLine}
use Rattle.text_tokens.proofs.Forms.{first_byte-continues}
use Rattle.text_tokens.proofs.Longest.{Stops, longest_name, longest_digits}
use Rattle.chan_lexer.specs.Front.{BeginsWith}

-- the front of a list whose bytes are of the class, and what stops it
prefix_more : (p : ℕ → Bool) (b : ℕ) (z : List ℕ) → p b ≡ true → prefix_len p (b ∷ z) ≡ suc (prefix_len p z)
prefix_more p b z e = rw e (omega arith)

pub prefix_all : (p : ℕ → Bool) (z : List ℕ) → list_all p (take (prefix_len p z) z) ≡ true
prefix_all p [] = refl
prefix_all p (b ∷ z) =
    elim (cases_Bool (p b)) [
      | inl within ↦ rw (prefix_more p b z within) (and_from (p b) (list_all p (take (prefix_len p z) z)) within (prefix_all p z))
      | inr outside ↦ rw outside refl
    ]

pub prefix_stops : (p : ℕ → Bool) (z : List ℕ) → Stops p (drop (prefix_len p z) z)
prefix_stops p [] = tt
prefix_stops p (b ∷ z) =
    elim (cases_Bool (p b)) [
      | inl within ↦ rw (prefix_more p b z within) (prefix_stops p z)
      | inr outside ↦ rw outside outside
    ]

pub name_front : (z : List ℕ) (n : ℕ) → n ≡ prefix_len continues_name z → 0 < length z → begins_name (slice_index z 0) ≡ true → (is_spelled_as_name (take n z) ≡ true) × IsLongest (take n z) (drop n z)
name_front [] n e some begins = absurd (omega arith)
name_front (b ∷ z) n e some begins =
    let more = e ∙ prefix_more continues_name b z (first_byte-continues b begins) in
    let spelled : is_spelled_as_name (take n (b ∷ z)) ≡ true =
    rw more (and_from (begins_name b) (list_all continues_name (take (prefix_len continues_name z) z)) begins (prefix_all continues_name z)) in
    let stops : Stops continues_name (drop n (b ∷ z)) = rw more (prefix_stops continues_name z) in
    (spelled, longest_name (take n (b ∷ z)) (drop n (b ∷ z)) spelled stops)

pub digits_front : (z : List ℕ) (n : ℕ) → n ≡ prefix_len is_ascii_digit z → 0 < length z → is_ascii_digit (slice_index z 0) ≡ true → (is_digits (take n z) ≡ true) × IsLongest (take n z) (drop n z)
digits_front [] n e some begins = absurd (omega arith)
digits_front (b ∷ z) n e some begins =
    let more = e ∙ prefix_more is_ascii_digit b z begins in
    let digits : is_digits (take n (b ∷ z)) ≡ true =
    rw more (and_from (is_ascii_digit b) (list_all is_ascii_digit (take (prefix_len is_ascii_digit z) z)) begins (prefix_all is_ascii_digit z)) in
    let stops : Stops is_ascii_digit (drop n (b ∷ z)) = rw more (prefix_stops is_ascii_digit z) in
    (digits, longest_digits (take n (b ∷ z)) (drop n (b ∷ z)) digits stops)

pub prefix_within : (p : ℕ → Bool) (z : List ℕ) (n : ℕ) → n ≡ prefix_len p z → n ≤ length z
prefix_within p z n e = omega (arith, e, prefix_len-le-length p z)

ends_line : (rest : List ℕ) → Stops is_in_line rest → EndsLine rest
ends_line [] stops = tt
ends_line (b ∷ rest) stops = not-false (is_line_end b) stops

-- the comment at the front of a text
pub comment_front : (z back : List ℕ) (n : ℕ) → z ≡ 47 ∷ 47 ∷ back → n ≡ prefix_len is_in_line z → BeginsWith (comment (drop 2 (take n z))) n z
comment_front z back n e len =
    let whole = len ∙ ap (prefix_len is_in_line) e in
    let m = prefix_len is_in_line back in
    let more : n ≡ suc (suc m) = omega (arith, whole) in
    let front : take n z ≡ 47 ∷ 47 ∷ take m back = rw (more, e) refl in
    let behind : drop n z ≡ drop m back = rw (more, e) refl in
    let inside : drop 2 (take n z) ≡ take m back = rw front refl in (
      rw (inside, front) refl,
      prefix_within is_in_line z n len,
      rw (inside, behind) (prefix_all is_in_line back, ends_line (drop m back) (prefix_stops is_in_line back)),
    )

-- the separator at the front of a text
pub separator_front : (z : List ℕ) → 0 < length z → is_separator (slice_index z 0) ≡ true → BeginsWith (separator (slice_index z 0)) 1 z
separator_front [] some separates = absurd (omega arith)
separator_front (b ∷ z) some separates = (refl, omega arith, separates)
