-- Which words have a form, and how a form's first byte decides it.
use Rattle.std.proofs.Common.{◌≡◌, ℕ, inl, inr, Bool, true, false, not, ◌&&◌, ◌==◌, nat_le, if◌then◌else◌, Option, Some, None, List, [], ◌∷◌, length, refl, arith}
use Rattle.std.proofs.lemmas.Bool.{or_cases, and_parts, and_from, not-true, false_from_ne_true, both_ways}
use Rattle.std.proofs.lemmas.Grind.{common_steps}
use Rattle.std.proofs.lemmas.Slice.Eq.{bytes_eq-Decides}
use Rattle.std.specs.Char.{is_ascii_digit, is_ascii_graphic}
use Rattle.std.specs.List.{list_all, list_any}
use Rattle.std.specs.Str.{bytes_eq}
use Rattle.text_tokens.specs.declared.TokenKind.{TokenKind}
use Rattle.text_tokens.specs.declared.TokenKind.TheVariants.{Name, Number, Keyword, Mark}
use Rattle.text_tokens.specs.Word.{keywords, marks, begins_name, continues_name, is_spelled_as_name, is_digits, is_keyword, is_mark, value_of, HasForm}
use Rattle.text_tokens.specs.Text.{is_separator, is_in_line}

-- what each word of a table passes, a word of the table passes
pub member : (p : List ℕ → Bool) (words : List (List ℕ)) (w : List ℕ) → list_all p words ≡ true → list_any (bytes_eq w) words ≡ true → p w ≡ true
member p [] w all found = cc
member p (k ∷ ks) w all found =
    let parts = and_parts (p k) (list_all p ks) all in
    elim (or_cases (bytes_eq w k) (list_any (bytes_eq w) ks) found) [
      | inl e ↦ (let same = (bytes_eq-Decides w k).0 e in rw same parts.0)
      | inr later ↦ member p ks w parts.1 later
    ]

-- the same of all bytes
pub all_imply : (p q : ℕ → Bool) → ((b : ℕ) → p b ≡ true → q b ≡ true) → (bs : List ℕ) → list_all p bs ≡ true → list_all q bs ≡ true
all_imply p q imply [] all = refl
all_imply p q imply (b ∷ bs) all =
    let parts = and_parts (p b) (list_all p bs) all in
    and_from (q b) (list_all q bs) (imply b parts.0) (all_imply p q imply bs parts.1)

-- ---- bytes

-- a byte of a token
abbrev pub is_plain : ℕ → Bool
is_plain b = is_ascii_graphic b && not (b == 47)

pub name_byte-plain : (b : ℕ) → continues_name b ≡ true → is_plain b ≡ true
name_byte-plain b e = grind (arith, common_steps)

pub first_byte-continues : (b : ℕ) → begins_name b ≡ true → continues_name b ≡ true
first_byte-continues b e = grind (arith, common_steps)

pub digit-plain : (b : ℕ) → is_ascii_digit b ≡ true → is_plain b ≡ true
digit-plain b e = grind (arith, common_steps)

pub digit-begins_no_name : (b : ℕ) → is_ascii_digit b ≡ true → begins_name b ≡ false
digit-begins_no_name b e = grind (arith, common_steps)

pub plain-no_separator : (b : ℕ) → is_plain b ≡ true → is_separator b ≡ false
plain-no_separator b e = grind (arith, common_steps)

pub plain-in_line : (b : ℕ) → is_plain b ≡ true → is_in_line b ≡ true
plain-in_line b e = grind (arith, common_steps)

-- ---- words

pub keyword-spelled : (w : List ℕ) → is_keyword w ≡ true → is_spelled_as_name w ≡ true
keyword-spelled w e = member is_spelled_as_name keywords w refl e

abbrev no_word : List ℕ → Bool
no_word w = not (is_spelled_as_name w) && not (is_digits w)

abbrev begins_as_mark : List ℕ → Bool
begins_as_mark [] = false
begins_as_mark (b ∷ bs) = is_mark (b ∷ []) && (not (begins_name b) && not (is_ascii_digit b))

pub mark-begins : (w : List ℕ) → is_mark w ≡ true → begins_as_mark w ≡ true
mark-begins w e = member begins_as_mark marks w refl e

abbrev is_short : List ℕ → Bool
is_short w = nat_le (length w) 2

pub mark-short : (w : List ℕ) → is_mark w ≡ true → is_short w ≡ true
mark-short w e = member is_short marks w refl e

pub mark-plain : (w : List ℕ) → is_mark w ≡ true → list_all is_plain w ≡ true
mark-plain w e = member (list_all is_plain) marks w refl e

-- ---- forms

pub spelled_kind : (k : TokenKind) (b : ℕ) (w : List ℕ) → begins_name b ≡ true → HasForm k (b ∷ w) → is_spelled_as_name (b ∷ w) ≡ true
spelled_kind Name b w e form = form.0
spelled_kind (Number n) b w e form =
    let digit = (and_parts (is_ascii_digit b) (list_all is_ascii_digit w) form.0).0 in
    absurd (both_ways (begins_name b) (digit-begins_no_name b digit) e)
spelled_kind Keyword b w e form = keyword-spelled (b ∷ w) form
spelled_kind Mark b w e form =
    let other = (and_parts (is_mark (b ∷ [])) (not (begins_name b) && not (is_ascii_digit b)) (mark-begins (b ∷ w) form)).1 in
    let no_name = not-true (begins_name b) (and_parts (not (begins_name b)) (not (is_ascii_digit b)) other).0 in
    absurd (both_ways (begins_name b) no_name e)

pub digits_kind : (k : TokenKind) (b : ℕ) (w : List ℕ) → is_ascii_digit b ≡ true → HasForm k (b ∷ w) → is_digits (b ∷ w) ≡ true
digits_kind Name b w e form =
    let name = (and_parts (begins_name b) (list_all continues_name w) form.0).0 in
    absurd (both_ways (begins_name b) (digit-begins_no_name b e) name)
digits_kind (Number n) b w e form = form.0
digits_kind Keyword b w e form =
    let name = (and_parts (begins_name b) (list_all continues_name w) (keyword-spelled (b ∷ w) form)).0 in
    absurd (both_ways (begins_name b) (digit-begins_no_name b e) name)
digits_kind Mark b w e form =
    let other = (and_parts (is_mark (b ∷ [])) (not (begins_name b) && not (is_ascii_digit b)) (mark-begins (b ∷ w) form)).1 in
    let no_digit = not-true (is_ascii_digit b) (and_parts (not (begins_name b)) (not (is_ascii_digit b)) other).1 in
    absurd (both_ways (is_ascii_digit b) no_digit e)

pub mark_kind : (k : TokenKind) (b : ℕ) (w : List ℕ) → begins_name b ≡ false → is_ascii_digit b ≡ false → HasForm k (b ∷ w) → is_mark (b ∷ w) ≡ true
mark_kind Name b w e d form =
    absurd (both_ways (begins_name b) e (and_parts (begins_name b) (list_all continues_name w) form.0).0)
mark_kind (Number n) b w e d form =
    absurd (both_ways (is_ascii_digit b) d (and_parts (is_ascii_digit b) (list_all is_ascii_digit w) form.0).0)
mark_kind Keyword b w e d form =
    absurd (both_ways (begins_name b) e (and_parts (begins_name b) (list_all continues_name w) (keyword-spelled (b ∷ w) form)).0)
mark_kind Mark b w e d form = form

spelled-plain : (w : List ℕ) → is_spelled_as_name w ≡ true → list_all is_plain w ≡ true
spelled-plain [] e = refl
spelled-plain (b ∷ w) e =
    let parts = and_parts (begins_name b) (list_all continues_name w) e in
    and_from (is_plain b) (list_all is_plain w) (name_byte-plain b (first_byte-continues b parts.0))
    (all_imply continues_name is_plain name_byte-plain w parts.1)

digits-plain : (w : List ℕ) → is_digits w ≡ true → list_all is_plain w ≡ true
digits-plain [] e = refl
digits-plain (b ∷ w) e = all_imply is_ascii_digit is_plain digit-plain (b ∷ w) e

pub form-plain : (k : TokenKind) (w : List ℕ) → HasForm k w → list_all is_plain w ≡ true
form-plain Name w form = spelled-plain w form.0
form-plain (Number n) w form = digits-plain w form.0
form-plain Keyword w form = spelled-plain w (keyword-spelled w form)
form-plain Mark w form = mark-plain w form

pub no_form-nil : (k : TokenKind) → HasForm k [] → ⊥
no_form-nil Name form = cc
no_form-nil (Number n) form = cc
no_form-nil Keyword form = cc
no_form-nil Mark form = cc

-- ---- the one form of a word

unfoldable pub form_of : List ℕ → Option TokenKind
form_of w =
    if is_keyword w then Some Keyword
    else (if is_spelled_as_name w then Some Name
    else (if is_digits w then Some (Number (value_of w))
    else (if is_mark w then Some Mark else None)))

digits-no_name : (w : List ℕ) → is_digits w ≡ true → is_spelled_as_name w ≡ false
digits-no_name [] e = cc
digits-no_name (b ∷ w) e =
    let digit = (and_parts (is_ascii_digit b) (list_all is_ascii_digit w) e).0 in
    false_from_ne_true (is_spelled_as_name (b ∷ w)) (λ h.
    both_ways (begins_name b) (digit-begins_no_name b digit) (and_parts (begins_name b) (list_all continues_name w) h).0)

no_name-no_keyword : (w : List ℕ) → is_spelled_as_name w ≡ false → is_keyword w ≡ false
no_name-no_keyword w e = false_from_ne_true (is_keyword w) (λ h. both_ways (is_spelled_as_name w) e (keyword-spelled w h))

mark-no_name : (w : List ℕ) → is_mark w ≡ true → is_spelled_as_name w ≡ false
mark-no_name [] e = refl
mark-no_name (b ∷ w) e = false_from_ne_true (is_spelled_as_name (b ∷ w)) (λ h.
    let name = (and_parts (begins_name b) (list_all continues_name w) h).0 in
    let spelled = spelled_kind Mark b w name e in
    let other = (and_parts (is_mark (b ∷ [])) (not (begins_name b) && not (is_ascii_digit b)) (mark-begins (b ∷ w) e)).1 in
    both_ways (begins_name b) (not-true (begins_name b) (and_parts (not (begins_name b)) (not (is_ascii_digit b)) other).0) name)

mark-no_digits : (w : List ℕ) → is_mark w ≡ true → is_digits w ≡ false
mark-no_digits [] e = refl
mark-no_digits (b ∷ w) e = false_from_ne_true (is_digits (b ∷ w)) (λ h.
    let digit = (and_parts (is_ascii_digit b) (list_all is_ascii_digit w) h).0 in
    let other = (and_parts (is_mark (b ∷ [])) (not (begins_name b) && not (is_ascii_digit b)) (mark-begins (b ∷ w) e)).1 in
    both_ways (is_ascii_digit b) (not-true (is_ascii_digit b) (and_parts (not (begins_name b)) (not (is_ascii_digit b)) other).1) digit)

pub form_is : (k : TokenKind) (w : List ℕ) → HasForm k w → form_of w ≡ Some k
unfolding form_of
form_is Name w form = rw (not-true (is_keyword w) form.1, form.0)
form_is (Number n) w form =
    let no_name = digits-no_name w form.0 in
    rw (no_name-no_keyword w no_name, no_name, form.0, form.1)
form_is Keyword w form = rw form
form_is Mark w form =
    let no_name = mark-no_name w form in
    rw (no_name-no_keyword w no_name, no_name, mark-no_digits w form, form)

pub one_kind : (j k : TokenKind) (w : List ℕ) → HasForm j w → HasForm k w → j ≡ k
one_kind j k w a b = let e = form_is j w a in let f = form_is k w b in cc
