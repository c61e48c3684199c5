-- Every text has tokens or a first fault.
use Rattle.std.proofs.Common.{◌≡◌, ℕ, suc, zero, ◌<◌, ◌≤◌, ◌⊎◌, inl, inr, Bool, true, false, ◌&&◌, ◌==◌, List, [], ◌∷◌, ◌++◌, length, length-append, append-nil, append_assoc, refl, sym, ◌∙◌, ap, subst, arith, lit<}
use Rattle.std.proofs.lemmas.Bool.{and_from, not_from_false, not-false, cases_Bool, both_ways, cases_lt}
use Rattle.std.specs.Char.{is_ascii_digit, is_ascii_graphic}
use Rattle.std.specs.List.{list_all}
use Rattle.text_tokens.specs.declared.TokenKind.TheVariants.{Name, Number, Keyword, Mark}
use Rattle.text_tokens.specs.Word.{begins_name, continues_name, is_spelled_as_name, is_digits, is_keyword, is_mark, value_of, limit}
use Rattle.text_tokens.specs.Text.{Piece, separator, comment, token, is_line_end, is_separator, is_in_line, bytes_of, text_of, EndsLine, FitsBefore, IsCutBefore, span_behind, Token, tokens_behind, HasTokens, Fault, bad_byte, bad_token, number_too_large, BeginsNoToken, BeginsNoComment, StandsBetween, IsFirstFault}
use Rattle.text_tokens.proofs.Forms.{no_form-nil}
use Rattle.text_tokens.proofs.Longest.{Stops, longest_name, longest_digits, longest_pair, longest_single}
use Rattle.text_tokens.proofs.Cuts.{begins_form, begins_slash, slash_is, form-begins}

-- a list's longest front of bytes of the class
pub front_in : (p : ℕ → Bool) (z : List ℕ) → (w rest : List ℕ) × (z ≡ w ++ rest) × (list_all p w ≡ true) × Stops p rest
front_in p [] = ([], [], refl, refl, tt)
front_in p (b ∷ z) =
    elim (cases_Bool (p b)) [
      | inl within ↦ (let more = front_in p z in
          (b ∷ more.0, more.1, ap (λ (x : List ℕ). b ∷ x) more.2, and_from (p b) (list_all p more.0) within more.3, more.4))
      | inr outside ↦ ([], b ∷ z, refl, refl, outside)
    ]

-- a piece or a fault stands at the front of the text
abbrev Standing : List ℕ → Type 0
Standing z =
    ((p : Piece) × (rest : List ℕ) × (z ≡ bytes_of p ++ rest) × FitsBefore p rest)
    ⊎ ((front : List ℕ) → (f : Fault) × StandsBetween front z f)

number_stands : (z digits rest : List ℕ) → z ≡ digits ++ rest → is_digits digits ≡ true → Stops is_ascii_digit rest → Standing z
number_stands z digits rest e form stops =
    let longest = longest_digits digits rest form stops in
    elim (cases_lt limit (value_of digits)) [
      | inl over ↦ inr (λ front. (number_too_large (span_behind front digits), (value_of digits, digits, rest, e, (form, refl), over, longest, refl)))
      | inr within ↦ inl (token (Number (value_of digits)) digits, rest, e, (((form, refl), within), longest))
    ]

name_stands : (z word rest : List ℕ) → z ≡ word ++ rest → is_spelled_as_name word ≡ true → Stops continues_name rest → Standing z
name_stands z word rest e form stops =
    let longest = longest_name word rest form stops in
    elim (cases_Bool (is_keyword word)) [
      | inl keyword ↦ inl (token Keyword word, rest, e, ((keyword, tt), longest))
      | inr other ↦ inl (token Name word, rest, e, (((form, not_from_false (is_keyword word) other), tt), longest))
    ]

mark_stands : (b : ℕ) (more : List ℕ) → begins_name b ≡ false → is_ascii_digit b ≡ false → is_mark (b ∷ []) ≡ true → Standing (b ∷ more)
mark_stands b [] no_name no_digit mark =
    inl (token Mark (b ∷ []), [], refl, ((mark, tt), longest_single b [] no_name no_digit tt))
mark_stands b (c ∷ more) no_name no_digit mark =
    elim (cases_Bool (is_mark (b ∷ c ∷ []))) [
      | inl pair ↦ inl (token Mark (b ∷ c ∷ []), more, refl, ((pair, tt), longest_pair b c more no_name no_digit))
      | inr single ↦ inl (token Mark (b ∷ []), c ∷ more, refl, ((mark, tt), longest_single b (c ∷ more) no_name no_digit single))
    ]

ends_line : (rest : List ℕ) → Stops is_in_line rest → EndsLine rest
ends_line [] stops = tt
ends_line (b ∷ rest) stops = not-false (is_line_end b) stops

comment_stands : (z back : List ℕ) → z ≡ 47 ∷ 47 ∷ back → Standing z
comment_stands z back e =
    let line = front_in is_in_line back in
    inl (comment line.0, line.1, e ∙ ap (λ (x : List ℕ). 47 ∷ 47 ∷ x) line.2, (line.3, ends_line line.1 line.4))

no_token_at : (b : ℕ) (more : List ℕ) → begins_form b ≡ false → BeginsNoToken (b ∷ more)
no_token_at b more none kind [] back e form = no_form-nil kind form
no_token_at b more none kind (c ∷ w) back e form =
    let same : c ≡ b = cc in
    both_ways (begins_form b) none (subst (λ (x : ℕ). begins_form x ≡ true) same (form-begins kind c w form))

no_comment_at : (b : ℕ) (more : List ℕ) → (b == 47) && begins_slash more ≡ false → BeginsNoComment (b ∷ more)
no_comment_at b more none back e =
    let first : b ≡ 47 = cc in
    let second : more ≡ 47 ∷ back = cc in
    let test : ((b == 47) && begins_slash more) ≡ true = rw (first, second) refl in
    both_ways ((b == 47) && begins_slash more) none test

fault_stands : (b : ℕ) (more : List ℕ) → is_separator b ≡ false → (b == 47) && begins_slash more ≡ false → begins_form b ≡ false → Standing (b ∷ more)
fault_stands b more no_separator no_comment no_form =
    elim (cases_Bool (is_ascii_graphic b)) [
      | inl graphic ↦ inr (λ front. (
        bad_token (span_behind front (b ∷ [])),
        (b, more, refl, graphic, no_token_at b more no_form, no_comment_at b more no_comment, refl),
      ))
      | inr no_graphic ↦ inr (λ front. (
        bad_byte (span_behind front (b ∷ [])),
        (b, more, refl, not_from_false (is_ascii_graphic b) no_graphic, not_from_false (is_separator b) no_separator, refl),
      ))
    ]

no_begin : (b : ℕ) → begins_name b ≡ false → is_ascii_digit b ≡ false → is_mark (b ∷ []) ≡ false → begins_form b ≡ false
no_begin b no_name no_digit no_mark = rw (no_name, no_digit, no_mark)

form_stands : (b : ℕ) (more : List ℕ) → is_separator b ≡ false → (b == 47) && begins_slash more ≡ false → Standing (b ∷ more)
form_stands b more no_separator no_comment =
    elim (cases_Bool (begins_name b)) [
      | inl name ↦ (let word = front_in continues_name more in
          name_stands (b ∷ more) (b ∷ word.0) word.1 (ap (λ (x : List ℕ). b ∷ x) word.2)
          (and_from (begins_name b) (list_all continues_name word.0) name word.3) word.4)
      | inr no_name ↦ elim (cases_Bool (is_ascii_digit b)) [
        | inl digit ↦ (let word = front_in is_ascii_digit more in
            number_stands (b ∷ more) (b ∷ word.0) word.1 (ap (λ (x : List ℕ). b ∷ x) word.2)
            (and_from (is_ascii_digit b) (list_all is_ascii_digit word.0) digit word.3) word.4)
        | inr no_digit ↦ elim (cases_Bool (is_mark (b ∷ []))) [
          | inl mark ↦ mark_stands b more no_name no_digit mark
          | inr no_mark ↦ fault_stands b more no_separator no_comment (no_begin b no_name no_digit no_mark)
        ]
      ]
    ]

pub stands : (b : ℕ) (more : List ℕ) → Standing (b ∷ more)
stands b more =
    elim (cases_Bool (is_separator b)) [
      | inl separates ↦ inl (separator b, more, refl, separates)
      | inr no_separator ↦ elim (cases_Bool ((b == 47) && begins_slash more)) [
        | inl slashes ↦ (let two = slash_is b more slashes in comment_stands (b ∷ more) two.0 two.1)
        | inr no_comment ↦ form_stands b more no_separator no_comment
      ]
    ]

pub piece_longer : (p : Piece) (rest : List ℕ) → FitsBefore p rest → 0 < length (bytes_of p)
piece_longer (separator b) rest fits = lit< tt
piece_longer (comment bytes) rest fits = omega arith
piece_longer (token kind []) rest fits = absurd (no_form-nil kind fits.0.0)
piece_longer (token kind (b ∷ w)) rest fits = omega arith

-- what a text is cut into, up to its end or its first fault
abbrev Cut : List ℕ → Type 0
Cut z = (ps : List Piece) × (rest : List ℕ) × (z ≡ text_of ps ++ rest) × IsCutBefore ps rest × ((rest ≡ []) ⊎ ((front : List ℕ) → (f : Fault) × StandsBetween front rest f))

cut_within : (n : ℕ) (z : List ℕ) → length z ≤ n → Cut z
cut_within n [] short = ([], [], refl, tt, inl refl)
cut_within zero (b ∷ more) short = absurd (omega arith)
cut_within (suc n) (b ∷ more) short =
    elim (stands b more) [
      | inl piece ↦ (
          let longer = piece_longer piece.0 piece.1 piece.3 in
          let less : length piece.1 ≤ n = omega (arith, ap length piece.2, length-append (bytes_of piece.0) piece.1) in
          let cut = cut_within n piece.1 less in (
            piece.0 ∷ cut.0,
            cut.1,
            piece.2 ∙ ap (λ (x : List ℕ). bytes_of piece.0 ++ x) cut.2 ∙ sym (append_assoc (bytes_of piece.0) (text_of cut.0) cut.1),
            (subst (FitsBefore piece.0) cut.2 piece.3, cut.3),
            cut.4,
          ))
      | inr fault ↦ ([], b ∷ more, refl, tt, inr fault)
    ]

pub one_of_both : (text : List ℕ) → ((ts : List Token) × HasTokens text ts) ⊎ ((f : Fault) × IsFirstFault text f)
one_of_both text =
    let cut = cut_within (length text) text (omega arith) in
    elim cut.4 [
      | inl done ↦ inl (
        tokens_behind [] cut.0,
        (
          cut.0,
          cut.2 ∙ ap (λ (x : List ℕ). text_of cut.0 ++ x) done ∙ append-nil (text_of cut.0),
          subst (IsCutBefore cut.0) done cut.3,
          refl,
        ),
      )
      | inr fault ↦ (let here = fault (text_of cut.0) in inr (here.0, (cut.0, cut.1, cut.2, cut.3, here.1)))
    ]
