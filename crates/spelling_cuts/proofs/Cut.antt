-- A text is cut at words that are tokens and stand apart.
use Rattle.std.proofs.Common.{◌≡◌, ℕ, inl, inr, Bool, true, false, not, ◌&&◌, ◌||◌, ◌==◌, List, [], ◌∷◌, ◌++◌, refl, subst, arith}
use Rattle.std.proofs.lemmas.Bool.{and_parts, or_cases, not-true, both_ways, false_from_ne_true, eqb-true}
use Rattle.std.proofs.lemmas.Grind.{common_steps}
use Rattle.std.specs.Char.{is_ascii_digit}
use Rattle.std.specs.List.{list_all}
use Rattle.text_tokens.specs.declared.TokenKind.{TokenKind}
use Rattle.text_tokens.specs.declared.TokenKind.TheVariants.{Name, Number, Keyword, Mark}
use Rattle.text_tokens.specs.Word.{marks, begins_name, continues_name, is_spelled_as_name, is_mark, HasForm, IsLongest}
use Rattle.text_tokens.specs.Text.{Piece, separator, comment, token, is_separator, text_of, IsCutBefore}
use Rattle.text_tokens.proofs.Forms.{member, keyword-spelled, mark-begins, mark-short, no_form-nil, first_byte-continues}
use Rattle.text_tokens.proofs.Longest.{Stops, longest_name, longest_digits, longest_pair, longest_single, NoPair}
use Rattle.chan_syntax.specs.declared.surface_tree.Surface.{Surface}
use Rattle.surface_spelling.specs.Spelling.{program}
use Rattle.spelling_cuts.specs.Words.{words, AreTokens}
use Rattle.spelling_cuts.proofs.Apart.{Next, a_gap, next, no_word, is_gap, may, parted, gap_behind}
use Rattle.spelling_cuts.proofs.ApartProgram.{program_apart}

-- ---- what a byte begins

separator_stops : (b : ℕ) → is_separator b ≡ true → continues_name b ≡ false
separator_stops b e = grind (arith, common_steps)

separator_no_equals : (b : ℕ) → is_separator b ≡ true → (b == 61) ≡ false
separator_no_equals b e = grind (arith, common_steps)

separator_no_more : (b : ℕ) → is_separator b ≡ true → (b == 62) ≡ false
separator_no_more b e = grind (arith, common_steps)

name_no_more : (b : ℕ) → continues_name b ≡ true → (b == 62) ≡ false
name_no_more b e = grind (arith, common_steps)

mark_stops : (b : ℕ) → begins_name b ≡ false → is_ascii_digit b ≡ false → continues_name b ≡ false
mark_stops b n d = grind (arith, common_steps)

digit_continues : (b : ℕ) → is_ascii_digit b ≡ true → continues_name b ≡ true
digit_continues b e = grind (arith, common_steps)

no_digit : (b : ℕ) → continues_name b ≡ false → is_ascii_digit b ≡ false
no_digit b e = false_from_ne_true (is_ascii_digit b) (λ h. both_ways (continues_name b) e (digit_continues b h))

-- ---- marks of two bytes

abbrev is_second : List ℕ → Bool
is_second [] = true
is_second (b ∷ []) = true
is_second (b ∷ c ∷ w) = ((b == 60) && (c == 61)) || ((b == 45) && (c == 62))

two_bytes : (b c : ℕ) → is_mark (b ∷ c ∷ []) ≡ true → (((b == 60) && (c == 61)) || ((b == 45) && (c == 62))) ≡ true
two_bytes b c e = member is_second marks (b ∷ c ∷ []) refl e

-- no mark begins with `>`
abbrev is_no_more : List ℕ → Bool
is_no_more [] = true
is_no_more (b ∷ w) = not (b == 62)

mark_no_more : (b : ℕ) (w : List ℕ) → is_mark (b ∷ w) ≡ true → (b == 62) ≡ false
mark_no_more b w e = not-true (b == 62) (member is_no_more marks (b ∷ w) refl e)

no_pair_of : (b : ℕ) (rest : List ℕ) → ((b == 60) ≡ true → Stops (λ c. c == 61) rest) → Stops (λ c. c == 62) rest → NoPair b rest
no_pair_of b [] less more = tt
no_pair_of b (c ∷ rest) less more = false_from_ne_true (is_mark (b ∷ c ∷ [])) (λ h.
    elim (or_cases ((b == 60) && (c == 61)) ((b == 45) && (c == 62)) (two_bytes b c h)) [
      | inl e ↦ (let parts = and_parts (b == 60) (c == 61) e in both_ways (c == 61) (less parts.0) parts.1)
      | inr e ↦ both_ways (c == 62) more (and_parts (b == 45) (c == 62) e).1
    ])

-- ---- what follows in the text

-- no name, number or keyword follows
abbrev rest_of : List Piece → List ℕ
rest_of ps = text_of ps ++ []

mark_begins : (w : List ℕ) → is_mark w ≡ true → (b : ℕ) × (v : List ℕ) × (w ≡ b ∷ v) × (begins_name b ≡ false) × (is_ascii_digit b ≡ false)
mark_begins [] e = cc
mark_begins (b ∷ w) e =
    let other = (and_parts (is_mark (b ∷ [])) (not (begins_name b) && not (is_ascii_digit b)) (mark-begins (b ∷ w) e)).1 in
    let parts = and_parts (not (begins_name b)) (not (is_ascii_digit b)) other in
    (b, w, refl, not-true (begins_name b) parts.0, not-true (is_ascii_digit b) parts.1)

stops_behind : (p : ℕ → Bool) (w : List ℕ) (b : ℕ) (v rest : List ℕ) → w ≡ b ∷ v → p b ≡ false → Stops p ((w ++ rest) ++ [])
stops_behind p w b v rest e s = rw e s

name_stops : (ps : List Piece) → no_word (next ps a_gap) ≡ true → parted ps a_gap ≡ true → AreTokens (words ps) → Stops continues_name (rest_of ps)
name_stops [] n e ts = tt
name_stops (separator b ∷ ps) n e ts = separator_stops b (and_parts (is_separator b) (parted ps a_gap) e).0
name_stops (comment bytes ∷ ps) n e ts = cc
name_stops (token Name w ∷ ps) n e ts = cc
name_stops (token (Number m) w ∷ ps) n e ts = cc
name_stops (token Keyword w ∷ ps) n e ts = cc
name_stops (token Mark w ∷ ps) n e ts =
    let b = mark_begins w ts.0.0 in stops_behind continues_name w b.0 b.1 (text_of ps) b.2 (mark_stops b.0 b.3 b.4)

name_first : (p : ℕ → Bool) (w rest : List ℕ) → is_spelled_as_name w ≡ true → ((b : ℕ) → continues_name b ≡ true → p b ≡ false) → Stops p ((w ++ rest) ++ [])
name_first p [] rest e imply = cc
name_first p (b ∷ w) rest e imply = imply b (first_byte-continues b (and_parts (begins_name b) (list_all continues_name w) e).0)

no_more_behind : (ps : List Piece) → parted ps a_gap ≡ true → AreTokens (words ps) → Stops (λ c. c == 62) (rest_of ps)
no_more_behind [] e ts = tt
no_more_behind (separator b ∷ ps) e ts = separator_no_more b (and_parts (is_separator b) (parted ps a_gap) e).0
no_more_behind (comment bytes ∷ ps) e ts = cc
no_more_behind (token Name w ∷ ps) e ts = name_first (λ c. c == 62) w (text_of ps) ts.0.0.0 name_no_more
no_more_behind (token (Number m) [] ∷ ps) e ts = absurd (no_form-nil (Number m) ts.0.0)
no_more_behind (token (Number m) (b ∷ w) ∷ ps) e ts = name_no_more b (digit_continues b (and_parts (is_ascii_digit b) (list_all is_ascii_digit w) ts.0.0.0).0)
no_more_behind (token Keyword w ∷ ps) e ts = name_first (λ c. c == 62) w (text_of ps) (keyword-spelled w ts.0.0) name_no_more
no_more_behind (token Mark [] ∷ ps) e ts = absurd (no_form-nil Mark ts.0.0)
no_more_behind (token Mark (b ∷ w) ∷ ps) e ts = mark_no_more b w ts.0.0

gap_stops : (ps : List Piece) → is_gap (next ps a_gap) ≡ true → parted ps a_gap ≡ true → Stops (λ c. c == 61) (rest_of ps)
gap_stops [] g e = tt
gap_stops (separator b ∷ ps) g e = separator_no_equals b (and_parts (is_separator b) (parted ps a_gap) e).0
gap_stops (comment bytes ∷ ps) g e = cc
gap_stops (token Name w ∷ ps) g e = cc
gap_stops (token (Number m) w ∷ ps) g e = cc
gap_stops (token Keyword w ∷ ps) g e = cc
gap_stops (token Mark w ∷ ps) g e = cc

-- ---- cuts

stops_digits : (rest : List ℕ) → Stops continues_name rest → Stops is_ascii_digit rest
stops_digits [] s = tt
stops_digits (b ∷ rest) s = no_digit b s

less_gap : (b : ℕ) (k : Next) → may (token Mark (b ∷ [])) k ≡ true → (b == 60) ≡ true → is_gap k ≡ true
less_gap b k e h = subst (λ (x : ℕ). may (token Mark (x ∷ [])) k ≡ true) (eqb-true b 60 h) e

mark_longest : (w : List ℕ) (ps : List Piece) → is_mark w ≡ true → may (token Mark w) (next ps a_gap) ≡ true → parted ps a_gap ≡ true → AreTokens (words ps) → IsLongest w (rest_of ps)
mark_longest [] ps m e f ts = cc
mark_longest (b ∷ []) ps m e f ts =
    let begins = mark_begins (b ∷ []) m in
    let same : begins.0 ≡ b = let q = begins.2 in cc in
    longest_single b (rest_of ps) (subst (λ (x : ℕ). begins_name x ≡ false) same begins.3) (subst (λ (x : ℕ). is_ascii_digit x ≡ false) same begins.4)
    (no_pair_of b (rest_of ps) (λ h. gap_stops ps (less_gap b (next ps a_gap) e h) f) (no_more_behind ps f ts))
mark_longest (b ∷ c ∷ []) ps m e f ts =
    let begins = mark_begins (b ∷ c ∷ []) m in
    let same : begins.0 ≡ b = let q = begins.2 in cc in
    longest_pair b c (rest_of ps) (subst (λ (x : ℕ). begins_name x ≡ false) same begins.3) (subst (λ (x : ℕ). is_ascii_digit x ≡ false) same begins.4)
mark_longest (b ∷ c ∷ d ∷ w) ps m e f ts = absurd (let short = mark-short (b ∷ c ∷ d ∷ w) m in grind (arith, common_steps))

longest : (k : TokenKind) (w : List ℕ) (ps : List Piece) → HasForm k w → may (token k w) (next ps a_gap) ≡ true → parted ps a_gap ≡ true → AreTokens (words ps) → IsLongest w (rest_of ps)
longest Name w ps form e f ts = longest_name w (rest_of ps) form.0 (name_stops ps e f ts)
longest (Number n) w ps form e f ts = longest_digits w (rest_of ps) form.0 (stops_digits (rest_of ps) (name_stops ps e f ts))
longest Keyword w ps form e f ts = longest_name w (rest_of ps) (keyword-spelled w form) (name_stops ps e f ts)
longest Mark w ps form e f ts = mark_longest w ps form e f ts

cut_apart : (ps : List Piece) → parted ps a_gap ≡ true → AreTokens (words ps) → IsCutBefore ps []
cut_apart [] e ts = tt
cut_apart (separator b ∷ ps) e ts = let parts = and_parts (is_separator b) (parted ps a_gap) e in (parts.0, cut_apart ps parts.1 ts)
cut_apart (comment bytes ∷ ps) e ts = cc
cut_apart (token kind word ∷ ps) e ts =
    let parts = and_parts (may (token kind word) (next ps a_gap)) (parted ps a_gap) e in
    ((ts.0, longest kind word ps ts.0.0 parts.0 parts.1 ts.1), cut_apart ps parts.1 ts.1)

pub words_are_cut : (s : Surface) → AreTokens (words (program s)) → IsCutBefore (program s) []
words_are_cut s ts = cut_apart (program s) (gap_behind (program s) (program_apart s).is) ts
