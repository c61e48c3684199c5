-- A text has one cut: at each place one piece or one fault stands, and nothing else.
use Rattle.std.proofs.Common.{◌≡◌, ℕ, ◌<◌, inl, inr, Bool, true, false, not, ◌&&◌, ◌||◌, ◌==◌, if◌then◌else◌, List, [], ◌∷◌, ◌++◌, append-nil, append_assoc, refl, sym, ◌∙◌, ap, subst, arith}
use Rattle.std.proofs.lemmas.Bool.{and_parts, and_from, or_left, or_right, not-true, both_ways, false_from_ne_true, eqb-true, or_cases, cases_Bool, not_from_false}
use Rattle.std.proofs.lemmas.Grind.{common_steps}
use Rattle.std.specs.Char.{is_ascii_digit, is_ascii_graphic}
use Rattle.std.specs.List.{list_all}
use Rattle.text_tokens.specs.declared.TokenKind.{TokenKind}
use Rattle.text_tokens.specs.declared.TokenKind.TheVariants.{Name, Number, Keyword, Mark}
use Rattle.text_tokens.specs.Word.{begins_name, continues_name, is_keyword, is_mark, value_of, limit, HasForm, IsWithinLimit}
use Rattle.text_tokens.specs.Text.{Piece, separator, comment, token, is_line_end, is_separator, is_in_line, bytes_of, text_of, EndsLine, FitsBefore, IsCutBefore, span_behind, Token, tokens_behind, HasTokens, Fault, bad_byte, bad_token, number_too_large, StandsBetween, IsFirstFault}
use Rattle.text_tokens.proofs.Forms.{is_plain, form-plain, no_form-nil, plain-no_separator, mark-begins, keyword-spelled, one_kind}
use Rattle.text_tokens.proofs.Longest.{one_word}

-- ---- what begins a text

pub data Start : Type 0 where
  nothing : Start
  a_separator : Start
  a_comment : Start
  no_text : Start
  a_form : Start
  no_form : Start

-- a token begins with this byte
abbrev pub begins_form : ℕ → Bool
begins_form b = begins_name b || (is_ascii_digit b || is_mark (b ∷ []))

abbrev pub begins_slash : List ℕ → Bool
begins_slash [] = false
begins_slash (b ∷ bs) = b == 47

unfoldable pub start_of : List ℕ → Start
start_of [] = nothing
start_of (b ∷ bs) =
    if is_separator b then a_separator
    else (if (b == 47) && begins_slash bs then a_comment
    else (if not (is_ascii_graphic b) then no_text
    else (if begins_form b then a_form else no_form)))

pub form-begins : (k : TokenKind) (b : ℕ) (w : List ℕ) → HasForm k (b ∷ w) → begins_form b ≡ true
form-begins Name b w form =
    or_left (begins_name b) (is_ascii_digit b || is_mark (b ∷ [])) (and_parts (begins_name b) (list_all continues_name w) form.0).0
form-begins (Number n) b w form =
    or_right (begins_name b) (is_ascii_digit b || is_mark (b ∷ []))
    (or_left (is_ascii_digit b) (is_mark (b ∷ [])) (and_parts (is_ascii_digit b) (list_all is_ascii_digit w) form.0).0)
form-begins Keyword b w form =
    or_left (begins_name b) (is_ascii_digit b || is_mark (b ∷ []))
    (and_parts (begins_name b) (list_all continues_name w) (keyword-spelled (b ∷ w) form)).0
form-begins Mark b w form =
    let parts = and_parts (is_mark (b ∷ [])) (not (begins_name b) && not (is_ascii_digit b)) (mark-begins (b ∷ w) form) in
    or_right (begins_name b) (is_ascii_digit b || is_mark (b ∷ [])) (or_right (is_ascii_digit b) (is_mark (b ∷ [])) parts.0)

pub form_start : (k : TokenKind) (w rest : List ℕ) → HasForm k w → start_of (w ++ rest) ≡ a_form
unfolding start_of
form_start k [] rest form = absurd (no_form-nil k form)
form_start k (b ∷ w) rest form =
    let plain = (and_parts (is_plain b) (list_all is_plain w) (form-plain k (b ∷ w) form)).0 in
    let parts = and_parts (is_ascii_graphic b) (not (b == 47)) plain in
    rw (plain-no_separator b plain, not-true (b == 47) parts.1, parts.0, form-begins k b w form)

abbrev start_of_piece : Piece → Start
start_of_piece (separator b) = a_separator
start_of_piece (comment bytes) = a_comment
start_of_piece (token kind word) = a_form

piece_start : (p : Piece) (rest : List ℕ) → FitsBefore p rest → start_of (bytes_of p ++ rest) ≡ start_of_piece p
unfolding start_of
piece_start (separator b) rest fits = rw fits
piece_start (comment bytes) rest fits = refl
piece_start (token kind word) rest fits = form_start kind word rest fits.0.0

abbrev start_of_fault : Fault → Start
start_of_fault (bad_byte span) = no_text
start_of_fault (bad_token span) = no_form
start_of_fault (number_too_large span) = a_form

pub slash_is : (b : ℕ) (more : List ℕ) → (b == 47) && begins_slash more ≡ true → (back : List ℕ) × (b ∷ more ≡ 47 ∷ 47 ∷ back)
slash_is b [] e = absurd (both_ways false refl (and_parts (b == 47) false e).1)
slash_is b (c ∷ back) e =
    let parts = and_parts (b == 47) (c == 47) e in
    let first : b ≡ 47 = eqb-true b 47 parts.0 in
    let second : c ≡ 47 = eqb-true c 47 parts.1 in
    (back, cc)

begins_graphic : (b : ℕ) → is_ascii_graphic b ≡ false → (b == 47) ≡ false
begins_graphic b e = grind (arith, common_steps)

separator-not_graphic : (b : ℕ) → is_ascii_graphic b ≡ true → is_separator b ≡ false
separator-not_graphic b e = grind (arith, common_steps)

pub begins_has_form : (b : ℕ) → begins_form b ≡ true → (k : TokenKind) × HasForm k (b ∷ [])
begins_has_form b e =
    elim (or_cases (begins_name b) (is_ascii_digit b || is_mark (b ∷ [])) e) [
      | inl name ↦ elim (cases_Bool (is_keyword (b ∷ []))) [
        | inl keyword ↦ (Keyword, keyword)
        | inr no_keyword ↦ (Name, (and_from (begins_name b) true name refl, not_from_false (is_keyword (b ∷ [])) no_keyword))
      ]
      | inr other ↦ elim (or_cases (is_ascii_digit b) (is_mark (b ∷ [])) other) [
        | inl digit ↦ (Number (value_of (b ∷ [])), (and_from (is_ascii_digit b) true digit refl, refl))
        | inr mark ↦ (Mark, mark)
      ]
    ]

fault_start : (front rest : List ℕ) (f : Fault) → StandsBetween front rest f → start_of rest ≡ start_of_fault f
unfolding start_of
fault_start front [] (bad_byte span) stands = let e = stands.2 in cc
fault_start front (c ∷ rest) (bad_byte span) stands =
    let same : stands.0 ≡ c = let e = stands.2 in cc in
    let no_graphic = subst (λ (b : ℕ). is_ascii_graphic b ≡ false) same (not-true (is_ascii_graphic stands.0) stands.3) in
    let no_separator = subst (λ (b : ℕ). is_separator b ≡ false) same (not-true (is_separator stands.0) stands.4) in
    rw (no_separator, begins_graphic c no_graphic, no_graphic)
fault_start front [] (bad_token span) stands = let e = stands.2 in cc
fault_start front (c ∷ rest) (bad_token span) stands =
    let same : stands.0 ≡ c = let e = stands.2 in cc in
    let graphic = subst (λ (b : ℕ). is_ascii_graphic b ≡ true) same stands.3 in
    let no_slash : ((c == 47) && begins_slash rest) ≡ false =
    false_from_ne_true ((c == 47) && begins_slash rest) (λ h. let two = slash_is c rest h in stands.5 two.0 two.1) in
    let no_begin : begins_form c ≡ false =
    false_from_ne_true (begins_form c) (λ h. let has = begins_has_form c h in stands.4 has.0 (c ∷ []) rest refl has.1) in
    rw (separator-not_graphic c graphic, no_slash, graphic, no_begin)
fault_start front rest (number_too_large span) stands =
    ap start_of stands.3 ∙ form_start (Number stands.0) stands.1 stands.2 stands.4

-- ---- one piece or fault at a place

one_line : (u v r s : List ℕ) → list_all is_in_line u ≡ true → EndsLine r → list_all is_in_line v ≡ true → EndsLine s → u ++ r ≡ v ++ s → (u ≡ v) × (r ≡ s)
one_line [] [] r s u_in r_ends v_in s_ends e = (refl, e)
one_line [] (c ∷ v) [] s u_in r_ends v_in s_ends e = cc
one_line [] (c ∷ v) (b ∷ r) s u_in r_ends v_in s_ends e =
    let same : b ≡ c = cc in
    let ends = subst (λ (x : ℕ). is_line_end x ≡ true) same r_ends in
    absurd (both_ways (is_line_end c) (not-true (is_line_end c) (and_parts (is_in_line c) (list_all is_in_line v) v_in).0) ends)
one_line (b ∷ u) [] r [] u_in r_ends v_in s_ends e = cc
one_line (b ∷ u) [] r (c ∷ s) u_in r_ends v_in s_ends e =
    let same : c ≡ b = cc in
    let ends = subst (λ (x : ℕ). is_line_end x ≡ true) same s_ends in
    absurd (both_ways (is_line_end b) (not-true (is_line_end b) (and_parts (is_in_line b) (list_all is_in_line u) u_in).0) ends)
one_line (b ∷ u) (c ∷ v) r s u_in r_ends v_in s_ends e =
    let head : b ≡ c = cc in
    let tail : u ++ r ≡ v ++ s = cc in
    let rest = one_line u v r s (and_parts (is_in_line b) (list_all is_in_line u) u_in).1 r_ends (and_parts (is_in_line c) (list_all is_in_line v) v_in).1 s_ends tail in
    (let same = rest.0 in cc, rest.1)

one_piece : (p q : Piece) (r s : List ℕ) → FitsBefore p r → FitsBefore q s → start_of_piece p ≡ start_of_piece q → bytes_of p ++ r ≡ bytes_of q ++ s → (p ≡ q) × (r ≡ s)
one_piece (separator b) (separator c) r s p_fits q_fits start e = (let same : b ≡ c = cc in cc, cc)
one_piece (separator b) (comment v) r s p_fits q_fits start e = absurd cc
one_piece (separator b) (token k v) r s p_fits q_fits start e = absurd cc
one_piece (comment u) (separator c) r s p_fits q_fits start e = absurd cc
one_piece (comment u) (comment v) r s p_fits q_fits start e =
    let behind : u ++ r ≡ v ++ s = cc in
    let same = one_line u v r s p_fits.0 p_fits.1 q_fits.0 q_fits.1 behind in
    (let equal = same.0 in cc, same.1)
one_piece (comment u) (token k v) r s p_fits q_fits start e = absurd cc
one_piece (token j w) (separator c) r s p_fits q_fits start e = absurd cc
one_piece (token j w) (comment v) r s p_fits q_fits start e = absurd cc
one_piece (token j w) (token k v) r s p_fits q_fits start e =
    let same = one_word j k w v r s p_fits.0.0 p_fits.1 q_fits.0.0 q_fits.1 e in
    let word = same.0 in
    let kind = one_kind j k v (subst (HasForm j) word p_fits.0.0) q_fits.0.0 in
    (cc, same.1)

same_piece : (p q : Piece) (r s : List ℕ) → FitsBefore p r → FitsBefore q s → bytes_of p ++ r ≡ bytes_of q ++ s → (p ≡ q) × (r ≡ s)
same_piece p q r s p_fits q_fits e =
    one_piece p q r s p_fits q_fits (sym (piece_start p r p_fits) ∙ ap start_of e ∙ piece_start q s q_fits) e

-- no piece stands here
abbrev pub IsStuck : List ℕ → Type 0
IsStuck rest = (q : Piece) (s : List ℕ) → FitsBefore q s → rest ≡ bytes_of q ++ s → ⊥

pub stuck-nil : IsStuck []
unfolding start_of
stuck-nil q s fits e = let begins : nothing ≡ start_of_piece q = ap start_of e ∙ piece_start q s fits in differs q begins
  where
    differs : (q : Piece) → nothing ≡ start_of_piece q → ⊥
    differs (separator b) h = cc
    differs (comment bytes) h = cc
    differs (token k w) h = cc

too_large : (n : ℕ) (k : TokenKind) → Number n ≡ k → limit < n → IsWithinLimit k → ⊥
too_large n Name h over within = cc
too_large n (Number m) h over within = let same : n ≡ m = cc in omega arith
too_large n Keyword h over within = cc
too_large n Mark h over within = cc

fault_apart : (front rest : List ℕ) (f : Fault) (q : Piece) (s : List ℕ) → StandsBetween front rest f → FitsBefore q s → rest ≡ bytes_of q ++ s → start_of_fault f ≡ start_of_piece q → ⊥
fault_apart front rest (bad_byte span) (separator b) s stands fits e h = cc
fault_apart front rest (bad_byte span) (comment bytes) s stands fits e h = cc
fault_apart front rest (bad_byte span) (token k w) s stands fits e h = cc
fault_apart front rest (bad_token span) (separator b) s stands fits e h = cc
fault_apart front rest (bad_token span) (comment bytes) s stands fits e h = cc
fault_apart front rest (bad_token span) (token k w) s stands fits e h = cc
fault_apart front rest (number_too_large span) (separator b) s stands fits e h = cc
fault_apart front rest (number_too_large span) (comment bytes) s stands fits e h = cc
fault_apart front rest (number_too_large span) (token k w) s stands fits e h =
    let same = one_word (Number stands.0) k stands.1 w stands.2 s stands.4 stands.6 fits.0.0 fits.1 (sym stands.3 ∙ e) in
    let kind = one_kind (Number stands.0) k w (subst (HasForm (Number stands.0)) same.0 stands.4) fits.0.0 in
    too_large stands.0 k kind stands.5 fits.0.1

pub stuck-fault : (front rest : List ℕ) (f : Fault) → StandsBetween front rest f → IsStuck rest
stuck-fault front rest f stands q s fits e =
    fault_apart front rest f q s stands fits e (sym (fault_start front rest f stands) ∙ ap start_of e ∙ piece_start q s fits)

alike : (front rest : List ℕ) (f g : Fault) → StandsBetween front rest f → StandsBetween front rest g → start_of_fault f ≡ start_of_fault g → f ≡ g
alike front rest (bad_byte a) (bad_byte b) f_stands g_stands e =
    let first = f_stands.2 in let second = g_stands.2 in let place = f_stands.5 in let place' = g_stands.5 in
    let same : f_stands.0 ≡ g_stands.0 = cc in cc
alike front rest (bad_byte a) (bad_token b) f_stands g_stands e = absurd cc
alike front rest (bad_byte a) (number_too_large b) f_stands g_stands e = absurd cc
alike front rest (bad_token a) (bad_byte b) f_stands g_stands e = absurd cc
alike front rest (bad_token a) (bad_token b) f_stands g_stands e =
    let first = f_stands.2 in let second = g_stands.2 in let place = f_stands.6 in let place' = g_stands.6 in
    let same : f_stands.0 ≡ g_stands.0 = cc in cc
alike front rest (bad_token a) (number_too_large b) f_stands g_stands e = absurd cc
alike front rest (number_too_large a) (bad_byte b) f_stands g_stands e = absurd cc
alike front rest (number_too_large a) (bad_token b) f_stands g_stands e = absurd cc
alike front rest (number_too_large a) (number_too_large b) f g e =
    let same = one_word (Number f.0) (Number g.0) f.1 g.1 f.2 g.2 f.4 f.6 g.4 g.6 (sym f.3 ∙ g.3) in
    ap number_too_large (f.7 ∙ ap (span_behind front) same.0 ∙ sym g.7)

pub one_fault_between : (front rest : List ℕ) (f g : Fault) → StandsBetween front rest f → StandsBetween front rest g → f ≡ g
one_fault_between front rest f g f_stands g_stands =
    alike front rest f g f_stands g_stands (sym (fault_start front rest f f_stands) ∙ fault_start front rest g g_stands)

-- ---- one cut

pub one_cut : (ps qs : List Piece) (r s : List ℕ) → IsStuck r → IsStuck s → IsCutBefore ps r → IsCutBefore qs s → text_of ps ++ r ≡ text_of qs ++ s → (ps ≡ qs) × (r ≡ s)
one_cut [] [] r s r_stuck s_stuck p_cut q_cut e = (refl, e)
one_cut [] (q ∷ qs) r s r_stuck s_stuck p_cut q_cut e =
    absurd (r_stuck q (text_of qs ++ s) q_cut.0 (e ∙ append_assoc (bytes_of q) (text_of qs) s))
one_cut (p ∷ ps) [] r s r_stuck s_stuck p_cut q_cut e =
    absurd (s_stuck p (text_of ps ++ r) p_cut.0 (sym e ∙ append_assoc (bytes_of p) (text_of ps) r))
one_cut (p ∷ ps) (q ∷ qs) r s r_stuck s_stuck p_cut q_cut e =
    let same = same_piece p q (text_of ps ++ r) (text_of qs ++ s) p_cut.0 q_cut.0
    (sym (append_assoc (bytes_of p) (text_of ps) r) ∙ e ∙ append_assoc (bytes_of q) (text_of qs) s) in
    let rest = one_cut ps qs r s r_stuck s_stuck p_cut.1 q_cut.1 same.1 in
    (let head = same.0 in let tail = rest.0 in cc, rest.1)

pub one_list : (text : List ℕ) (ts us : List Token) → HasTokens text ts → HasTokens text us → ts ≡ us
one_list text ts us has has' =
    let same = one_cut has.0 has'.0 [] [] stuck-nil stuck-nil has.2 has'.2
    (append-nil (text_of has.0) ∙ sym has.1 ∙ has'.1 ∙ sym (append-nil (text_of has'.0))) in
    has.3 ∙ ap (tokens_behind []) same.0 ∙ sym has'.3

pub one_first_fault : (text : List ℕ) (f g : Fault) → IsFirstFault text f → IsFirstFault text g → f ≡ g
one_first_fault text f g first first' =
    let same = one_cut first.0 first'.0 first.1 first'.1
    (stuck-fault (text_of first.0) first.1 f first.4) (stuck-fault (text_of first'.0) first'.1 g first'.4)
    first.3 first'.3 (sym first.2 ∙ first'.2) in
    one_fault_between (text_of first'.0) first'.1 f g
    (subst (λ (ps : List Piece). StandsBetween (text_of ps) first'.1 f) same.0
    (subst (λ (rest : List ℕ). StandsBetween (text_of first.0) rest f) same.1 first.4))
    first'.4

some_fault : (f : Fault) → nothing ≡ start_of_fault f → ⊥
some_fault (bad_byte span) h = cc
some_fault (bad_token span) h = cc
some_fault (number_too_large span) h = cc

no_fault-nil : (front rest : List ℕ) (f : Fault) → StandsBetween front rest f → rest ≡ [] → ⊥
unfolding start_of
no_fault-nil front rest f stands e = some_fault f (sym (ap start_of e) ∙ fault_start front rest f stands)

pub never_both : (text : List ℕ) (ts : List Token) (f : Fault) → HasTokens text ts → IsFirstFault text f → ⊥
never_both text ts f has first =
    let same = one_cut has.0 first.0 [] first.1 stuck-nil (stuck-fault (text_of first.0) first.1 f first.4) has.2 first.3
    (append-nil (text_of has.0) ∙ sym has.1 ∙ first.2) in
    no_fault-nil (text_of first.0) first.1 f first.4 (sym same.1)
