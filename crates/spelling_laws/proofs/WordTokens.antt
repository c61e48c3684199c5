-- The tokens of keywords, marks, names and numbers.
use Rattle.std.proofs.Common.{◌≡◌, ℕ, ◌<◌, ◌≤◌, ◌*◌, ◌+◌, ◌-◌, Bool, true, false, ◌==◌, nat_lt, if◌then◌else◌, List, [], ◌∷◌, length, fold, decimal, refl, sym, ◌∙◌, ap, ap₂, arith, ◌⊎◌, inl, inr}
use Rattle.std.proofs.lemmas.Bool.{both_ways, eqb-true, eq-eqb, and_from}
use Rattle.std.proofs.lemmas.Fmt.{decimal_is_IsNumeral}
use Rattle.std.proofs.lemmas.Grind.{common_steps}
use Rattle.std.proofs.lemmas.Slice.Eq.{bytes_eq-Decides}
use Rattle.std.specs.Char.{is_ascii_digit, digit_value}
use Rattle.std.specs.List.{list_all}
use Rattle.std.specs.Str.Parse.{AllDigits, digits_value_after}
use Rattle.text_tokens.specs.declared.TokenKind.{TokenKind}
use Rattle.text_tokens.specs.declared.TokenKind.TheVariants.{Name, Number, Keyword, Mark}
use Rattle.text_tokens.specs.Word.{is_digits, limit, IsToken}
use Rattle.text_tokens.specs.Text.{Token}
use Rattle.surface_spelling.specs.Erased.{nowhere}
use Rattle.surface_grammar.specs.declared.words.Word.{Word}
use Rattle.surface_grammar.specs.declared.words.Word.TheVariants as w
use Rattle.surface_grammar.specs.Words.{spelling, code_of, code_in, code_by, words, code, name_code, number_code}
use Rattle.surface_grammar.specs.Grammar.{number_of}
use Rattle.surface_grammar.proofs.WordCodes.{word_code, other_not_name, other_not_number}

-- ---- keywords and marks

abbrev pub kind_of : Word → TokenKind
kind_of v = if nat_lt (code_of v) 41 then Keyword else Mark

-- the token of the word
abbrev pub word_of : Word → Token
word_of v = record { kind = kind_of v; text = spelling v; span = nowhere }

pub word_is_token : (v : Word) → IsToken (kind_of v) (spelling v)
unfolding spelling
word_is_token w.Proto = (refl, tt)
word_is_token w.Fn = (refl, tt)
word_is_token w.Let = (refl, tt)
word_is_token w.Fork = (refl, tt)
word_is_token w.Do = (refl, tt)
word_is_token w.Send1 = (refl, tt)
word_is_token w.Recv1 = (refl, tt)
word_is_token w.Send = (refl, tt)
word_is_token w.Recv = (refl, tt)
word_is_token w.Close = (refl, tt)
word_is_token w.Wait = (refl, tt)
word_is_token w.Left = (refl, tt)
word_is_token w.Right = (refl, tt)
word_is_token w.Branch = (refl, tt)
word_is_token w.Print = (refl, tt)
word_is_token w.If = (refl, tt)
word_is_token w.Else = (refl, tt)
word_is_token w.Match = (refl, tt)
word_is_token w.Absurd = (refl, tt)
word_is_token w.Ret = (refl, tt)
word_is_token w.Loop = (refl, tt)
word_is_token w.Again = (refl, tt)
word_is_token w.With = (refl, tt)
word_is_token w.By = (refl, tt)
word_is_token w.Via = (refl, tt)
word_is_token w.Then = (refl, tt)
word_is_token w.Choice = (refl, tt)
word_is_token w.Offer = (refl, tt)
word_is_token w.Of = (refl, tt)
word_is_token w.As = (refl, tt)
word_is_token w.Int = (refl, tt)
word_is_token w.Unit = (refl, tt)
word_is_token w.End = (refl, tt)
word_is_token w.Sum = (refl, tt)
word_is_token w.Inl = (refl, tt)
word_is_token w.Inr = (refl, tt)
word_is_token w.Mul = (refl, tt)
word_is_token w.Div = (refl, tt)
word_is_token w.Rem = (refl, tt)
word_is_token w.LeftParen = (refl, tt)
word_is_token w.RightParen = (refl, tt)
word_is_token w.LeftBracket = (refl, tt)
word_is_token w.RightBracket = (refl, tt)
word_is_token w.LeftBrace = (refl, tt)
word_is_token w.RightBrace = (refl, tt)
word_is_token w.Comma = (refl, tt)
word_is_token w.Semicolon = (refl, tt)
word_is_token w.Colon = (refl, tt)
word_is_token w.Equals = (refl, tt)
word_is_token w.Tilde = (refl, tt)
word_is_token w.Hash = (refl, tt)
word_is_token w.Bar = (refl, tt)
word_is_token w.Plus = (refl, tt)
word_is_token w.Minus = (refl, tt)
word_is_token w.Star = (refl, tt)
word_is_token w.Less = (refl, tt)
word_is_token w.AtMost = (refl, tt)
word_is_token w.Arrow = (refl, tt)

by_word : (v : Word) (k : TokenKind) → (k ≡ Keyword) ⊎ (k ≡ Mark) → code_by k (spelling v) ≡ code_in words (spelling v)
by_word v k (inl e) = ap (λ (x : TokenKind). code_by x (spelling v)) e
by_word v k (inr e) = ap (λ (x : TokenKind). code_by x (spelling v)) e

keyword_or_mark : (b : Bool) → ((if b then Keyword else Mark) ≡ Keyword) ⊎ ((if b then Keyword else Mark) ≡ Mark)
keyword_or_mark true = inl refl
keyword_or_mark false = inr refl

code_of_word : (v : Word) → code_by (kind_of v) (spelling v) ≡ code_of v
code_of_word v =
    by_word v (kind_of v) (keyword_or_mark (nat_lt (code_of v) 41))
    ∙ eqb-true (code_in words (spelling v)) (code_of v) (word_code v (spelling v) ∙ (bytes_eq-Decides (spelling v) (spelling v)).1 refl)

-- a token of this kind and text has their code
pub code_at : (t : Token) (k : TokenKind) (text : List ℕ) → t.kind ≡ k → t.text ≡ text → code t ≡ code_by k text
unfolding code
code_at t k text e f = ap₂ code_by e f

pub code_is_word : (v : Word) (t : Token) → t.kind ≡ kind_of v → t.text ≡ spelling v → code t ≡ code_of v
code_is_word v t e f = code_at t (kind_of v) (spelling v) e f ∙ code_of_word v

-- ---- names and numbers

name_kind : (k : TokenKind) (text : List ℕ) → code_by k text ≡ name_code → k ≡ Name
name_kind Name text e = refl
name_kind (Number n) text e = cc
name_kind Keyword text e = absurd (both_ways (code_in words text == name_code) (other_not_name text) (eq-eqb (code_in words text) name_code e))
name_kind Mark text e = absurd (both_ways (code_in words text == name_code) (other_not_name text) (eq-eqb (code_in words text) name_code e))

-- a token of the code of a name is one
pub is_name : (t : Token) → code t ≡ name_code → t.kind ≡ Name
unfolding code
is_name t e = name_kind t.kind t.text e

number_kind : (k : TokenKind) (text : List ℕ) → code_by k text ≡ number_code → k ≡ Number (number_of k)
number_kind Name text e = cc
number_kind (Number n) text e = refl
number_kind Keyword text e = absurd (both_ways (code_in words text == number_code) (other_not_number text) (eq-eqb (code_in words text) number_code e))
number_kind Mark text e = absurd (both_ways (code_in words text == number_code) (other_not_number text) (eq-eqb (code_in words text) number_code e))

-- a token of the code of a number is one
pub is_number : (t : Token) → code t ≡ number_code → t.kind ≡ Number (number_of t.kind)
unfolding code
is_number t e = number_kind t.kind t.text e

-- ---- canonical numbers

digit_is : (c : ℕ) → digit_value c < 10 → (is_ascii_digit c ≡ true) × (digit_value c ≡ c - 48)
digit_is c e = grind (arith, common_steps)

all_digits : (ds : List ℕ) → AllDigits 10 ds → list_all is_ascii_digit ds ≡ true
all_digits [] d = refl
all_digits (c ∷ ds) d = and_from (is_ascii_digit c) (list_all is_ascii_digit ds) (digit_is c d.0).0 (all_digits ds d.1)

same_value : (n : ℕ) (ds : List ℕ) → AllDigits 10 ds → fold (λ m b. 10 * m + (b - 48)) n ds ≡ digits_value_after 10 n ds
same_value n [] d = refl
same_value n (c ∷ ds) d =
    same_value (10 * n + (c - 48)) ds d.1
    ∙ ap (λ (m : ℕ). digits_value_after 10 m ds) (let e = (digit_is c d.0).1 in omega (arith, e))

digits_of : (ds : List ℕ) → 0 < length ds → AllDigits 10 ds → is_digits ds ≡ true
digits_of [] some d = absurd (omega arith)
digits_of (c ∷ ds) some d = all_digits (c ∷ ds) d

-- a number within the limit, spelled
pub decimal_is_token : (n : ℕ) → n ≤ limit → IsToken (Number n) (decimal n)
decimal_is_token n within =
    let numeral = decimal_is_IsNumeral n (omega (arith, within)) in
    ((digits_of (decimal n) numeral.0.0 numeral.0.1, sym (same_value 0 (decimal n) numeral.0.1 ∙ numeral.1)), within)
