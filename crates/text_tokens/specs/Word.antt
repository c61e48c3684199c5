-- Which words are tokens.
use Rattle.std.specs.Prelude.{◌≡◌, ℕ, ◌+◌, ◌-◌, ◌*◌, ◌≤◌, Bool, false, not, ◌&&◌, ◌||◌, ◌==◌, List, [], ◌∷◌, ◌++◌, fold, codes, IsTrue}
use Rattle.std.specs.Char.{is_ascii_digit, is_ascii_alphabetic, is_ascii_alphanumeric}
use Rattle.std.specs.List.{list_all, list_any}
use Rattle.std.specs.Str.{bytes_eq}
use Rattle.text_tokens.specs.declared.TokenKind.{TokenKind}
use Rattle.text_tokens.specs.declared.TokenKind.TheVariants.{Name, Number, Keyword, Mark}

-- the words that are no names
abbrev pub keywords : List (List ℕ)
keywords =
    codes "proto" ∷ codes "fn" ∷ codes "let" ∷ codes "fork" ∷ codes "do" ∷ codes "send1" ∷ codes "recv1" ∷ codes "send"
    ∷ codes "recv" ∷ codes "close" ∷ codes "wait" ∷ codes "left" ∷ codes "right" ∷ codes "branch" ∷ codes "print" ∷ codes "if"
    ∷ codes "else" ∷ codes "match" ∷ codes "absurd" ∷ codes "ret" ∷ codes "loop" ∷ codes "again" ∷ codes "with" ∷ codes "by"
    ∷ codes "via" ∷ codes "then" ∷ codes "choice" ∷ codes "offer" ∷ codes "of" ∷ codes "as" ∷ codes "int" ∷ codes "unit"
    ∷ codes "end" ∷ codes "sum" ∷ codes "inl" ∷ codes "inr" ∷ codes "mul" ∷ codes "div" ∷ codes "rem" ∷ []

-- the words that are made of other signs
abbrev pub marks : List (List ℕ)
marks =
    codes "(" ∷ codes ")" ∷ codes "[" ∷ codes "]" ∷ codes "{" ∷ codes "}" ∷ codes "," ∷ codes ";" ∷ codes ":" ∷ codes "="
    ∷ codes "~" ∷ codes "#" ∷ codes "|" ∷ codes "+" ∷ codes "-" ∷ codes "*" ∷ codes "<" ∷ codes "<=" ∷ codes "->" ∷ []

-- a letter or `_`
abbrev pub begins_name : ℕ → Bool
begins_name b = is_ascii_alphabetic b || b == 95

-- a letter, a digit or `_`
abbrev pub continues_name : ℕ → Bool
continues_name b = is_ascii_alphanumeric b || b == 95

-- a letter or `_`, then letters, digits or `_`
abbrev pub is_spelled_as_name : List ℕ → Bool
is_spelled_as_name [] = false
is_spelled_as_name (b ∷ bs) = begins_name b && list_all continues_name bs

-- one digit or more
abbrev pub is_digits : List ℕ → Bool
is_digits [] = false
is_digits (b ∷ bs) = is_ascii_digit b && list_all is_ascii_digit bs

-- the word is one of the keywords
abbrev pub is_keyword : List ℕ → Bool
is_keyword word = list_any (bytes_eq word) keywords

-- the word is one of the marks
abbrev pub is_mark : List ℕ → Bool
is_mark word = list_any (bytes_eq word) marks

-- the number that the digits spell
abbrev pub value_of : List ℕ → ℕ
value_of = fold (λ n b. 10 * n + (b - 48)) 0

-- the largest NUMBER
abbrev pub limit : ℕ
limit = 9223372036854775807

-- the word has the form of such a token, where a NUMBER may be of any size
abbrev pub HasForm : TokenKind → List ℕ → Type 0
HasForm Name word = IsTrue (is_spelled_as_name word) × IsTrue (not (is_keyword word))
HasForm (Number n) word = IsTrue (is_digits word) × (n ≡ value_of word)
HasForm Keyword word = IsTrue (is_keyword word)
HasForm Mark word = IsTrue (is_mark word)

-- a NUMBER is not too large
abbrev pub IsWithinLimit : TokenKind → Type 0
IsWithinLimit Name = Unit {0}
IsWithinLimit (Number n) = n ≤ limit
IsWithinLimit Keyword = Unit {0}
IsWithinLimit Mark = Unit {0}

-- the word is such a token
abbrev pub IsToken : TokenKind → List ℕ → Type 0
IsToken kind word = HasForm kind word × IsWithinLimit kind

-- the word begins the text `word ++ rest`, and no longer front of that text has the form of a token
abbrev pub IsLongest : List ℕ → List ℕ → Type 0
IsLongest word rest = (kind : TokenKind) (b : ℕ) (more back : List ℕ) → rest ≡ b ∷ more ++ back → ¬ HasForm kind (word ++ b ∷ more)
