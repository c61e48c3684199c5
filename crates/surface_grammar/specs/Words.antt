-- The keywords and marks, and the codes by which a grammar tells tokens apart.
use Rattle.std.specs.Prelude.{ℕ, zero, suc, Bool, true, false, if◌then◌else◌, ◌==◌, List, [], ◌∷◌, ◌++◌, codes}
use Rattle.std.specs.Str.{bytes_eq}
use Rattle.chan_base.specs.declared.spans.Span.{Span}
use Rattle.text_tokens.specs.declared.TokenKind.{TokenKind}
use Rattle.text_tokens.specs.declared.TokenKind.TheVariants as t
use Rattle.text_tokens.specs.Text.{Token}
use Rattle.surface_grammar.specs.declared.words.Word.{Word}
use Rattle.surface_grammar.specs.declared.words.Word.TheVariants as w

-- how a word is spelled
unfoldable pub spelling : Word → List ℕ
spelling w.Proto = codes "proto"
spelling w.Fn = codes "fn"
spelling w.Let = codes "let"
spelling w.Fork = codes "fork"
spelling w.Do = codes "do"
spelling w.Send1 = codes "send1"
spelling w.Recv1 = codes "recv1"
spelling w.Send = codes "send"
spelling w.Recv = codes "recv"
spelling w.Close = codes "close"
spelling w.Wait = codes "wait"
spelling w.Left = codes "left"
spelling w.Right = codes "right"
spelling w.Branch = codes "branch"
spelling w.Print = codes "print"
spelling w.If = codes "if"
spelling w.Else = codes "else"
spelling w.Match = codes "match"
spelling w.Absurd = codes "absurd"
spelling w.Ret = codes "ret"
spelling w.Loop = codes "loop"
spelling w.Again = codes "again"
spelling w.With = codes "with"
spelling w.By = codes "by"
spelling w.Via = codes "via"
spelling w.Then = codes "then"
spelling w.Choice = codes "choice"
spelling w.Offer = codes "offer"
spelling w.Of = codes "of"
spelling w.As = codes "as"
spelling w.Int = codes "int"
spelling w.Unit = codes "unit"
spelling w.End = codes "end"
spelling w.Sum = codes "sum"
spelling w.Inl = codes "inl"
spelling w.Inr = codes "inr"
spelling w.Mul = codes "mul"
spelling w.Div = codes "div"
spelling w.Rem = codes "rem"
spelling w.LeftParen = codes "("
spelling w.RightParen = codes ")"
spelling w.LeftBracket = codes "["
spelling w.RightBracket = codes "]"
spelling w.LeftBrace = codes "{"
spelling w.RightBrace = codes "}"
spelling w.Comma = codes ","
spelling w.Semicolon = codes ";"
spelling w.Colon = codes ":"
spelling w.Equals = codes "="
spelling w.Tilde = codes "~"
spelling w.Hash = codes "#"
spelling w.Bar = codes "|"
spelling w.Plus = codes "+"
spelling w.Minus = codes "-"
spelling w.Star = codes "*"
spelling w.Less = codes "<"
spelling w.AtMost = codes "<="
spelling w.Arrow = codes "->"

-- the code of a NAME
abbrev pub name_code : ℕ
name_code = 0

-- the code of a NUMBER
abbrev pub number_code : ℕ
number_code = 1

-- the code of a word
abbrev pub code_of : Word → ℕ
code_of w.Proto = 2
code_of w.Fn = 3
code_of w.Let = 4
code_of w.Fork = 5
code_of w.Do = 6
code_of w.Send1 = 7
code_of w.Recv1 = 8
code_of w.Send = 9
code_of w.Recv = 10
code_of w.Close = 11
code_of w.Wait = 12
code_of w.Left = 13
code_of w.Right = 14
code_of w.Branch = 15
code_of w.Print = 16
code_of w.If = 17
code_of w.Else = 18
code_of w.Match = 19
code_of w.Absurd = 20
code_of w.Ret = 21
code_of w.Loop = 22
code_of w.Again = 23
code_of w.With = 24
code_of w.By = 25
code_of w.Via = 26
code_of w.Then = 27
code_of w.Choice = 28
code_of w.Offer = 29
code_of w.Of = 30
code_of w.As = 31
code_of w.Int = 32
code_of w.Unit = 33
code_of w.End = 34
code_of w.Sum = 35
code_of w.Inl = 36
code_of w.Inr = 37
code_of w.Mul = 38
code_of w.Div = 39
code_of w.Rem = 40
code_of w.LeftParen = 41
code_of w.RightParen = 42
code_of w.LeftBracket = 43
code_of w.RightBracket = 44
code_of w.LeftBrace = 45
code_of w.RightBrace = 46
code_of w.Comma = 47
code_of w.Semicolon = 48
code_of w.Colon = 49
code_of w.Equals = 50
code_of w.Tilde = 51
code_of w.Hash = 52
code_of w.Bar = 53
code_of w.Plus = 54
code_of w.Minus = 55
code_of w.Star = 56
code_of w.Less = 57
code_of w.AtMost = 58
code_of w.Arrow = 59

-- all keywords
abbrev pub keywords : List Word
keywords =
    w.Proto ∷ w.Fn ∷ w.Let ∷ w.Fork ∷ w.Do ∷ w.Send1 ∷ w.Recv1 ∷ w.Send ∷ w.Recv ∷ w.Close ∷ w.Wait ∷ w.Left ∷ w.Right ∷ w.Branch ∷ w.Print ∷ w.If ∷ w.Else ∷ w.Match ∷ w.Absurd ∷ w.Ret ∷ w.Loop ∷ w.Again ∷ w.With ∷ w.By ∷ w.Via ∷ w.Then ∷ w.Choice ∷ w.Offer ∷ w.Of ∷ w.As ∷ w.Int ∷ w.Unit ∷ w.End ∷ w.Sum ∷ w.Inl ∷ w.Inr ∷ w.Mul ∷ w.Div ∷ w.Rem ∷ []

-- all marks
abbrev pub marks : List Word
marks =
    w.LeftParen ∷ w.RightParen ∷ w.LeftBracket ∷ w.RightBracket ∷ w.LeftBrace ∷ w.RightBrace ∷ w.Comma ∷ w.Semicolon ∷ w.Colon ∷ w.Equals ∷ w.Tilde ∷ w.Hash ∷ w.Bar ∷ w.Plus ∷ w.Minus ∷ w.Star ∷ w.Less ∷ w.AtMost ∷ w.Arrow ∷ []

-- all words
abbrev pub words : List Word
words = keywords ++ marks

-- the code of the word among these that is spelled so
abbrev pub code_in : List Word → List ℕ → ℕ
code_in [] text = 60
code_in (v ∷ vs) text = if bytes_eq (spelling v) text then code_of v else code_in vs text

-- the code of a token of this kind and text
abbrev pub code_by : TokenKind → List ℕ → ℕ
code_by t.Name text = name_code
code_by (t.Number n) text = number_code
code_by t.Keyword text = code_in words text
code_by t.Mark text = code_in words text

-- the code of a token
unfoldable pub code : Token → ℕ
code token = code_by token.kind token.text

-- the word of this code among these, spelled
abbrev pub text_in : List Word → ℕ → List ℕ
text_in [] c = []
text_in (v ∷ vs) c = if code_of v == c then spelling v else text_in vs c

-- one of these words has the code
abbrev pub has_code : ℕ → List Word → Bool
has_code c [] = false
has_code c (v ∷ vs) = if code_of v == c then true else has_code c vs

-- no place
abbrev pub nowhere : Span
nowhere = record { start = 0; stop = 0; line = 0; column = 0 }

-- a NUMBER
abbrev pub number_token : ℕ → Token
number_token n = record { kind = t.Number n; text = codes "0"; span = nowhere }

-- the first NUMBER from n on that passes the test, where one of so many does
abbrev pub first_number : (Token → Bool) → (left n : ℕ) → Token
first_number p zero n = number_token n
first_number p (suc left) n = if p (number_token n) then number_token n else first_number p left (suc n)

-- A token of each code: the name `l`, the least number that passes the test, and each keyword and mark.
abbrev pub sample : ℕ → (Token → Bool) → Token
sample c p =
    if c == name_code then record { kind = t.Name; text = codes "l"; span = nowhere }
    else if c == number_code then first_number p 16 0
    else if has_code c keywords then record { kind = t.Keyword; text = text_in keywords c; span = nowhere }
    else record { kind = t.Mark; text = text_in marks c; span = nowhere }
