-- Words for the grammar of programs.
use Rattle.std.specs.Prelude.{ℕ, zero, suc, ◌-◌, Bool, true, ◌||◌, if◌then◌else◌, ◌==◌, nat_le, List, [], ◌∷◌, length, map, slice_get, Option, Some}
use Rattle.std.specs.List.{list_all}
use Rattle.chan_base.specs.declared.spans.Span.{Span}
use Rattle.chan_syntax.specs.declared.operands.Supply.{Supply}
use Rattle.chan_syntax.specs.declared.operands.Letter.{Letter}
use Rattle.chan_syntax.specs.declared.operands.Letter.TheVariants.{Left, Right}
use Rattle.chan_syntax.specs.declared.resources.Res.{Res}
use Rattle.chan_syntax.specs.declared.surface_tree.Block.{Block}
use Rattle.text_tokens.specs.declared.TokenKind.{TokenKind}
use Rattle.text_tokens.specs.declared.TokenKind.TheVariants as t
use Rattle.text_tokens.specs.Text.{Token}
use Rattle.text_tokens.specs.Word.{limit}
use Rattle.grammar_laws.specs.Grammar as g
use Rattle.surface_grammar.specs.declared.words.Word.{Word}
use Rattle.surface_grammar.specs.declared.words.Word.TheVariants as w
use Rattle.surface_grammar.specs.declared.parts.Named.{Named}
use Rattle.surface_grammar.specs.declared.parts.Names.{Names}
use Rattle.surface_grammar.specs.declared.parts.Digits.{Digits}
use Rattle.surface_grammar.specs.declared.parts.Route.{Route}
use Rattle.surface_grammar.specs.Words.{code_of, name_code, number_code}

-- what the grammar uses of itself
pub data Rule : Type 0 where
  AValue : Rule
  ARes : Rule
  ABlock : Rule

-- the trees of what the grammar uses of itself
abbrev pub TreeOf : Rule → Type 0
TreeOf AValue = Supply
TreeOf ARes = Res
TreeOf ABlock = Block

-- a part of the grammar whose trees have this type
abbrev pub G : Type 0 → Type 1
G A = g.Grammar Token Rule TreeOf A

-- ---- places

-- from the first of two tokens to the second
abbrev pub span_from : Option Token → Option Token → Span
span_from (Some a) (Some b) = record { start = a.span.start; stop = b.span.stop; line = a.span.line; column = a.span.column }
span_from _ _ = record { start = 0; stop = 0; line = 0; column = 0 }

-- the place of these tokens
unfoldable pub cover : List Token → Span
cover ts = span_from (slice_get ts 0) (slice_get ts (length ts - 1))

-- ---- parts

-- the keyword or mark
abbrev pub word : Word → G (Unit {0})
word v = g.one (code_of v) (λ _. true) (λ _. tt {0})

infixr 11 ◌▷◌
-- one part and then another, whose tree is the tree
abbrev pub ◌▷◌ : {A B : Type 0} → G A → G B → G B
a ▷ b = g.seq (λ _ y. y) a b

infixl 12 ◌◁◌
-- one part, whose tree is the tree, and then another
abbrev pub ◌◁◌ : {A B : Type 0} → G A → G B → G A
a ◁ b = g.seq (λ x _. x) a b

infixr 10 ◌⇒◌
-- a part, and what is made of its tree
abbrev pub ◌⇒◌ : {A B : Type 0} → G A → (A → B) → G B
a ⇒ f = g.seq (λ x _. f x) a (g.pure (tt {0}))

-- the codes of these words
abbrev pub yes : List Word → List ℕ
yes [] = []
yes (v ∷ vs) = code_of v ∷ yes vs

-- `{ item }` where each item begins with one of these words
abbrev pub repeated : {A : Type 0} → List Word → G A → G (List A)
repeated vs item = g.many (yes vs) (λ xs. xs) item

-- at most so many items, where each begins with one of these words
abbrev pub up_to : {A : Type 0} → ℕ → List Word → G A → G (List A)
up_to zero vs item = g.pure []
up_to (suc n) vs item = g.either (yes vs) (g.seq (λ x xs. x ∷ xs) item (up_to n vs item)) (g.pure [])

-- how many arms a sum, a choice, a match or a branch may have beyond the first two
abbrev pub more_arms_than_two : ℕ
more_arms_than_two = 14

-- item { "," item }
abbrev pub listed : {A : Type 0} → G A → G (List A)
listed item = g.seq (λ x xs. x ∷ xs) item (repeated (w.Comma ∷ []) (word w.Comma ▷ item))

-- [ items ] and then the word that closes them, which tells whether there are any
abbrev pub closed : {A : Type 0} → Word → G (List A) → G (List A)
closed v items = g.either (yes (v ∷ [])) (word v ⇒ (λ _. [])) (items ◁ word v)

-- a word that opens a level, and what is read at that level
abbrev pub opened : {A : Type 0} → Word → G A → G A
opened v a = g.nest (code_of v) a

-- ---- tokens

-- NAME
unfoldable pub name : G Named
name = g.one name_code (λ _. true) (λ t. record { name = t.text; span = t.span })

-- the number of a NUMBER
abbrev pub number_of : TokenKind → ℕ
number_of (t.Number n) = n
number_of _ = 0

-- NUMBER
unfoldable pub number : G Digits
number = g.one number_code (λ t. nat_le (number_of t.kind) limit) (λ t. record { value = number_of t.kind; span = t.span })

-- a NUMBER that is at most 15
unfoldable pub arm_number : G ℕ
arm_number = g.one number_code (λ t. nat_le (number_of t.kind) 15) (λ t. number_of t.kind)

-- the NUMBER i
unfoldable pub the_number : ℕ → G (Unit {0})
the_number i = g.one number_code (λ t. number_of t.kind == i) (λ _. tt {0})

-- `l` or `r`
abbrev pub is_letter : ℕ → Bool
is_letter b = b == 108 || b == 114

-- the letter of this byte
abbrev pub letter_of : ℕ → Letter
letter_of b = if b == 108 then Left else Right

-- a NAME made of the letters `l` and `r` alone
unfoldable pub letters : G Route
letters = g.one name_code (λ t. list_all is_letter t.text) (λ t. record { path = map letter_of t.text; span = Some t.span })

-- the names and their places
abbrev pub parted : List Named → Names
parted ns = record { names = map (λ (n : Named). n.name) ns; spans = map (λ (n : Named). n.span) ns }

-- names = NAME { "," NAME }
unfoldable pub names : G Names
names = listed name ⇒ parted
