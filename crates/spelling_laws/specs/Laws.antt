-- What the spelling of a program is read as.
use Rattle.std.specs.Prelude.{◌≡◌, ℕ, List}
use Rattle.chan_syntax.specs.declared.surface_tree.Surface.{Surface}
use Rattle.text_tokens.specs.Text.{Token, HasTokens}
use Rattle.surface_grammar.specs.Language.{Derives}
use Rattle.surface_spelling.specs.Spelling.{spelling}
use Rattle.surface_spelling.specs.Erased.{erase}

-- the text is cut into tokens, and they are those of the tree
abbrev pub Reads : List ℕ → Surface → Type 0
Reads text tree = (tokens : List Token) × HasTokens text tokens × Derives tree tokens

-- The spelling of a tree that some text reads as is read as that tree again, places aside.
abbrev pub IsReadAgain : Type 0
IsReadAgain = (text : List ℕ) (s : Surface) → Reads text s → (again : Surface) × Reads (spelling s) again × (erase again ≡ erase s)

-- Whatever the spelling of such a tree is read as is the tree, places aside, and is spelled the same.
abbrev pub IsSettled : Type 0
IsSettled = (text : List ℕ) (s again : Surface) → Reads text s → Reads (spelling s) again → (erase again ≡ erase s) × (spelling again ≡ spelling s)
