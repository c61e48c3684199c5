-- What holds of all texts of tokens.
use Rattle.std.specs.Prelude.{◌≡◌, List, []}
use Rattle.chan_syntax.specs.declared.surface_tree.Surface.{Surface}
use Rattle.text_tokens.specs.Text.{Token}
use Rattle.grammar_laws.specs.Grammar.{Got}
use Rattle.grammar_laws.specs.Laws.{Reads, IsOutcome, outcome}
use Rattle.surface_grammar.specs.Declarations.{program}
use Rattle.surface_grammar.specs.Language.{surface, max_levels, Derives}

-- no tokens are those of two trees
abbrev pub IsUnique : Type 0
IsUnique = (x y : Surface) (ts : List Token) → Reads surface program x ts → Reads surface program y ts → x ≡ y

-- Each list of tokens has an outcome: the tree that it derives, or its first fault.
abbrev pub HasOutcome : Type 0
HasOutcome = (ts : List Token) → IsOutcome surface max_levels program ts (outcome surface max_levels program ts)

-- the outcome of the tokens of a tree is the tree
abbrev pub IsComplete : Type 0
IsComplete = (x : Surface) (ts : List Token) → Derives x ts → outcome surface max_levels program ts ≡ Got x []
