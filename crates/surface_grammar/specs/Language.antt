-- The language of programs, and which texts of tokens it has.
use Rattle.std.specs.Prelude.{ℕ, List, [], ◌∷◌}
use Rattle.chan_syntax.specs.declared.surface_tree.Surface.{Surface}
use Rattle.text_tokens.specs.Text.{Token}
use Rattle.grammar_laws.specs.Grammar as g
use Rattle.grammar_laws.specs.Laws.{Language}
use Rattle.surface_grammar.specs.declared.words.Word.TheVariants as w
use Rattle.surface_grammar.specs.Words.{code, name_code, number_code, sample}
use Rattle.surface_grammar.specs.Grammar.{G, Rule, AValue, ARes, ABlock, TreeOf, yes}
use Rattle.surface_grammar.specs.Terms.{res}
use Rattle.surface_grammar.specs.Operands.{value}
use Rattle.surface_grammar.specs.Statements.{block}
use Rattle.surface_grammar.specs.Declarations.{program}

-- what the names stand for
unfoldable pub body : (x : Rule) → G (TreeOf x)
body AValue = value
body ARes = res
body ABlock = block

-- the codes that each name may begin with
abbrev pub firsts : Rule → List ℕ
firsts AValue = name_code ∷ number_code ∷ yes (w.LeftParen ∷ w.Inl ∷ w.Inr ∷ w.Hash ∷ w.Minus ∷ [])
firsts ARes = yes (w.LeftBracket ∷ w.Unit ∷ w.Int ∷ w.End ∷ w.LeftParen ∷ w.Sum ∷ [])
firsts ABlock = yes (w.LeftBrace ∷ [])

-- the codes at which each may go on
abbrev pub follows : Rule → List ℕ
follows AValue = yes (w.Plus ∷ w.Minus ∷ w.Star ∷ [])
follows ARes = []
follows ABlock = []

abbrev pub surface : Language Token Rule TreeOf
surface = record { code = code; firsts = firsts; follows = follows; body = body; sample = sample }

-- The levels of nesting that a text may have. Each `(`, `[` and `{` and each tag of a value or an arm opens one, at its first token, up to
-- what closes it; the tag of a value is open to the end of the value, and that of an arm to the end of its pattern.
abbrev pub max_levels : ℕ
max_levels = 200

-- what a part of the grammar reads, where n more levels may be open
abbrev pub At : {A : Type 0} → ℕ → G A → List Token → g.Outcome Token A
At n p ts = g.within code firsts body n p ts

-- the tokens are those of the tree
abbrev pub Derives : Surface → List Token → Type 0
Derives tree ts = g.Within code body max_levels program tree ts
