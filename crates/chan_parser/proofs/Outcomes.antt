-- What `parse` owes, from what reading the program gives.
use Rattle.std.proofs.Common.{◌≡◌, ◌≢◌, ℕ, ◌+◌, List, [], ◌∷◌, length, refl, sym, ◌∙◌, ap, subst, arith}
use Rattle.chan_base.specs.declared.spans.Span.{Span}
use Rattle.chan_syntax.specs.declared.surface_tree.Surface.{Surface}
use Rattle.text_tokens.specs.Text.{Token}
use Rattle.chan_lexer.specs.declared.token.Token.{Token as Plain}
use Rattle.chan_lexer.specs.Spelled.{spelled}
use Rattle.grammar_laws.specs.Grammar.{Outcome, Got, Bad, Deep}
use Rattle.grammar_laws.specs.Laws.{IsOutcome, finish}
use Rattle.grammar_laws.proofs.Knot.{outcome_is, whole_is}
use Rattle.grammar_laws.proofs.Faults.{one_unexpected, one_too_deep, never_both, tree_not_unexpected, tree_not_too_deep}
use Rattle.surface_grammar.specs.Declarations.{program}
use Rattle.surface_grammar.specs.Language.{At, Derives, surface, max_levels}
use Rattle.surface_grammar.proofs.Tests.{names_pass, program_passes, samples}
use Rattle.chan_parser.specs.declared.parse_fault.ParseFault.{ParseFault}
use Rattle.chan_parser.specs.declared.parse_fault.ParseFault.TheVariants.{Unexpected, TooDeep, Memory}
use Rattle.chan_parser.specs.Parse.{Fault, unexpected, too_deep, IsFirstFault, IsFaultOf, Says, place_of}

outcome_at : (ts : List Token) (o : Outcome Token Surface) → At max_levels program ts ≡ o → IsOutcome surface max_levels program ts (finish o)
outcome_at ts o e =
    let P : Outcome Token Surface → Type 0 = λ v. IsOutcome surface max_levels program ts (finish v) in
    subst P e (outcome_is surface names_pass samples max_levels program program_passes ts)

pub all_read : (ts : List Token) (tree : Surface) (rest : List Token) → At max_levels program ts ≡ Got tree rest → length rest ≡ 0 → Derives tree ts
all_read ts tree [] e n = (outcome_at ts (Got tree []) e).1
all_read ts tree (t ∷ rest) e n = let no : ⊥ = omega arith in absurd no

pub some_left : (source : List ℕ) (ts : List Token) (tree : Surface) (rest : List Token) (span : Span) → At max_levels program ts ≡ Got tree rest → length rest ≢ 0 → span ≡ place_of source rest
    → IsFirstFault source ts (unexpected span)
some_left source ts tree [] span e n p = absurd (n refl)
some_left source ts tree (t ∷ rest) span e n p = (t ∷ rest, outcome_at ts (Got tree (t ∷ rest)) e, p)

pub refused_at : (source : List ℕ) (ts rest : List Token) (span : Span) → At max_levels program ts ≡ Bad rest → span ≡ place_of source rest → IsFirstFault source ts (unexpected span)
refused_at source ts rest span e p = (rest, outcome_at ts (Bad rest) e, p)

pub deep_at : (source : List ℕ) (ts rest : List Token) (span : Span) → At max_levels program ts ≡ Deep rest → span ≡ place_of source rest → IsFirstFault source ts (too_deep span)
deep_at source ts rest span e p = (rest, outcome_at ts (Deep rest) e, p)

-- ---- where the tokens have a tree

-- a tree's tokens have no fault
pub no_fault : (source : List ℕ) (ts : List Token) (tree : Surface) → Derives tree ts → (fault : Fault) → IsFirstFault source ts fault → ⊥
no_fault source ts tree d (unexpected span) i = tree_not_unexpected surface names_pass samples max_levels program tree ts i.0 d i.1
no_fault source ts tree d (too_deep span) i = tree_not_too_deep surface names_pass samples max_levels program program_passes tree ts i.0 d i.1

same_tree : (x y : Surface) (r : List Token) → Got x r ≡ Got y r → x ≡ y
same_tree x y r e = cc

-- the tree that is read is the tree of the tokens
pub the_tree : (ts : List Token) (x tree : Surface) (rest : List Token) → At max_levels program ts ≡ Got x rest → length rest ≡ 0 → Derives tree ts → x ≡ tree
the_tree ts x tree [] e n d = same_tree x tree [] (ap finish (sym e) ∙ whole_is surface names_pass samples max_levels program program_passes tree ts d)
the_tree ts x tree (t ∷ rest) e n d = let no : ⊥ = omega arith in absurd no

-- ---- where they have a fault

-- two faults of one text are one
pub says_it : (source : List ℕ) (ts : List Token) (e : ParseFault) (fault : Fault) → IsFaultOf source ts e → IsFirstFault source ts fault → Says e fault
says_it source ts (Unexpected span) (unexpected other) i j = i.2 ∙ ap (place_of source) (one_unexpected surface program (max_levels + 1) ts i.0 j.0 i.1 j.1) ∙ sym j.2
says_it source ts (Unexpected span) (too_deep other) i j = never_both surface program (max_levels + 1) ts i.0 j.0 i.1 j.1
says_it source ts (TooDeep span) (unexpected other) i j = never_both surface program (max_levels + 1) ts j.0 i.0 j.1 i.1
says_it source ts (TooDeep span) (too_deep other) i j = i.2 ∙ ap (place_of source) (one_too_deep surface program (max_levels + 1) ts i.0 j.0 i.1 j.1) ∙ sym j.2
says_it source ts Memory fault i j = tt

-- what the cursor began with
pub started : (source : List ℕ) (list items : List Plain) (text : List ℕ) (cursor : List Token) (o : Outcome Token Surface) → text ≡ source → items ≡ list → cursor ≡ spelled text items
    → At max_levels program cursor ≡ o → At max_levels program (spelled source list) ≡ o
started source list items text cursor o e f g h =
    ap (At max_levels program) (ap (λ s. spelled s list) (sym e) ∙ ap (λ l. spelled text l) (sym f) ∙ sym g) ∙ h
