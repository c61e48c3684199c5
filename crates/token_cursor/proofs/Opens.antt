-- What is read behind an opening word, and what the names stand for.
use Rattle.std.proofs.Common.{◌≡◌, ℕ, zero, suc, Bool, true, false, cond, ◌==◌, List, [], ◌∷◌, refl}
use Rattle.text_tokens.specs.Text.{Token}
use Rattle.grammar_laws.specs.Grammar.{Outcome, Got, Bad, Deep, Parser, and_then, opened, named, below}
use Rattle.grammar_laws.proofs.More.{guarded_same}
use Rattle.surface_grammar.specs.declared.words.Word.{Word}
use Rattle.surface_grammar.specs.declared.words.Word.TheVariants as w
use Rattle.surface_grammar.specs.Words.{code, code_of}
use Rattle.surface_grammar.specs.Grammar.{G, AValue, ARes, ABlock}
use Rattle.surface_grammar.specs.Terms.{res}
use Rattle.surface_grammar.specs.Operands.{value}
use Rattle.surface_grammar.specs.Statements.{block}
use Rattle.surface_grammar.specs.Language.{body, firsts, At}
use Rattle.surface_grammar.proofs.Tests.{value_guarded, res_guarded, block_guarded}
use Rattle.token_cursor.specs.Syntax.{opening}

chosen : {A : Type 0} (b : Bool) (o : Outcome Token ℕ) (t : Token) (ts : List Token) (k : ℕ → Parser Token A) → cond b (and_then o k) (Bad (t ∷ ts)) ≡ and_then (cond b o (Bad (t ∷ ts))) k
chosen true o t ts k = refl
chosen false o t ts k = refl

opens : {A : Type 0} (v : Word) (n : ℕ) (p : G A) (ts : List Token)
    → opened code (code_of v) (below code firsts body n A p) ts ≡ and_then (opening v n ts) (λ m rest. At m p rest)
unfolding opening named below
opens v n p [] = refl
opens v zero p (t ∷ ts) = chosen (code t == code_of v) (Deep (t ∷ ts)) t ts (λ m rest. At m p rest)
opens v (suc n) p (t ∷ ts) = chosen (code t == code_of v) (Got n ts) t ts (λ m rest. At m p rest)

-- the same at each word, since a rule rewrites what it spells out

pub opens_paren : {A : Type 0} (n : ℕ) (p : G A) (ts : List Token) → opened code (code_of w.LeftParen) (below code firsts body n A p) ts ≡ and_then (opening w.LeftParen n ts) (λ m rest. At m p rest)
opens_paren n p ts = opens w.LeftParen n p ts

pub opens_bracket : {A : Type 0} (n : ℕ) (p : G A) (ts : List Token) → opened code (code_of w.LeftBracket) (below code firsts body n A p) ts ≡ and_then (opening w.LeftBracket n ts) (λ m rest. At m p rest)
opens_bracket n p ts = opens w.LeftBracket n p ts

pub opens_brace : {A : Type 0} (n : ℕ) (p : G A) (ts : List Token) → opened code (code_of w.LeftBrace) (below code firsts body n A p) ts ≡ and_then (opening w.LeftBrace n ts) (λ m rest. At m p rest)
opens_brace n p ts = opens w.LeftBrace n p ts

pub opens_inl : {A : Type 0} (n : ℕ) (p : G A) (ts : List Token) → opened code (code_of w.Inl) (below code firsts body n A p) ts ≡ and_then (opening w.Inl n ts) (λ m rest. At m p rest)
opens_inl n p ts = opens w.Inl n p ts

pub opens_inr : {A : Type 0} (n : ℕ) (p : G A) (ts : List Token) → opened code (code_of w.Inr) (below code firsts body n A p) ts ≡ and_then (opening w.Inr n ts) (λ m rest. At m p rest)
opens_inr n p ts = opens w.Inr n p ts

pub opens_hash : {A : Type 0} (n : ℕ) (p : G A) (ts : List Token) → opened code (code_of w.Hash) (below code firsts body n A p) ts ≡ and_then (opening w.Hash n ts) (λ m rest. At m p rest)
opens_hash n p ts = opens w.Hash n p ts

-- a name is read as what it stands for

pub value_is : (n : ℕ) (ts : List Token) → named code firsts body n AValue ts ≡ At n value ts
unfolding named below body
value_is n ts = guarded_same code firsts (λ x us. Bad us) (named code firsts body n) (below code firsts body n) value value_guarded ts

pub res_is : (n : ℕ) (ts : List Token) → named code firsts body n ARes ts ≡ At n res ts
unfolding named below body
res_is n ts = guarded_same code firsts (λ x us. Bad us) (named code firsts body n) (below code firsts body n) res res_guarded ts

pub block_is : (n : ℕ) (ts : List Token) → named code firsts body n ABlock ts ≡ At n block ts
unfolding named below body
block_is n ts = guarded_same code firsts (λ x us. Bad us) (named code firsts body n) (below code firsts body n) block block_guarded ts
