-- What a cursor over the tokens answers.
use Rattle.std.specs.Prelude.{◌≡◌, ℕ, zero, suc, Bool, true, if◌then◌else◌, ◌==◌, List, [], ◌∷◌, ◌++◌, Option, Some, None, Result, Ok, Err}
use Rattle.chan_base.specs.declared.spans.Span.{Span}
use Rattle.text_tokens.specs.Text.{Token}
use Rattle.grammar_laws.specs.Grammar.{Outcome, Got, Bad, Deep, and_then, gather, next_in, one_at}
use Rattle.surface_grammar.specs.declared.words.Word.{Word}
use Rattle.surface_grammar.specs.declared.parts.Named.{Named}
use Rattle.surface_grammar.specs.declared.parts.Digits.{Digits}
use Rattle.surface_grammar.specs.declared.parts.Route.{Route}
use Rattle.surface_grammar.specs.Words.{code, code_of, name_code, number_code}
use Rattle.surface_grammar.specs.Grammar.{G, up_to, name, number, arm_number, the_number, letters}
use Rattle.surface_grammar.specs.Language.{At}
use Rattle.token_cursor.specs.declared.cursor.Stop.{Stop}
use Rattle.token_cursor.specs.declared.cursor.Stop.TheVariants.{Unexpected, TooDeep, Memory}

-- the word comes next
unfoldable pub sees : Word → List Token → Bool
sees v ts = next_in code (code_of v ∷ []) ts

-- a NAME comes next
unfoldable pub sees_name : List Token → Bool
sees_name ts = next_in code (name_code ∷ []) ts

-- a NUMBER comes next
unfoldable pub sees_number : List Token → Bool
sees_number ts = next_in code (number_code ∷ []) ts

-- the word is taken
unfoldable pub skip : Word → List Token → Outcome Token (Unit {0})
skip v ts = one_at code (code_of v) (λ _. true) (λ _. tt {0}) ts

-- a word that opens a level, and how many more may be open behind it
unfoldable pub opening : Word → ℕ → List Token → Outcome Token ℕ
opening v n [] = Bad []
opening v zero (t ∷ ts) = if code t == code_of v then Deep (t ∷ ts) else Bad (t ∷ ts)
opening v (suc n) (t ∷ ts) = if code t == code_of v then Got n ts else Bad (t ∷ ts)

-- The answer is the outcome, and the cursor is left where it ends, unless memory fails.
abbrev pub Answers : {A : Type 0} → Outcome Token A → Result A Stop → List Token → Type 0
Answers out (Ok a) new = out ≡ Got a new
Answers out (Err Unexpected) new = out ≡ Bad new
Answers out (Err TooDeep) new = out ≡ Deep new
Answers out (Err Memory) new = Unit {0}

-- the turns that are left of a loop over items, behind those that are found
abbrev pub turns : {A : Type 0} → ℕ → List ℕ → G A → ℕ → List A → List Token → Outcome Token (List A)
turns n fs item left found ts = and_then (gather code fs (λ us. At n item us) left found ts) (λ xs r. Got xs r)

-- a NAME is taken
unfoldable pub name_at : List Token → Outcome Token Named
name_at ts = At 0 name ts

-- a NUMBER is taken
unfoldable pub number_at : List Token → Outcome Token Digits
number_at ts = At 0 number ts

-- a NUMBER of at most 15 is taken
unfoldable pub arm_number_at : List Token → Outcome Token ℕ
arm_number_at ts = At 0 arm_number ts

-- the NUMBER i is taken
unfoldable pub the_number_at : ℕ → List Token → Outcome Token (Unit {0})
the_number_at i ts = At 0 (the_number i) ts

-- what is left of a loop over at most so many items, behind those that are found
abbrev pub up_to_turns : {A : Type 0} → ℕ → List Word → G A → ℕ → List A → List Token → Outcome Token (List A)
up_to_turns n vs item left found ts = and_then (At n (up_to left vs item) ts) (λ xs r. Got (found ++ xs) r)

-- the letters of a path are taken
unfoldable pub letters_at : List Token → Outcome Token Route
letters_at ts = At 0 letters ts

-- the place of the token that comes next
abbrev pub next_span : List Token → Option Span
next_span [] = None
next_span (t ∷ ts) = Some t.span
