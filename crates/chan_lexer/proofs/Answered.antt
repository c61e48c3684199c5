-- A fault of the text leaves no other answer.
use Rattle.std.proofs.Common.{◌≡◌, ℕ, List, Result, Ok, Err, IsErr, IfErr, MatchResult}
use Rattle.chan_lexer.specs.Lexed.{Lexed, tokens_of}
use Rattle.text_tokens.specs.Text.{Token, HasTokens, Fault, bad_byte, bad_token, number_too_large, IsFirstFault}
use Rattle.text_tokens.proofs.Cuts.{one_first_fault, never_both}
use Rattle.chan_lexer.specs.declared.token.LexFault.{LexFault}
use Rattle.chan_lexer.specs.declared.token.LexFault.TheVariants.{BadByte, BadToken, NumberTooLarge, Memory}
use Rattle.chan_lexer.specs.Faults.{IsFaultOf, Says, IsMemory}

pub only_memory : (text : List ℕ) (e : LexFault) → IsFaultOf text e → (list : List Token) → HasTokens text list → IsMemory e
only_memory text (BadByte span) first list has = never_both text list (bad_byte span) has first
only_memory text (BadToken span) first list has = never_both text list (bad_token span) has first
only_memory text (NumberTooLarge span) first list has = never_both text list (number_too_large span) has first
only_memory text Memory first list has = tt

pub only_fault : (text : List ℕ) (e : LexFault) → IsFaultOf text e → (fault : Fault) → IsFirstFault text fault → Says e fault
only_fault text (BadByte span) first fault is = one_first_fault text fault (bad_byte span) is first
only_fault text (BadToken span) first fault is = one_first_fault text fault (bad_token span) is first
only_fault text (NumberTooLarge span) first fault is = one_first_fault text fault (number_too_large span) is first
only_fault text Memory first fault is = tt

-- the same of an answer that is a fault
pub refusal_accepts : (text : List ℕ) (r : Result Lexed LexFault) → IsErr r → IfErr r (IsFaultOf text) → (list : List Token) → HasTokens text list → MatchResult r (λ t. tokens_of t ≡ list) IsMemory
refusal_accepts text (Ok t) refuses right = cc
refusal_accepts text (Err e) refuses right = only_memory text e right

pub refusal_says : (text : List ℕ) (r : Result Lexed LexFault) → IsErr r → IfErr r (IsFaultOf text) → (fault : Fault) → IsFirstFault text fault → MatchResult r (λ t. ⊥) (λ e. Says e fault)
refusal_says text (Ok t) refuses right = cc
refusal_says text (Err e) refuses right = only_fault text e right
