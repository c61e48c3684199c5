-- The faults of a text.
use Rattle.std.specs.Prelude.{◌≡◌, List, ℕ}
use Rattle.text_tokens.specs.Text.{Fault, bad_byte, bad_token, number_too_large, IsFirstFault}
use Rattle.chan_lexer.specs.declared.token.LexFault.{LexFault}
use Rattle.chan_lexer.specs.declared.token.LexFault.TheVariants.{BadByte, BadToken, NumberTooLarge, Memory}

-- the text has this fault first; want of memory says nothing
abbrev pub IsFaultOf : List ℕ → LexFault → Type 0
IsFaultOf text (BadByte span) = IsFirstFault text (bad_byte span)
IsFaultOf text (BadToken span) = IsFirstFault text (bad_token span)
IsFaultOf text (NumberTooLarge span) = IsFirstFault text (number_too_large span)
IsFaultOf text Memory = Unit {0}

-- the answer is this fault, or want of memory
abbrev pub Says : LexFault → Fault → Type 0
Says (BadByte span) fault = fault ≡ bad_byte span
Says (BadToken span) fault = fault ≡ bad_token span
Says (NumberTooLarge span) fault = fault ≡ number_too_large span
Says Memory fault = Unit {0}

-- the answer is want of memory
abbrev pub IsMemory : LexFault → Type 0
IsMemory (BadByte span) = ⊥
IsMemory (BadToken span) = ⊥
IsMemory (NumberTooLarge span) = ⊥
IsMemory Memory = Unit {0}
