use Rattle.std.proofs.Common.{◌≡◌, ◌-◌, ◌^◌, take, min}
use Rattle.text_tokens.specs.Word as word
use Rattle.chan_lexer.proofs.words.value_of.Given as goal

abbrev pub invariant-loop-b : goal.invariant-loop-b
invariant-loop-b l = l.value ≡ min (word.value_of (take l.b-index l.digits)) (2 ^ 64 - 1)
