use Rattle.std.proofs.Common.{◌<◌, drop, take, length, slice_index, sym, ◌∙◌, arith}
use Rattle.std.proofs.lemmas.Bool.{and_parts, eqb-false}
use Rattle.text_tokens.specs.Text.{comment, separator, is_separator, is_in_line}
use Rattle.chan_lexer.proofs.Fronts.{comment_front, separator_front}
use Rattle.chan_lexer.proofs.Within.{within_of}
use Rattle.chan_lexer.specs.Front.{IsFrontOf}
use Rattle.chan_lexer.specs.declared.front.Front.TheVariants.{Blank}
use Rattle.chan_lexer.proofs.front.front_of.Goals as goal

pub returns-then-is_blank : goal.returns-then-is_blank
returns-then-is_blank c =
    let text = c.args.text.now in
    let b = slice_index text 0 in
    let nonzero = eqb-false (length text) 0 (sym c.is_empty.ensures ∙ c.if-is_empty.false) in
    let some : 0 < length text = omega arith in
    let blank = and_parts (is_separator b) (is_in_line b) (sym c.is_blank.ensures ∙ c.if-is_blank.true) in
    let front : IsFrontOf text (Blank 1) = (separator b, blank.1, separator_front text some blank.0) in
    record { front = front; within = within_of text (Blank 1) front }

pub returns-then-begins_comment : goal.returns-then-begins_comment
returns-then-begins_comment c =
    let text = c.args.text.now in
    let len = c.front_len.result in
    let found = c.begins_comment.ensures.found c.if-begins_comment.true in
    let front : IsFrontOf text (Blank len) = (comment (drop 2 (take len text)), tt, comment_front text found.0 len found.1 c.front_len.ensures) in
    record { front = front; within = within_of text (Blank len) front }

pub returns-then-begins_name-clause-within : goal.returns-then-begins_name-clause-within
returns-then-begins_name-clause-within c = within_of c.args.text.now c.word.result c.word.ensures

pub returns-then-is_ascii_digit-clause-within : goal.returns-then-is_ascii_digit-clause-within
returns-then-is_ascii_digit-clause-within c = within_of c.args.text.now c.number.result c.number.ensures

pub returns-else-is_ascii_digit-clause-within : goal.returns-else-is_ascii_digit-clause-within
returns-else-is_ascii_digit-clause-within c = within_of c.args.text.now c.other.result c.other.ensures
