use Rattle.std.proofs.Common.{◌≡◌, ◌<◌, ◌≤◌, take, drop, refl, sym, arith}
use Rattle.std.proofs.lemmas.List.{take-append-drop}
use Rattle.text_tokens.specs.Word.{value_of, limit}
use Rattle.std.specs.Char.{is_ascii_digit}
use Rattle.chan_lexer.proofs.Fronts.{digits_front, prefix_within}
use Rattle.chan_lexer.proofs.front.number.Goals as goal

pub returns-then-value-le-LIMIT : goal.returns-then-value-le-LIMIT
returns-then-value-le-LIMIT c =
    let front = digits_front c.args.text.now c.front_len-len.result c.front_len-len.ensures c.requires.some c.requires.digit in
    let value : c.value_of-value.result ≡ value_of (take c.front_len-len.result c.args.text.now) = omega arith in
    let within : c.value_of-value.result ≤ limit = omega arith in
    (refl, prefix_within is_ascii_digit c.args.text.now c.front_len-len.result c.front_len-len.ensures, (((front.0, value), within), front.1))

pub returns-else-value-le-LIMIT : goal.returns-else-value-le-LIMIT
returns-else-value-le-LIMIT c =
    let front = digits_front c.args.text.now c.front_len-len.result c.front_len-len.ensures c.requires.some c.requires.digit in
    let over : limit < value_of (take c.front_len-len.result c.args.text.now) = omega arith in (
      prefix_within is_ascii_digit c.args.text.now c.front_len-len.result c.front_len-len.ensures,
      λ front'. (
        value_of (take c.front_len-len.result c.args.text.now),
        take c.front_len-len.result c.args.text.now,
        drop c.front_len-len.result c.args.text.now,
        sym (take-append-drop c.front_len-len.result c.args.text.now),
        (front.0, refl),
        over,
        front.1,
        refl,
      ),
    )
