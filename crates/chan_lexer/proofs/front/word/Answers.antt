use Rattle.std.proofs.Common.{◌≡◌, take, refl, sym, ◌∙◌, true, false}
use Rattle.std.proofs.lemmas.Bool.{not_from_false}
use Rattle.text_tokens.specs.Word.{continues_name, is_keyword}
use Rattle.chan_lexer.proofs.Fronts.{name_front, prefix_within}
use Rattle.chan_lexer.proofs.front.word.Goals as goal

pub returns-then-is_keyword : goal.returns-then-is_keyword
returns-then-is_keyword c =
    let front = name_front c.args.text.now c.front_len-len.result c.front_len-len.ensures c.requires.some c.requires.letter in
    let keyword : is_keyword (take c.front_len-len.result c.args.text.now) ≡ true = sym c.is_keyword.ensures ∙ c.if-is_keyword.true in
    (refl, prefix_within continues_name c.args.text.now c.front_len-len.result c.front_len-len.ensures, ((keyword, tt), front.1))

pub returns-else-is_keyword : goal.returns-else-is_keyword
returns-else-is_keyword c =
    let front = name_front c.args.text.now c.front_len-len.result c.front_len-len.ensures c.requires.some c.requires.letter in
    let other : is_keyword (take c.front_len-len.result c.args.text.now) ≡ false = sym c.is_keyword.ensures ∙ c.if-is_keyword.false in (
      refl,
      prefix_within continues_name c.args.text.now c.front_len-len.result c.front_len-len.ensures,
      (((front.0, not_from_false (is_keyword (take c.front_len-len.result c.args.text.now)) other), tt), front.1),
    )
