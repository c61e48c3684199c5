use Rattle.std.proofs.Common.{arith}
use Rattle.std.proofs.lemmas.List.Sums.{suffix_len-le-length}
use Rattle.text_tokens.specs.Text.{is_in_line}
use Rattle.chan_parser.proofs.parser.end_of.Goals as goal

pub overflow_cast-result-2 : goal.overflow_cast-result-2
overflow_cast-result-2 c = omega (arith, suffix_len-le-length is_in_line c.args.text.now, c.last_line.ensures, c.requires)

pub overflow_add-result-2 : goal.overflow_add-result-2
overflow_add-result-2 c = omega (arith, suffix_len-le-length is_in_line c.args.text.now, c.last_line.ensures, c.requires)
