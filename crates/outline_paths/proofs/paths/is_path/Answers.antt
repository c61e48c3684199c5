use Rattle.std.proofs.Common.{◌+◌, List, map, drop, get_or, sym, ap, ◌∙◌}
use Rattle.std.proofs.lemmas.List.{drop_more}
use Rattle.chan_syntax.specs.Reading.{letter_of}
use Rattle.chan_syntax.specs.declared.operands.Letter.{Letter}
use Rattle.chan_syntax.specs.declared.operands.Letter.TheVariants as letter
use Rattle.outline_paths.specs.Following.{goes_on, is_path}
use Rattle.outline_paths.proofs.paths.is_path.Goals as goal

pub returns-in-None : goal.returns-in-None
returns-in-None c =
    let next = ap (λ (ls : List Letter). is_path c.args.table.now (map letter_of ls) c.loop-letter.name.now) (drop_more c.args.path.now c.loop-letter.letter-index letter.Left c.loop-letter-test.true) in
    ap (goes_on (is_path c.args.table.now (map letter_of (drop (c.loop-letter.letter-index + 1) c.args.path.now))) (letter_of (get_or c.args.path.now c.loop-letter.letter-index letter.Left))) c.in-None.ensures
    ∙ sym next ∙ c.loop-letter.invariant
