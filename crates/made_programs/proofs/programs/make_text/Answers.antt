use Rattle.std.proofs.Common.{◌≡◌, rules}
use Rattle.made_programs.specs.Texts.{made_text}
use Rattle.made_programs.proofs.Lengths.{text_is_short}
use Rattle.made_programs.proofs.programs.make_text.Goals as goal

pub returns-clause-short : goal.returns-clause-short
returns-clause-short c =
    let is : c.from_vec.result ≡ made_text c.args.number = search rules in
    text_is_short c.from_vec.result c.args.number is c.requires
