use Rattle.std.proofs.Common.{List, ap, ◌∙◌}
use Rattle.function_headers.specs.Headers.{Header, header_named}
use Rattle.form_tables.proofs.Tables.{named_first}
use Rattle.call_rules.specs.Reading.{program_in}
use Rattle.call_rules.proofs.calls.header_named.Goals as goal

pub returns : goal.returns
returns c =
    c.find.ensures
    ∙ ap (λ (hs : List Header). header_named c.args.func.now hs) c.args.tables.now.headers_read
    ∙ named_first c.args.func.now (program_in c.args.tables.now).funcs
