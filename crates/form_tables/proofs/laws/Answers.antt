use Rattle.form_tables.proofs.Tables.{headers_fit, protocols_fit, headers_are, named_first}
use Rattle.form_tables.proofs.laws.Goals as goal

pub returns : goal.returns
returns c = record { headers = headers_fit; protocols = protocols_fit; program = headers_are; named = named_first }
