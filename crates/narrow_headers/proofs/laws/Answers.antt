use Rattle.narrow_headers.proofs.Headers.{headers_narrow, protocols_narrow}
use Rattle.narrow_headers.proofs.laws.Goals as goal

pub returns : goal.returns
returns c = record { headers = headers_narrow; protocols = protocols_narrow }
