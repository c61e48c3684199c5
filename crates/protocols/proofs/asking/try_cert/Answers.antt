use Rattle.std.proofs.Common.{sym, ◌∙◌}
use Rattle.protocols.proofs.Asked.{taken_ok, taken_err}
use Rattle.protocols.proofs.asking.try_cert.Goals as goal

pub returns-in-Ok-clause-ok : goal.returns-in-Ok-clause-ok
returns-in-Ok-clause-ok c = taken_ok c.args.used _ c.in_ok-cert.field-0 c.args.written.now c.args.hyps.now c.args.row.now _ c.in_ok-cert.ensures (sym c.in-Ok.is ∙ c.holds.ensures.verdict) c.in_ok-more-in-Ok.ensures

pub returns-clause-err : goal.returns-clause-err
returns-clause-err c = taken_err c.args.used c.in_ok-cert.field-0 c.args.written.now c.args.hyps.now c.args.row.now _ c.in_ok-cert.ensures (sym c.in-Err.is ∙ c.holds.ensures.verdict)
