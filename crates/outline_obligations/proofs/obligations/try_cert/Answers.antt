use Rattle.std.proofs.Common.{sym, ap, ◌∙◌, Err}
use Rattle.outline_obligations.proofs.Certificates.{tried_ok, tried_err}
use Rattle.outline_obligations.proofs.obligations.try_cert.Goals as goal

pub returns-in-Ok-clause-ok : goal.returns-in-Ok-clause-ok
returns-in-Ok-clause-ok c =
    tried_ok c.args.refused c.args.proof.now c.args.taken c.in_ok-cert.field-0 c.args.written.now c.args.hyps.now c.args.row.now c.in_ok-cert.ensures
    _ (sym c.in-Ok.is ∙ c.holds.ensures.verdict) c.in_ok-cert-in-Ok.cert c.in_ok-cert-in-Ok.ensures

pub returns-clause-err : goal.returns-clause-err
returns-clause-err c =
    tried_err c.args.refused c.args.proof.now c.args.taken c.in_ok-cert.field-0 c.args.written.now c.args.hyps.now c.args.row.now c.in_ok-cert.ensures
    _ (sym c.in-Err.is ∙ c.holds.ensures.verdict) ∙ ap Err (sym c.refusal.ensures)
