use Rattle.std.proofs.Common.{map}
use Rattle.std.proofs.lemmas.Result.{err_from_is_err_and}
use Rattle.linear_forms.specs.Terms.{put_of}
use Rattle.chan_syntax.specs.Reading.{term_of}
use Rattle.protocols.proofs.Asked.{terms_fit, terms_too_large}
use Rattle.protocols.proofs.asking.form_terms.Goals as goal

pub returns-clause-left : goal.returns-clause-left
returns-clause-left c = (terms_fit (put_of c.args.params.now (map term_of c.args.args.now)) _ _ _ _ c.in_ok-terms.ensures c.in_ok-subst_terms.ensures.ok).0

pub returns-clause-right : goal.returns-clause-right
returns-clause-right c = (terms_fit (put_of c.args.params.now (map term_of c.args.args.now)) _ _ _ _ c.in_ok-terms.ensures c.in_ok-subst_terms.ensures.ok).1

pub returns-in_err-subst_terms-clause-err : goal.returns-in_err-subst_terms-clause-err
returns-in_err-subst_terms-clause-err c =
    let p = err_from_is_err_and c.from_residual-in_err-subst_terms.result c.from_residual-in_err-subst_terms.ensures.1 in
    rw (p.1, p.2) (λ e l r. terms_too_large (put_of c.args.params.now (map term_of c.args.args.now)) _ _ _ c.in_ok-terms.ensures (c.in_err-subst_terms.ensures.err e) l r)
