use Rattle.std.proofs.Common.{map}
use Rattle.std.proofs.lemmas.Result.{err_from_is_err_and}
use Rattle.chan_syntax.specs.Reading.{term_of}
use Rattle.substitution.specs.Scopes.{put_in, before_of, after_of}
use Rattle.substitution.proofs.ReadyTerms.{normal_put, not_fit}
use Rattle.substitution.proofs.substituting.subst_term.Goals as goal

pub returns-clause-ok : goal.returns-clause-ok
returns-clause-ok c =
    let has = rw c.as_slice.ensures at c.in_ok-sums.ensures.sums in
    normal_put (map put_in c.args.put.now) (before_of c.args.scope.now) (after_of c.args.scope.now) (term_of c.args.term.now) c.requires _ (c.in_ok-put_term.ensures.same _ has) c.in_ok-put_term.ensures.normal (c.in_ok-put_term.ensures.fits _ has)

pub returns-in_err-put_term-clause-err : goal.returns-in_err-put_term-clause-err
returns-in_err-put_term-clause-err c =
    let has = rw c.as_slice.ensures at c.in_ok-sums.ensures.sums in
    let p = err_from_is_err_and c.from_residual-in_err-put_term.result c.from_residual-in_err-put_term.ensures.1 in
    rw (p.1, p.2) (λ e. not_fit (map put_in c.args.put.now) (before_of c.args.scope.now) (after_of c.args.scope.now) (term_of c.args.term.now) c.requires (c.in_err-put_term.ensures.err e _ has))

pub returns-clause-places : goal.returns-clause-places
returns-clause-places c = record { span = c.in_ok-put_term.ensures.span; names = c.in_ok-put_term.ensures.places _ (rw c.as_slice.ensures at c.in_ok-sums.ensures.places) }
