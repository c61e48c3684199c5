use Rattle.std.proofs.Common.{◌≡◌, map, sym, subst}
use Rattle.std.proofs.lemmas.Result.{err_from_is_err_and}
use Rattle.chan_syntax.specs.Reading.{part_of}
use Rattle.linear_forms.specs.NormalTerms.{IsSameSum, IsNormal, spelled}
use Rattle.substitution.proofs.Entries.{counts, same_sum, is_normal, numbers_fit, name_too_large, constant_too_large}
use Rattle.substitution.proofs.Tokens.{spelled_at}
use Rattle.substitution.proofs.summands.Summands.term.Goals as goal

spelled_is : (c : goal.In_ok-all) → map part_of c.in_ok-all.all ≡ spelled (counts c.args.self.now c.len-ordered.ensures.ordered) c.args.self.now.constant
spelled_is c = c.in_ok-all.ensures.ok (counts c.args.self.now c.len-ordered.ensures.ordered) c.in_ok-parts.ensures.ok

pub returns-clause-same : goal.returns-clause-same
returns-clause-same c = λ sum h. subst (λ t. IsSameSum t sum) (sym (spelled_is c)) (same_sum c.args.self.now c.len-ordered.ensures.ordered sum h)

pub returns-clause-normal : goal.returns-clause-normal
returns-clause-normal c = subst IsNormal (sym (spelled_is c)) (is_normal c.args.self.now c.len-ordered.ensures.ordered c.args.self.now.constant)

pub returns-clause-fits : goal.returns-clause-fits
returns-clause-fits c = λ sum h. numbers_fit c.args.self.now c.len-ordered.ensures.ordered c.in_ok-parts.ensures.fits c.in_ok-all.ensures.fits sum h

pub returns-in_err-parts-clause-err : goal.returns-in_err-parts-clause-err
returns-in_err-parts-clause-err c =
    let p = err_from_is_err_and c.from_residual.result c.from_residual.ensures.1 in
    rw (p.1, p.2) (λ e sum h fit. name_too_large c.args.self.now c.len-ordered.ensures.ordered (c.in_err-parts.ensures.err e) sum h fit)

pub returns-in_err-all-clause-err : goal.returns-in_err-all-clause-err
returns-in_err-all-clause-err c =
    let p = err_from_is_err_and c.from_residual-in_err-all.result c.from_residual-in_err-all.ensures.1 in
    rw (p.1, p.2) (λ e sum h fit. constant_too_large c.args.self.now c.len-ordered.ensures.ordered (c.in_err-all.ensures.err e) sum h fit)

pub returns-clause-places : goal.returns-clause-places
returns-clause-places c = λ tokens h. spelled_at c.args.self.now c.len-ordered.ensures.ordered c.in_ok-parts.parts c.in_ok-all.all c.in_ok-parts.ensures.places c.in_ok-all.ensures.places tokens h
