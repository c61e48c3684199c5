use Rattle.std.proofs.Common.{map, refl}
use Rattle.std.proofs.lemmas.Result.{err_from_is_err_and}
use Rattle.core_language.specs.Resources.{Int}
use Rattle.chan_syntax.specs.Reading.{term_of}
use Rattle.substitution.specs.Scopes.{put_in, before_of}
use Rattle.substitution.proofs.Forms.{term_too_large}
use Rattle.substitution.proofs.substituting.subst_int.Goals as goal

pub returns-in_err-put_term-clause-err : goal.returns-in_err-put_term-clause-err
returns-in_err-put_term-clause-err c =
    let p = err_from_is_err_and c.from_residual.result c.from_residual.ensures.1 in
    rw (p.1, p.2) (λ e. term_too_large (map put_in c.args.put.now) (before_of c.args.scope.now) (Int (term_of c.args.term.now)) (term_of c.args.term.now) refl (c.in_err-put_term.ensures.err e))
