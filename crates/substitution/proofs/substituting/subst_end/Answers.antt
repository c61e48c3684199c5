use Rattle.std.proofs.Common.{map, refl}
use Rattle.std.proofs.lemmas.Result.{err_from_is_err_and}
use Rattle.core_language.specs.Resources.{End}
use Rattle.chan_syntax.specs.Reading.{ref_of}
use Rattle.substitution.specs.Scopes.{put_in, before_of}
use Rattle.substitution.proofs.Forms.{end_too_large}
use Rattle.substitution.proofs.substituting.subst_end.Goals as goal

pub returns-in_err-put_ref-clause-err : goal.returns-in_err-put_ref-clause-err
returns-in_err-put_ref-clause-err c =
    let p = err_from_is_err_and c.from_residual.result c.from_residual.ensures.1 in
    rw (p.1, p.2) (λ e. end_too_large (map put_in c.args.put.now) (before_of c.args.scope.now) (End (ref_of c.args.end.now)) (ref_of c.args.end.now) refl (c.in_err-put_ref.ensures.err e))
