use Rattle.std.proofs.Common.{map, refl}
use Rattle.std.proofs.lemmas.Result.{err_from_is_err_and}
use Rattle.linear_forms.specs.Terms.{put_of}
use Rattle.chan_syntax.specs.Reading.{term_of, ref_of}
use Rattle.protocols.proofs.Forming.{next_like, turned_dual}
use Rattle.protocols.proofs.unfolding.next_end.Goals as goal

pub returns-clause-ok : goal.returns-clause-ok
returns-clause-ok c =
    next_like (put_of c.args.proto.now.params (map term_of c.args.end.now.args)) c.args.end.now.dual (ref_of c.args.picked.now) _ (turned_dual c.args.end.now.dual (ref_of c.args.picked.now)) c.in_ok-copy.ensures c.in_ok-args.ensures.ok

pub returns-in_err-args-clause-err : goal.returns-in_err-args-clause-err
returns-in_err-args-clause-err c =
    let p = err_from_is_err_and c.from_residual.result c.from_residual.ensures.1 in
    rw (p.1, p.2) c.in_err-args.ensures.err

pub returns-clause-places : goal.returns-clause-places
returns-clause-places c = ((refl, refl), c.in_ok-args.ensures.places)
