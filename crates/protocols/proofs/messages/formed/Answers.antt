use Rattle.std.proofs.Common.{[], map, ap, sym, subst}
use Rattle.std.proofs.lemmas.Result.{err_from_is_err_and}
use Rattle.linear_forms.specs.Terms.{put_of}
use Rattle.chan_syntax.specs.Reading.{term_of}
use Rattle.substitution.specs.Places.{ArePlaced, pieces_of_res}
use Rattle.protocols.specs.HeadsOf.{resource_of}
use Rattle.protocols.specs.Places.{pieces_of_head}
use Rattle.protocols.specs.declared.messages.Head.{Head}
use Rattle.protocols.proofs.Forming.{message_put, message_not_fit}
use Rattle.protocols.proofs.messages.formed.Goals as goal

pub returns-in_ok-res-in-Send-clause-res : goal.returns-in_ok-res-in-Send-clause-res
returns-in_ok-res-in-Send-clause-res c = message_put (put_of c.args.params.now (map term_of c.args.args.now)) _ _ _ (ap resource_of c.in-Send.is) c.in_ok-res-in-Send.ensures.ok

pub returns-in_ok-res-in-Recv-clause-res : goal.returns-in_ok-res-in-Recv-clause-res
returns-in_ok-res-in-Recv-clause-res c = message_put (put_of c.args.params.now (map term_of c.args.args.now)) _ _ _ (ap resource_of c.in-Recv.is) c.in_ok-res-in-Recv.ensures.ok

pub returns-in_err-res-in-Send-clause-err : goal.returns-in_err-res-in-Send-clause-err
returns-in_err-res-in-Send-clause-err c =
    let p = err_from_is_err_and c.from_residual.result c.from_residual.ensures.1 in
    rw (p.1, p.2) (λ e. message_not_fit (put_of c.args.params.now (map term_of c.args.args.now)) _ _ (ap resource_of c.in-Send.is) (c.in_err-res-in-Send.ensures.err e))

pub returns-in_err-res-in-Recv-clause-err : goal.returns-in_err-res-in-Recv-clause-err
returns-in_err-res-in-Recv-clause-err c =
    let p = err_from_is_err_and c.from_residual-in_err-res-in-Recv.result c.from_residual-in_err-res-in-Recv.ensures.1 in
    rw (p.1, p.2) (λ e. message_not_fit (put_of c.args.params.now (map term_of c.args.args.now)) _ _ (ap resource_of c.in-Recv.is) (c.in_err-res-in-Recv.ensures.err e))

pub returns-in_ok-res-in-Send-clause-places : goal.returns-in_ok-res-in-Send-clause-places
returns-in_ok-res-in-Send-clause-places c =
    subst (λ (h : Head). ArePlaced c.args.params.now c.args.args.now (pieces_of_head h) (pieces_of_res [] c.in_ok-res-in-Send.res)) (sym c.in-Send.is) c.in_ok-res-in-Send.ensures.places

pub returns-in_ok-res-in-Recv-clause-places : goal.returns-in_ok-res-in-Recv-clause-places
returns-in_ok-res-in-Recv-clause-places c =
    subst (λ (h : Head). ArePlaced c.args.params.now c.args.args.now (pieces_of_head h) (pieces_of_res [] c.in_ok-res-in-Recv.res)) (sym c.in-Recv.is) c.in_ok-res-in-Recv.ensures.places
