use Rattle.outline_paths.proofs.Protocols.{served_ok, served_err}
use Rattle.outline_paths.proofs.unfolding.unfold.Goals as goal

pub returns-clause-ok : goal.returns-clause-ok
returns-clause-ok c =
    served_ok c.args.table.now c.args.variables c.args.hyps.now c.args.end.now c.args.path.now c.args.proof.now c.args.taken c.unfold_in.result c.unfold_in.ensures.ok

pub returns-clause-err : goal.returns-clause-err
returns-clause-err c =
    served_err c.args.table.now c.args.variables c.args.hyps.now c.args.end.now c.args.path.now c.args.proof.now c.args.taken c.unfold_in.result c.unfold_in.ensures.err
