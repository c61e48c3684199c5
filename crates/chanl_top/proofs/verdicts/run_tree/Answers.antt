use Rattle.std.proofs.Common.{sym, ◌∙◌}
use Rattle.chanl_top.proofs.Deciding.{tree_run}
use Rattle.chanl_top.proofs.verdicts.run_tree.Goals as goal

pub returns-in_ok-verdict-in-Ok : goal.returns-in_ok-verdict-in-Ok
returns-in_ok-verdict-in-Ok c =
    tree_run c.args.tree.now c.in-Ok.program c.args.rounds c.in_ok-verdict-in-Ok.verdict (sym c.is_core.ensures ∙ c.if-not-is_core.false) c.in-Ok.ensures.numbered c.in-Ok.ensures.form
    c.in_ok-verdict-in-Ok.ensures
