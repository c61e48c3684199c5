use Rattle.std.proofs.Common.{refl, ap, ◌∙◌, ◌++◌, arith}
use Rattle.name_uses.specs.Uses.{uses_in}
use Rattle.core_programs.specs.Uses.{uses_from}
use Rattle.name_uses.proofs.Noting.{none_noted}
use Rattle.core_programs.proofs.Noting.{node_noted, all_noted}
use Rattle.core_programs.proofs.uses.index_uses.Goals as goal

pub nodes-init : goal.nodes-init
nodes-init c = (refl, λ x. ap (λ ns. ns ++ uses_from 0 c.args.nodes.now x) (none_noted c.new-uses.result x c.new-uses.ensures.empty))

pub nodes-preserved : goal.nodes-preserved
nodes-preserved c =
    let (at, all) = c.nodes.invariant in (
      omega (arith, at),
      λ x. node_noted c.args.nodes.now c.nodes.node-index c.nodes.number c.node-item.result c.in_ok-names.names.items (uses_in c.nodes.uses x) (uses_in c.note_all.new.uses x) x
          c.nodes-test.true c.node-item.is c.in_ok-names.ensures (c.in_ok-note_all.ensures x) ∙ all x,
    )

pub returns : goal.returns
returns c = λ x. all_noted c.args.nodes.now c.nodes.node-index c.nodes.number (uses_in c.nodes.uses x) x (omega (arith, c.nodes-test.false)) (c.nodes.invariant.1 x)
