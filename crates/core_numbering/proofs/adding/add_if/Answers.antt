use Rattle.std.proofs.Common.{◌≡◌, [], ◌∷◌, ◌++◌, refl}
use Rattle.core_programs.specs.declared.nodes.Node.TheVariants as node
use Rattle.core_numbering.proofs.Grown.{joins, joins_if}
use Rattle.core_numbering.proofs.adding.add_if.Goals as goal

pub returns-clause-adds : goal.returns-clause-adds
returns-clause-adds c = joins c.args.nodes.now c.push_node.new.nodes (c.args.bodies.0 ∷ c.args.bodies.1 ∷ []) (node.If c.in_ok-left.left c.in_ok-right.right c.args.bodies.0 c.args.bodies.1 c.args.span) c.in_ok-number.number c.in_ok-number.ensures.number c.in_ok-number.ensures.added c.in_ok-number.ensures.few refl

pub returns-clause-body : goal.returns-clause-body
returns-clause-body c =
    let added : c.push_node.new.nodes ≡ c.args.nodes.now ++ node.If c.args.left.now c.args.right.now c.args.bodies.0 c.args.bodies.1 c.args.span ∷ [] = let l = c.in_ok-left.ensures in let r = c.in_ok-right.ensures in let a = c.in_ok-number.ensures.added in cc in
    joins_if c.args.nodes.now c.push_node.new.nodes c.args.left.now c.args.right.now c.args.bodies c.args.span c.in_ok-number.number c.in_ok-number.ensures.number added
