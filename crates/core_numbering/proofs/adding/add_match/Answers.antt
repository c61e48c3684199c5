use Rattle.std.proofs.Common.{◌≡◌, [], ◌∷◌, ◌++◌, map, refl}
use Rattle.core_programs.specs.declared.nodes.Node.TheVariants as node
use Rattle.core_numbering.proofs.Grown.{joins, ends_match}
use Rattle.core_numbering.proofs.adding.add_match.Goals as goal

pub returns-clause-adds : goal.returns-clause-adds
returns-clause-adds c = joins c.args.nodes.now c.push_node.new.nodes (map (λ a. a.next) c.args.arms) (node.Match c.in_ok-name.name c.args.name_span c.args.arms c.args.span) c.in_ok-number.number c.in_ok-number.ensures.number c.in_ok-number.ensures.added c.in_ok-number.ensures.few refl

pub returns-clause-body : goal.returns-clause-body
returns-clause-body c =
    let added : c.push_node.new.nodes ≡ c.args.nodes.now ++ node.Match c.args.name.now c.args.name_span c.args.arms c.args.span ∷ [] = let n = c.in_ok-name.ensures in let a = c.in_ok-number.ensures.added in cc in
    ends_match c.args.nodes.now c.push_node.new.nodes c.args.name.now c.args.name_span c.args.arms c.args.span c.in_ok-number.number c.in_ok-number.ensures.number added
