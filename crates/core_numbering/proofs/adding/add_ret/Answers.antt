use Rattle.std.proofs.Common.{◌≡◌, [], ◌∷◌, ◌++◌, refl}
use Rattle.core_programs.specs.declared.nodes.Node.TheVariants as node
use Rattle.core_numbering.proofs.Grown.{added_alone, ends_ret}
use Rattle.core_numbering.proofs.adding.add_ret.Goals as goal

pub returns-clause-adds : goal.returns-clause-adds
returns-clause-adds c = added_alone c.args.nodes.now c.push_node.new.nodes (node.Ret c.in_ok-value.value c.in_ok-proof.proof c.args.span) c.in_ok-number.number c.in_ok-number.ensures.number c.in_ok-number.ensures.added c.in_ok-number.ensures.few refl

pub returns-clause-body : goal.returns-clause-body
returns-clause-body c =
    let added : c.push_node.new.nodes ≡ c.args.nodes.now ++ node.Ret c.args.value.now c.args.proof.now c.args.span ∷ [] = let v = c.in_ok-value.ensures in let q = c.in_ok-proof.ensures in let a = c.in_ok-number.ensures.added in cc in
    ends_ret c.args.nodes.now c.push_node.new.nodes c.args.value.now c.args.proof.now c.args.span c.in_ok-number.number c.in_ok-number.ensures.number added
