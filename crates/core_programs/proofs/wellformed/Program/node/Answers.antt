use Rattle.core_programs.proofs.Divisors.{divisor_at}
use Rattle.core_programs.proofs.Forests.{read_at, rest_opened}
use Rattle.core_programs.proofs.wellformed.Program.node.Goals as goal

pub returns-clause-at : goal.returns-clause-at
returns-clause-at c = read_at c.args.self.now _ _ _ _ c.as_slice-nodes.ensures c.parts-parts.ensures.parts c.requires c.index-nodes-number.is

pub returns-clause-opens : goal.returns-clause-opens
returns-clause-opens c =
    rest_opened c.args.self.now _ _ c.parts-parts.ensures.formed.numbered c.requires
    (read_at c.args.self.now _ _ _ _ c.as_slice-nodes.ensures c.parts-parts.ensures.parts c.requires c.index-nodes-number.is)

pub returns-clause-leads : goal.returns-clause-leads
returns-clause-leads c =
    c.parts-parts.ensures.formed.numbered.follow _ _
    (read_at c.args.self.now _ _ _ _ c.as_slice-nodes.ensures c.parts-parts.ensures.parts c.requires c.index-nodes-number.is)

pub returns-clause-divisor : goal.returns-clause-divisor
returns-clause-divisor c =
    divisor_at c.args.self.now _ _ c.parts-parts.ensures.formed c.requires
    (read_at c.args.self.now _ _ _ _ c.as_slice-nodes.ensures c.parts-parts.ensures.parts c.requires c.index-nodes-number.is)
