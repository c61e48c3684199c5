use Rattle.std.proofs.Common.{map, ap, ◌∙◌}
use Rattle.outline_contexts.specs.Reading.{marked}
use Rattle.outline_check.specs.Stacks.{Stacked}
use Rattle.outline_check.proofs.Kept.{nested_grown, kept_grown}
use Rattle.outline_check.proofs.stacks.Stack.meet.Goals as goal

pub invariant_of-self : goal.invariant_of-self
invariant_of-self c = nested_grown (map marked c.self.inside.marks.items) c.self.inside.context c.meet_node.new.ctx c.self.invariant c.meet_node.ensures.after

pub returns-in-Ok-clause-kept : goal.returns-in-Ok-clause-kept
returns-in-Ok-clause-kept c =
    kept_grown (map marked c.self.inside.marks.items) c.self.inside.context c.meet_node.new.ctx c.self.invariant c.meet_node.ensures.after
    ∙ ap (λ (s : Stacked). s.kept) c.self.view_is
