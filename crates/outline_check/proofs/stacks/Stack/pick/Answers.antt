use Rattle.std.proofs.Common.{◌≡◌, Ok, map, sym, ap, ◌∙◌, subst}
use Rattle.core_programs.specs.Bodies.{opened}
use Rattle.outline_walk.specs.Forms.{picked}
use Rattle.outline_contexts.specs.Trails.{context_in}
use Rattle.outline_contexts.specs.Reading.{marked}
use Rattle.outline_check.specs.Stacks.{Stacked}
use Rattle.outline_check.proofs.Kept.{nested_grown, kept_grown}
use Rattle.outline_check.proofs.Ruled.{no_reason}
use Rattle.outline_check.proofs.stacks.Stack.pick.Goals as goal

pub unreachable-requires : goal.unreachable-requires
unreachable-requires c =
    let (at, after, is) = c.requires in
    no_reason (picked (context_in c.self.inside.context) (opened c.args.node.now at) c.args.number) after c.in-Err-Why.field-0 c.in-Err-Why.field-0-0 c.in-Err-Why.field-0-is
    (c.in-Err-Why.ensures.err at)
    (subst (λ (s : Stacked). picked (context_in s.current) (opened c.args.node.now at) c.args.number ≡ Ok after) (sym c.self.view_is) is)

pub invariant_of-self : goal.invariant_of-self
invariant_of-self c = nested_grown (map marked c.self.inside.marks.items) c.self.inside.context c.enter_body.new.ctx c.self.invariant c.enter_body.ensures.after

pub returns-clause-kept : goal.returns-clause-kept
returns-clause-kept c =
    kept_grown (map marked c.self.inside.marks.items) c.self.inside.context c.enter_body.new.ctx c.self.invariant c.enter_body.ensures.after
    ∙ ap (λ (s : Stacked). s.kept) c.self.view_is
