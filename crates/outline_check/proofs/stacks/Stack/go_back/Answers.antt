use Rattle.std.proofs.Common.{sym, ap, ◌∙◌}
use Rattle.outline_check.specs.Stacks.{Stacked}
use Rattle.outline_check.proofs.Kept.{older_is, nested_left, kept_left}
use Rattle.outline_check.proofs.stacks.Stack.go_back.Goals as goal

pub rewind-requires : goal.rewind-requires
rewind-requires c = older_is c.self.inside.marks.items c.pop.new.self.items c.in-Some.mark c.self.inside.context c.in-Some.ensures.items c.self.invariant

pub invariant_of-self : goal.invariant_of-self
invariant_of-self c = nested_left c.self.inside.marks.items c.pop.new.self.items c.in-Some.mark c.self.inside.context c.in-Some.ensures.items c.self.invariant c.rewind.new.self c.rewind.ensures

pub returns : goal.returns
returns c =
    ap (λ (s : Stacked). s.kept) (sym c.self.view_is)
    ∙ kept_left c.self.inside.marks.items c.pop.new.self.items c.in-Some.mark c.self.inside.context c.in-Some.ensures.items c.self.invariant c.rewind.new.self c.rewind.ensures
