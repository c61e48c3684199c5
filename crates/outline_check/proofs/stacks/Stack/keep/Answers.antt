use Rattle.std.proofs.Common.{List, map, sym, subst}
use Rattle.outline_contexts.specs.Trails.{Lengths, mark_of}
use Rattle.outline_contexts.specs.Reading.{marked}
use Rattle.outline_check.specs.Stacks.{AreNested}
use Rattle.outline_check.proofs.Kept.{pushed_marks, nested_pushed}
use Rattle.outline_check.proofs.stacks.Stack.keep.Goals as goal

pub invariant_of-self-2 : goal.invariant_of-self-2
invariant_of-self-2 c =
    subst (λ (ls : List Lengths). AreNested ls c.self.inside.context)
    (sym (pushed_marks c.self.inside.marks.items c.push.new.self.items c.mark-mark.result (mark_of c.self.inside.context) c.in_ok-push.ensures.items c.mark-mark.ensures.mark))
    (nested_pushed (map marked c.self.inside.marks.items) c.self.inside.context c.self.invariant c.mark-mark.ensures.below)
