use Rattle.std.proofs.Common.{is_some, sym, ◌∙◌}
use Rattle.chan_syntax.specs.Reading.{part_of}
use Rattle.outline_language.specs.Contexts.{integer_named}
use Rattle.outline_contexts.specs.Trails.{context_in}
use Rattle.outline_contexts.proofs.Meanings.{name_fails, name_passes}
use Rattle.outline_contexts.proofs.trail.Context.are_integers.Goals as goal

pub returns-then-not-is_integer : goal.returns-then-not-is_integer
returns-then-not-is_integer c =
    sym (name_fails (λ x. is_some (integer_named (context_in c.args.self.now) x)) part_of c.args.parts.now c.loop-part.part-index c.part-item.result c.loop-part-test.true c.part-item.is (sym c.is_integer.ensures ∙ c.if-not-is_integer.true))
    ∙ c.loop-part.invariant

pub loop-part-preserved : goal.loop-part-preserved
loop-part-preserved c =
    sym (name_passes (λ x. is_some (integer_named (context_in c.args.self.now) x)) part_of c.args.parts.now c.loop-part.part-index c.part-item.result c.loop-part-test.true c.part-item.is (sym c.is_integer.ensures ∙ c.if-not-is_integer.false))
    ∙ c.loop-part.invariant
