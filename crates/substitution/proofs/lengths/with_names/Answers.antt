use Rattle.std.proofs.Common.{sym, arith}
use Rattle.linear_forms.specs.Replacing.{IsShort}
use Rattle.linear_forms.proofs.Shorts.{all_more}
use Rattle.substitution.proofs.lengths.with_names.Goals as goal

pub loop-name-preserved : goal.loop-name-preserved
loop-name-preserved c =
    (omega (arith, c.loop-name.invariant.0, c.with_name-longest.ensures.more), all_more (IsShort c.loop-name.longest) (IsShort c.with_name-longest.result) c.args.names.now c.loop-name.name-index c.name-item.result c.loop-name-test.true (λ x h. omega (arith, h, c.with_name-longest.ensures.more)) c.loop-name.invariant.1 (rw (sym c.name-item.is) c.with_name-longest.ensures.short))
