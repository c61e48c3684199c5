use Rattle.std.proofs.Common.{sym, arith}
use Rattle.std.proofs.lemmas.List.{take_all}
use Rattle.chan_syntax.specs.Reading.{term_of, limit_of}
use Rattle.linear_forms.specs.Normal.{names_of}
use Rattle.linear_forms.specs.Replacing.{IsShortLimit}
use Rattle.linear_forms.proofs.Shorts.{all_more, all_map, longer_names}
use Rattle.substitution.proofs.lengths.with_limits.Goals as goal

pub loop-limit-preserved : goal.loop-limit-preserved
loop-limit-preserved c =
    (omega (arith, c.loop-limit.invariant.0, c.with_term.ensures.more, c.with_term-longest.ensures.more), all_more (λ m. IsShortLimit c.loop-limit.longest (limit_of m)) (λ m. IsShortLimit c.with_term-longest.result (limit_of m)) c.args.limits.now c.loop-limit.limit-index c.limit-item.result c.loop-limit-test.true (λ m h. record { left = longer_names c.loop-limit.longest c.with_term-longest.result (names_of (term_of m.left)) (omega (arith, c.with_term.ensures.more, c.with_term-longest.ensures.more)) h.left; right = longer_names c.loop-limit.longest c.with_term-longest.result (names_of (term_of m.right)) (omega (arith, c.with_term.ensures.more, c.with_term-longest.ensures.more)) h.right }) c.loop-limit.invariant.1 (rw (sym c.limit-item.is) here))
  where
    here : IsShortLimit c.with_term-longest.result (limit_of c.limit-item.result)
    here = record { left = longer_names c.with_term.result c.with_term-longest.result (names_of (term_of c.limit-item.result.left)) c.with_term-longest.ensures.more c.with_term.ensures.short; right = c.with_term-longest.ensures.short }

pub returns-clause-short : goal.returns-clause-short
returns-clause-short c = all_map (IsShortLimit c.loop-limit.longest) limit_of c.args.limits.now (rw (take_all c.loop-limit.limit-index c.args.limits.now c.loop-limit-test.false) at c.loop-limit.invariant.1)
