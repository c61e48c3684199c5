use Rattle.std.proofs.Common.{sym, arith}
use Rattle.std.proofs.lemmas.List.{take_all}
use Rattle.chan_syntax.specs.Reading.{term_of}
use Rattle.linear_forms.specs.Normal.{names_of}
use Rattle.linear_forms.specs.Replacing.{IsShortTerm}
use Rattle.linear_forms.proofs.Shorts.{all_more, all_map, longer_names}
use Rattle.substitution.proofs.lengths.with_terms.Goals as goal

pub loop-term-preserved : goal.loop-term-preserved
loop-term-preserved c =
    (omega (arith, c.loop-term.invariant.0, c.with_term-longest.ensures.more), all_more (λ t. IsShortTerm c.loop-term.longest (term_of t)) (λ t. IsShortTerm c.with_term-longest.result (term_of t)) c.args.terms.now c.loop-term.term-index c.term-item.result c.loop-term-test.true (λ t h. longer_names c.loop-term.longest c.with_term-longest.result (names_of (term_of t)) c.with_term-longest.ensures.more h) c.loop-term.invariant.1 (rw (sym c.term-item.is) c.with_term-longest.ensures.short))

pub returns-clause-short : goal.returns-clause-short
returns-clause-short c = all_map (IsShortTerm c.loop-term.longest) term_of c.args.terms.now (rw (take_all c.loop-term.term-index c.args.terms.now c.loop-term-test.false) at c.loop-term.invariant.1)
