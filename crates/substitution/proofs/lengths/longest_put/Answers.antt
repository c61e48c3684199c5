use Rattle.std.proofs.Common.{sym}
use Rattle.std.proofs.lemmas.List.{take_all}
use Rattle.chan_syntax.specs.Reading.{term_of}
use Rattle.linear_forms.specs.Normal.{names_of}
use Rattle.linear_forms.specs.Replacing.{IsShortTerm}
use Rattle.linear_forms.proofs.Shorts.{all_more, all_map, longer_names}
use Rattle.substitution.specs.Scopes.{put_in}
use Rattle.substitution.proofs.lengths.longest_put.Goals as goal

pub loop-put-preserved : goal.loop-put-preserved
loop-put-preserved c =
    all_more (λ v. IsShortTerm c.loop-put.longest (term_of v.term)) (λ v. IsShortTerm c.with_term-longest.result (term_of v.term)) c.args.put.now c.loop-put.put-index c.put-item.result c.loop-put-test.true (λ v h. longer_names c.loop-put.longest c.with_term-longest.result (names_of (term_of v.term)) c.with_term-longest.ensures.more h) c.loop-put.invariant (rw (sym c.put-item.is) c.with_term-longest.ensures.short)

pub returns : goal.returns
returns c = all_map (λ v. IsShortTerm c.loop-put.longest v.term) put_in c.args.put.now (rw (take_all c.loop-put.put-index c.args.put.now c.loop-put-test.false) at c.loop-put.invariant)
