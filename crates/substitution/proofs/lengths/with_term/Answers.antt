use Rattle.std.proofs.Common.{All, option_to_list, sym, arith}
use Rattle.std.proofs.lemmas.List.{take_all}
use Rattle.chan_syntax.specs.Reading.{part_of}
use Rattle.linear_forms.specs.Replacing.{IsShort}
use Rattle.linear_forms.proofs.Shorts.{all_more, all_map, longer_names, short_parts}
use Rattle.substitution.proofs.lengths.with_term.Goals as goal

pub loop-part-preserved : goal.loop-part-preserved
loop-part-preserved c =
    (omega (arith, c.loop-part.invariant.0, c.with_part-longest.ensures.more), all_more (λ p. All (IsShort c.loop-part.longest) (option_to_list p.name)) (λ p. All (IsShort c.with_part-longest.result) (option_to_list p.name)) c.as_slice-part-items.result.now c.loop-part.part-index c.part-item.result c.loop-part-test.true (λ p h. longer_names c.loop-part.longest c.with_part-longest.result (option_to_list p.name) c.with_part-longest.ensures.more h) c.loop-part.invariant.1 (rw (sym c.part-item.is) c.with_part-longest.ensures.short))

pub returns-clause-short : goal.returns-clause-short
returns-clause-short c =
    rw (sym c.as_slice-part-items.ensures) (short_parts c.loop-part.longest _ (all_map (λ p. All (IsShort c.loop-part.longest) (option_to_list p.name)) part_of c.as_slice-part-items.result.now (rw (take_all c.loop-part.part-index c.as_slice-part-items.result.now c.loop-part-test.false) at c.loop-part.invariant.1)))
