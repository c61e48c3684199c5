use Rattle.std.proofs.Common.{◌&&◌, List, map, sym, ap, ◌∙◌}
use Rattle.linear_forms.specs.Normal.{fits}
use Rattle.chan_syntax.specs.declared.linear.Part.{Part}
use Rattle.chan_syntax.specs.Reading.{part_of, term_of}
use Rattle.narrow_terms.specs.Numbers.{are_narrow}
use Rattle.narrow_terms.specs.Sums.{count_in}
use Rattle.narrow_terms.proofs.Rows.{narrow_sum}
use Rattle.narrow_terms.proofs.narrowness.is_sum_narrow.Goals as goal

pub returns-then-are_narrow : goal.returns-then-are_narrow
returns-then-are_narrow c =
    c.constant_fits.ensures
    ∙ ap (λ b. b && fits c.args.sums.now.constant) (sym c.if-are_narrow.true ∙ c.are_narrow.ensures ∙ ap (λ (ps : List Part). are_narrow (count_in c.args.sums.now) (map part_of ps)) c.as_slice.ensures)
    ∙ narrow_sum (term_of c.args.term.now) c.args.sums.now c.requires

pub returns-else-are_narrow : goal.returns-else-are_narrow
returns-else-are_narrow c =
    c.if-are_narrow.false
    ∙ ap (λ b. b && fits c.args.sums.now.constant) (sym c.if-are_narrow.false ∙ c.are_narrow.ensures ∙ ap (λ (ps : List Part). are_narrow (count_in c.args.sums.now) (map part_of ps)) c.as_slice.ensures)
    ∙ narrow_sum (term_of c.args.term.now) c.args.sums.now c.requires
