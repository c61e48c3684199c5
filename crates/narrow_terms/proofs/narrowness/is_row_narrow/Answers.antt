use Rattle.std.proofs.Common.{◌&&◌, ◌-ℤ◌, sym, ap, ◌∙◌}
use Rattle.linear_forms.specs.Normal.{fits}
use Rattle.chan_syntax.specs.Reading.{term_of}
use Rattle.narrow_terms.proofs.Rows.{row}
use Rattle.narrow_terms.proofs.narrowness.is_row_narrow.Goals as goal

pub returns-then-are_counts_narrow : goal.returns-then-are_counts_narrow
returns-then-are_counts_narrow c =
    c.constants_fit.ensures
    ∙ ap (λ b. b && fits (c.args.left.now.constant -ℤ c.args.right.now.constant)) (sym c.if-are_counts_narrow.true ∙ c.are_counts_narrow.ensures)
    ∙ row (term_of c.args.a.now) (term_of c.args.b.now) c.args.left.now c.args.right.now c.requires.left c.requires.right

pub returns-else-are_counts_narrow : goal.returns-else-are_counts_narrow
returns-else-are_counts_narrow c =
    c.if-are_counts_narrow.false
    ∙ ap (λ b. b && fits (c.args.left.now.constant -ℤ c.args.right.now.constant)) (sym c.if-are_counts_narrow.false ∙ c.are_counts_narrow.ensures)
    ∙ row (term_of c.args.a.now) (term_of c.args.b.now) c.args.left.now c.args.right.now c.requires.left c.requires.right
