use Rattle.std.proofs.Common.{rules, ◌≡◌, to_z, of_z, w64, refl, ◌∙◌}
use Rattle.std.proofs.lemmas.Grind.{common_steps}
use Rattle.nameless_forms.proofs.Coefficients.{row_by_counts}
use Rattle.nameless_forms.proofs.sums.FormSum.row.Goals as goal

pub returns-in_err-coefficients-clause-err : goal.returns-in_err-coefficients-clause-err
returns-in_err-coefficients-clause-err c =
    rw (row_by_counts c.args.variables c.args.self.now _ c.self.invariant c.self.view_is) (search (rules, common_steps))

pub returns-clause-ok : goal.returns-clause-ok
returns-clause-ok c =
    let numbers = c.in_ok-coefficients.ensures.ok in
    let narrow = c.in_ok-coefficients.ensures.narrow in
    let (number, fit) = c.in_ok-constant.ensures in
    let kept : to_z w64 (of_z w64 c.in_ok-constant.constant) ≡ c.in_ok-constant.constant = search rules in
    row_by_counts c.args.variables c.args.self.now _ c.self.invariant c.self.view_is ∙ rw (narrow, fit, kept, numbers, number) refl
