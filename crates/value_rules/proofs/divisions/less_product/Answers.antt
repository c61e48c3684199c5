use Rattle.std.proofs.Common.{ℤ, pos, ◌+ℤ◌, ◌-ℤ◌, sym, ap, ◌∙◌, subst}
use Rattle.outline_language.specs.Canonical.{IsCanonical}
use Rattle.outline_language.specs.LinearForms.{constant_form, add_times, minus}
use Rattle.value_rules.proofs.InParts.{minus_canonical}
use Rattle.value_rules.proofs.divisions.less_product.Goals as goal

pub returns : goal.returns
returns c = λ canonical.
    let rest = c.in_ok-sum.ensures.sum canonical in
    c.in_ok-add_twice.ensures.sum (subst IsCanonical (sym rest) (minus_canonical c.args.form.now (constant_form (pos c.args.divisor -ℤ pos 1)) canonical))
    ∙ ap (add_times (c.less_halves.result.0 +ℤ c.less_halves.result.1) c.args.variable.now) rest
    ∙ ap (λ (z : ℤ). add_times z c.args.variable.now (minus c.args.form.now (constant_form (pos c.args.divisor -ℤ pos 1)))) c.less_halves.ensures.sum
