use Rattle.std.proofs.Common.{◌+◌, ◌^◌, pos, ◌+ℤ◌, ◌-ℤ◌, sym, ap, ◌∙◌, subst, arith}
use Rattle.outline_language.specs.Canonical.{IsCanonical}
use Rattle.outline_language.specs.LinearForms.{LinearForm, constant_form, add_times}
use Rattle.nameless_forms.proofs.Sizes.{looser_form}
use Rattle.value_rules.proofs.InParts.{one_canonical, units_less}
use Rattle.value_rules.proofs.divisions.less_rest.Goals as goal

pub add_twice-requires-clause-within : goal.add_twice-requires-clause-within
add_twice-requires-clause-within c = looser_form (2 ^ 63 + 2 ^ 185) (2 ^ 245) c.in_ok-sum.sum (omega arith) c.in_ok-sum.ensures.within

pub returns-clause-sum : goal.returns-clause-sum
returns-clause-sum c = λ canonical.
    let k = c.less_but_one.result.0 +ℤ c.less_but_one.result.1 in
    c.in_ok-add_twice.ensures.sum (subst IsCanonical (sym c.in_ok-sum.ensures.sum) (one_canonical (pos 1) c.args.form.now))
    ∙ ap (λ (f : LinearForm). add_times k f c.in_ok-sum.sum) c.constant-one.ensures
    ∙ ap (add_times k (constant_form (pos 1))) c.in_ok-sum.ensures.sum
    ∙ units_less k (pos c.args.divisor -ℤ pos 1) c.args.form.now c.less_but_one.ensures.sum canonical

pub returns-clause-within : goal.returns-clause-within
returns-clause-within c =
    looser_form (2 ^ 63 + 2 ^ 185 + 2 ^ 185 + 2 ^ 185) (2 ^ 245) c.add_twice.new.sum (omega arith)
    (c.in_ok-add_twice.ensures.within (2 ^ 63 + 2 ^ 185) (omega arith) c.in_ok-sum.ensures.within)
