use Rattle.std.proofs.Common.{◌+◌, ◌^◌, ℤ, ◌+ℤ◌, refl, ap, ◌∙◌, arith}
use Rattle.outline_language.specs.LinearForms.{add_times}
use Rattle.wide_sums.proofs.Sizes.{kept}
use Rattle.nameless_forms.proofs.Sizes.{looser_form}
use Rattle.value_rules.proofs.InParts.{in_parts}
use Rattle.value_rules.proofs.divisions.add_twice.Goals as goal

pub add-requires-2-clause-within : goal.add-requires-2-clause-within
add-requires-2-clause-within c = looser_form (2 ^ 245 + 2 ^ 185) (2 ^ 246) c.add.new.self (omega arith) (c.in_ok-add.ensures.within (2 ^ 245) c.requires.within)

pub returns-clause-sum : goal.returns-clause-sum
returns-clause-sum c = λ canonical.
    c.in_ok-add-2.ensures.sum
    ∙ ap (λ (z : ℤ). add_times z c.args.form.now c.add.new.self) (kept c.args.times.1 (omega (arith, c.requires.second)))
    ∙ ap (add_times c.args.times.1 c.args.form.now) c.in_ok-add.ensures.sum
    ∙ ap (λ (z : ℤ). add_times c.args.times.1 c.args.form.now (add_times z c.args.form.now c.args.sum.now)) (kept c.args.times.0 (omega (arith, c.requires.first)))
    ∙ in_parts c.args.times.0 c.args.times.1 (c.args.times.0 +ℤ c.args.times.1) c.args.form.now c.args.sum.now refl canonical

pub returns-clause-within : goal.returns-clause-within
returns-clause-within c = λ size le within. c.in_ok-add-2.ensures.within (size + 2 ^ 185) (c.in_ok-add.ensures.within size within)
