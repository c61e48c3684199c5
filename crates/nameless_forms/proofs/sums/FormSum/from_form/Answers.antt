use Rattle.std.proofs.Common.{◌+◌, ◌^◌, pos, ◌∙◌, ap, arith}
use Rattle.outline_language.specs.LinearForms.{add_times}
use Rattle.nameless_forms.proofs.Sizes.{looser_form}
use Rattle.nameless_forms.proofs.Values.{once}
use Rattle.nameless_forms.proofs.sums.FormSum.from_form.Goals as goal

pub add_form-requires-clause-within : goal.add_form-requires-clause-within
add_form-requires-clause-within c = looser_form (2 ^ 63) (2 ^ 246) c.constant-sum.result (omega arith) c.constant-sum.ensures.within

pub returns-clause-sum : goal.returns-clause-sum
returns-clause-sum c =
    c.in_ok-add_form.ensures.sum ∙ ap (λ start. add_times (pos 1) c.args.form.now start) c.constant-sum.ensures.sum
    ∙ once c.args.form.now c.in_ok-add_form.ensures.canonical

pub returns-clause-within : goal.returns-clause-within
returns-clause-within c =
    looser_form (2 ^ 63 + 2 ^ 185) (2 ^ 246) c.add_form.new.self (omega arith) (c.in_ok-add_form.ensures.within (2 ^ 63) c.constant-sum.ensures.within)
