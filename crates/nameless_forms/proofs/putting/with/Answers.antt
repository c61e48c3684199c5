use Rattle.std.proofs.Common.{◌+◌, ◌^◌, pos, ◌∙◌, ap, arith}
use Rattle.outline_language.specs.LinearForms.{add_times}
use Rattle.outline_language.specs.Nameless.{instance_for, form_with}
use Rattle.nameless_forms.proofs.Sizes.{looser_form}
use Rattle.nameless_forms.proofs.Values.{once}
use Rattle.outline_language.proofs.Sums.{put_canonical}
use Rattle.nameless_forms.proofs.putting.with.Goals as goal

pub put-requires-clause-within : goal.put-requires-clause-within
put-requires-clause-within c = looser_form (2 ^ 63) (2 ^ 245) c.constant-sum.result (omega arith) c.constant-sum.ensures.within

pub returns-clause-sum : goal.returns-clause-sum
returns-clause-sum c =
    c.in_ok-put.ensures.sum ∙ ap (λ start. add_times (pos 1) (form_with c.args.instances.now c.args.depth c.args.form.now) start) c.constant-sum.ensures.sum
    ∙ once (form_with c.args.instances.now c.args.depth c.args.form.now) (put_canonical (instance_for c.args.instances.now c.args.depth) c.args.form.now.constant c.args.form.now.multiples)

pub returns-clause-within : goal.returns-clause-within
returns-clause-within c =
    looser_form (2 ^ 63 + (2 ^ 244 + 2 ^ 185)) (2 ^ 245) c.put.new.sum (omega arith) (c.in_ok-put.ensures.within (2 ^ 63) c.constant-sum.ensures.within)
