use Rattle.std.proofs.Common.{rules, ◌≡◌, ◌+◌, ◌^◌, OnOk, to_z, of_z, w64, subst, arith}
use Rattle.std.specs.Int.{w128}
use Rattle.std.proofs.lemmas.Result.{on_ok_weaker}
use Rattle.wide_sums.proofs.Sizes.{kept}
use Rattle.outline_language.specs.LinearForms.{add_times}
use Rattle.outline_language.specs.Nameless.{form_with}
use Rattle.nameless_forms.specs.Sizes.{IsWithin}
use Rattle.nameless_forms.proofs.Sizes.{looser_form}
use Rattle.nameless_forms.proofs.putting.put.Goals as goal

pub returns-clause-sum : goal.returns-clause-sum
returns-clause-sum c =
    let weight : to_z w128 (of_z w128 c.args.weight) ≡ c.args.weight = kept c.args.weight (omega arith) in
    let number : to_z w64 (of_z w64 c.form.inside.constant) ≡ c.form.inside.constant = search rules in
    let there = c.put_multiples.ensures.sum (to_z w64 (of_z w64 c.form.inside.constant)) c.args.sum.now c.add_constant.ensures.canonical c.add_constant.ensures.sum in
    subst (λ f. OnOk c.put_multiples.result (c.put_multiples.new.sum ≡ add_times c.args.weight (form_with c.args.instances.now c.args.depth f) c.args.sum.now)) c.form.view_is
    (rw (weight, number, c.as_slice.ensures) at there)

pub returns-clause-within : goal.returns-clause-within
returns-clause-within c = λ size within.
    on_ok_weaker c.put_multiples.result (λ (more : IsWithin ((size + 2 ^ 185) + 2 ^ 244) c.put_multiples.new.sum). looser_form ((size + 2 ^ 185) + 2 ^ 244) (size + (2 ^ 244 + 2 ^ 185)) c.put_multiples.new.sum (omega arith) more)
    (c.put_multiples.ensures.within (size + 2 ^ 185) (c.add_constant.ensures.within size within))
