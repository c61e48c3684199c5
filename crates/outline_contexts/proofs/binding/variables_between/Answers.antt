use Rattle.std.proofs.Common.{◌≡◌, ◌+◌, ◌-◌, List, [], ◌∷◌, ◌++◌, sym, ap, ◌∙◌, arith}
use Rattle.std.proofs.lemmas.List.FromFn.{map-range_with_len_more}
use Rattle.outline_language.specs.LinearForms.{LinearForm, Free, variable_form}
use Rattle.outline_language.specs.Contexts.{variables_from}
use Rattle.outline_contexts.proofs.binding.variables_between.Goals as goal

pub loop-place-preserved : goal.loop-place-preserved
loop-place-preserved c =
    let many = c.loop-place.place - c.args.first in
    let here : c.args.first + (c.loop-place.place - c.args.first) ≡ c.loop-place.place = omega (arith, c.loop-place.auto.place) in
    let next : (c.loop-place.place - c.args.first) + 1 ≡ (c.loop-place.place + 1) - c.args.first = omega (arith, c.loop-place.auto.place) in
    c.in_ok-push.ensures.ok
    ∙ ap (λ (fs : List LinearForm). fs ++ c.in_ok-form.form ∷ []) c.loop-place.invariant
    ∙ ap (λ (f : LinearForm). variables_from c.args.first many ++ f ∷ []) (c.in_ok-form.ensures ∙ ap variable_form c.free.ensures)
    ∙ sym (map-range_with_len_more (λ i. variable_form (Free i)) c.args.first many c.loop-place.place here)
    ∙ ap (variables_from c.args.first) next
