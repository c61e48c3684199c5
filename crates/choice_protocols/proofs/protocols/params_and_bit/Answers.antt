use Rattle.std.proofs.Common.{◌≡◌, ◌++◌, ◌∷◌, [], List, drop, sym, ap, ◌∙◌}
use Rattle.chan_syntax.specs.declared.linear.Term.{Term}
use Rattle.session_lowering.specs.PutTerms.{name_term}
use Rattle.session_lowering.specs.Choices.{bit, params_and_bit}
use Rattle.choice_protocols.proofs.TurnsFrom.{params-past, spans-past}
use Rattle.choice_protocols.proofs.protocols.params_and_bit.Goals as goal
use Rattle.choice_protocols.proofs.protocols.params_and_bit.Goals.{then-params-test+else-index-spans, else-params-test}

pub returns : goal.returns
returns c =
    let past : params_and_bit c.args.span (drop c.params.index c.args.params.now) (drop c.params.index c.args.spans.now) ≡ name_term c.args.span bit c.args.span ∷ [] =
    elim c.params-test.branch [ then-params-test+else-index-spans w ↦ spans-past c.args.span c.args.params.now c.args.spans.now c.params.index w.if-index-spans.false | else-params-test w ↦ params-past c.args.span c.args.params.now c.args.spans.now c.params.index w.params-test.false ] in
    c.in_ok-push-2.ensures.ok
    ∙ ap (λ (t : Term). c.params.args ++ t ∷ []) c.in_ok-bit_term.ensures
    ∙ sym (ap (λ (ts : List Term). c.params.args ++ ts) past)
    ∙ c.params.invariant
