use Rattle.std.proofs.Common.{pos, unwrap_or, sym, ◌∙◌, ap}
use Rattle.std.specs.Option.{option_map}
use Rattle.std.specs.Cmp.Lexicographic.{texts_ties}
use Rattle.substitution.proofs.summands.Summands.take.Goals as goal

pub returns-in-Some-clause-others : goal.returns-in-Some-clause-others
returns-in-Some-clause-others c = λ x e. ap (λ o. unwrap_or (option_map (λ s. s.sum) o) (pos 0)) (c.remove.ensures.updates.2 x (sym (texts_ties c.args.name.now x) ∙ e))

pub returns-in-Some-clause-other_spans : goal.returns-in-Some-clause-other_spans
returns-in-Some-clause-other_spans c = λ x e. ap (option_map (λ s. s.span)) (c.remove.ensures.updates.2 x (sym (texts_ties c.args.name.now x) ∙ e))
