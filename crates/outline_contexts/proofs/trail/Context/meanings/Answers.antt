use Rattle.std.proofs.Common.{◌+◌, map, drop, sym, ap, ◌∙◌}
use Rattle.std.proofs.lemmas.Result.{err_from_is_err_and}
use Rattle.chan_syntax.specs.Reading.{term_of}
use Rattle.outline_language.specs.Contexts.{meanings}
use Rattle.outline_obligations.proofs.Reasons.{reason_to}
use Rattle.outline_contexts.specs.Trails.{context_in}
use Rattle.outline_contexts.proofs.Meanings.{behind, behind_nothing, one_meant, none_meant}
use Rattle.outline_contexts.proofs.trail.Context.meanings.Goals as goal

pub loop-term-init : goal.loop-term-init
loop-term-init c = ap (λ fs. behind fs (meanings (context_in c.args.self.now) (map term_of c.args.terms.now))) c.new-forms.ensures ∙ behind_nothing (meanings (context_in c.args.self.now) (map term_of c.args.terms.now))

pub loop-term-preserved : goal.loop-term-preserved
loop-term-preserved c =
    ap (λ fs. behind fs (meanings (context_in c.args.self.now) (map term_of (drop (c.loop-term.term-index + 1) c.args.terms.now)))) c.in_ok-push.ensures.ok
    ∙ sym (one_meant (context_in c.args.self.now) term_of c.args.terms.now c.loop-term.term-index c.term-item.result c.loop-term-test.true c.term-item.is c.loop-term.forms c.in_ok-form.form c.in_ok-form.ensures.ok)
    ∙ c.loop-term.invariant

pub returns-in_err-form-clause-err : goal.returns-in_err-form-clause-err
returns-in_err-form-clause-err c =
    let p = err_from_is_err_and c.from_residual.result c.from_residual.ensures.1 in
    rw (p.1, p.2) (reason_to _ _ (λ w e. sym c.loop-term.invariant
    ∙ none_meant (context_in c.args.self.now) term_of c.args.terms.now c.loop-term.term-index c.term-item.result c.loop-term-test.true c.term-item.is c.loop-term.forms w e) _ c.in_err-form.ensures.err)
