use Rattle.std.proofs.Common.{◌≡◌, pos, true, List, map, is_some, unwrap_or, if◌then◌else◌, Result, Err, sym, ap, ◌∙◌}
use Rattle.std.specs.List.{list_all}
use Rattle.std.proofs.lemmas.Result.{err_from_is_err_and}
use Rattle.chan_syntax.specs.declared.linear.Part.{Part}
use Rattle.chan_syntax.specs.Reading.{part_of, term_of}
use Rattle.linear_forms.specs.Normal.{names_of}
use Rattle.outline_language.specs.LinearForms.{LinearForm, constant_form, form_of_term}
use Rattle.outline_language.specs.Contexts.{Why, WrongForm, integer_named, formed, meaning}
use Rattle.outline_contexts.specs.Trails.{context_in}
use Rattle.outline_contexts.proofs.Meanings.{too_large_as}
use Rattle.outline_contexts.proofs.trail.Context.meaning.Goals as goal

pub returns-in_err-form-clause-err : goal.returns-in_err-form-clause-err
returns-in_err-form-clause-err c =
    let ctx = context_in c.args.self.now in
    let test : list_all (λ x. is_some (integer_named ctx x)) (names_of (term_of c.args.term.now)) ≡ true =
    ap (λ (ps : List Part). list_all (λ x. is_some (integer_named ctx x)) (names_of (map part_of ps))) (sym c.as_slice.ensures) ∙ sym c.are_integers.ensures ∙ c.if-not-are_integers.false in
    let answer : Result LinearForm Why = formed (form_of_term (λ x. unwrap_or (integer_named ctx x) (constant_form (pos 0))) (term_of c.args.term.now)) in
    let same : meaning ctx (term_of c.args.term.now) ≡ answer = ap (λ b. if b then answer else Err WrongForm) test in
    let p = err_from_is_err_and c.from_residual.result c.from_residual.ensures.1 in
    rw (p.1, p.2) (too_large_as answer (meaning ctx (term_of c.args.term.now)) same _ c.in_err-form.ensures.err)
