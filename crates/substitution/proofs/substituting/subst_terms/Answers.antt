use Rattle.std.proofs.Common.{◌∙◌, [], List, map, IfOk, subst}
use Rattle.chan_syntax.specs.Reading.{term_of}
use Rattle.linear_forms.specs.Substitution.{Each}
use Rattle.substitution.specs.Places.{IsPlaced, Words}
use Rattle.substitution.specs.Scopes.{put_in, before_of, after_of}
use Rattle.substitution.specs.declared.scope.Binder.{Binder}
use Rattle.substitution.specs.declared.scope.Put.{Put}
use Rattle.substitution.proofs.ReadyTerms.{ready_bare}
use Rattle.substitution.proofs.substituting.subst_terms.Goals as goal

pub subst_terms_in-requires : goal.subst_terms_in-requires
subst_terms_in-requires c = rw (c.as_slice-2.ensures, c.new-scope.ensures) (ready_bare (map put_in c.as_slice.result.now) (map term_of c.as_slice-3.result.now))

pub returns-clause-places : goal.returns-clause-places
returns-clause-places c =
    let terms = rw c.as_slice-3.ensures at c.subst_terms_in.ensures.places in
    subst (λ (put : List Put). IfOk c.subst_terms_in.result (λ all. Each (IsPlaced put) (map (Words []) c.args.terms.now) (map (Words []) all))) (c.as_slice.ensures ∙ c.in_ok-put.ensures.places)
    (subst (λ (scope : List Binder). IfOk c.subst_terms_in.result (λ all. Each (IsPlaced c.as_slice.result.now) (map (Words (before_of scope)) c.args.terms.now) (map (Words (after_of scope)) all))) (c.as_slice-2.ensures ∙ c.new-scope.ensures) terms)
