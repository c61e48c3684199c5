use Rattle.std.proofs.Common.{◌∙◌, [], List, IfOk, IfErr, map, ap, subst}
use Rattle.linear_forms.specs.Terms.{IntVar}
use Rattle.linear_forms.specs.Substitution.{AllFit, Each, terms_of_res}
use Rattle.chan_syntax.specs.Reading.{res_of}
use Rattle.substitution.specs.Places.{IsPlaced, pieces_of_res}
use Rattle.substitution.specs.Likeness.{IsMisfit}
use Rattle.substitution.specs.Scopes.{put_in, before_of, after_of}
use Rattle.substitution.specs.declared.scope.Binder.{Binder}
use Rattle.substitution.specs.declared.scope.Put.{Put}
use Rattle.substitution.proofs.substituting.subst.Goals as goal

pub returns-clause-places : goal.returns-clause-places
returns-clause-places c =
    subst (λ (put : List Put). IfOk c.subst_res.result (λ res. Each (IsPlaced put) (pieces_of_res [] c.args.res.now) (pieces_of_res [] res))) (c.as_slice-2.ensures ∙ c.in_ok-put.ensures.places)
    (subst (λ (scope : List Binder). IfOk c.subst_res.result (λ res. Each (IsPlaced c.as_slice-2.result.now) (pieces_of_res (before_of scope) c.args.res.now) (pieces_of_res (after_of scope) res))) c.new-scope.ensures c.subst_res.ensures.places)

pub returns-clause-err : goal.returns-clause-err
returns-clause-err c =
    subst (λ (put : List IntVar). IfErr c.subst_res.result (λ fault. IsMisfit fault (AllFit put (terms_of_res [] (res_of c.args.res.now))))) (ap (map put_in) c.as_slice-2.ensures ∙ c.in_ok-put.ensures.terms)
    (subst (λ (scope : List Binder). IfErr c.subst_res.result (λ fault. IsMisfit fault (AllFit (map put_in c.as_slice-2.result.now) (terms_of_res (before_of scope) (res_of c.args.res.now))))) c.new-scope.ensures c.subst_res.ensures.err)
