use Rattle.std.proofs.Common.{map, sym}
use Rattle.std.proofs.lemmas.Result.{err_from_is_err_and}
use Rattle.chan_syntax.specs.Reading.{term_of}
use Rattle.linear_forms.specs.Substitution.{Fits, IsNormalPut}
use Rattle.linear_forms.specs.Replacing.{IsReady}
use Rattle.substitution.specs.Places.{IsPlaced, Words}
use Rattle.substitution.specs.Scopes.{put_in, before_of, after_of}
use Rattle.substitution.proofs.ReadyTerms.{all_at_map}
use Rattle.substitution.proofs.EachNext.{each_next}
use Rattle.substitution.proofs.substituting.subst_terms_in.Goals as goal

pub subst_term-requires : goal.subst_term-requires
subst_term-requires c = all_at_map (IsReady (map put_in c.args.put.now) (before_of c.args.scope.now) (after_of c.args.scope.now)) term_of c.args.terms.now c.loop-term.term-index c.term-item.result c.requires c.loop-term-test.true (sym c.term-item.is)

pub returns-in_err-subst_term-clause-err : goal.returns-in_err-subst_term-clause-err
returns-in_err-subst_term-clause-err c =
    let p = err_from_is_err_and c.from_residual.result c.from_residual.ensures.1 in
    rw (p.1, p.2) (λ e all. c.in_err-subst_term.ensures.err e (all_at_map (Fits (map put_in c.args.put.now) (before_of c.args.scope.now)) term_of c.args.terms.now c.loop-term.term-index c.term-item.result all c.loop-term-test.true (sym c.term-item.is)))

pub loop-term-preserved : goal.loop-term-preserved
loop-term-preserved c = record {
  normal = rw c.in_ok-push.ensures.ok (each_next (IsNormalPut (map put_in c.args.put.now) (before_of c.args.scope.now) (after_of c.args.scope.now)) term_of term_of c.args.terms.now c.loop-term.term-index c.term-item.result c.loop-term.all _ c.loop-term-test.true (sym c.term-item.is) c.loop-term.invariant.normal c.in_ok-subst_term.ensures.ok);
  places = rw c.in_ok-push.ensures.ok (each_next (IsPlaced c.args.put.now) (Words (before_of c.args.scope.now)) (Words (after_of c.args.scope.now)) c.args.terms.now c.loop-term.term-index c.term-item.result c.loop-term.all _ c.loop-term-test.true (sym c.term-item.is) c.loop-term.invariant.places c.in_ok-subst_term.ensures.places);
}
