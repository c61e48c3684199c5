use Rattle.std.proofs.Common.{map, ap, subst, sym}
use Rattle.std.proofs.lemmas.Result.{err_from_is_err_and}
use Rattle.core_language.specs.Resources.{Ref}
use Rattle.chan_syntax.specs.Reading.{ref_of, letter_of}
use Rattle.protocols.specs.Unfolding.{Follows, HasArity}
use Rattle.chan_syntax.specs.declared.resources.Ref.{Ref as Placed}
use Rattle.protocols.specs.Places.{LeadTo}
use Rattle.protocols.specs.Settings.{setting_of}
use Rattle.protocols.proofs.Placing.{led_on, led_to}
use Rattle.protocols.proofs.Stepping.{step_arity, letter_goes, step_form, leads_on, stop_fault, leads_to_end, stops_at_end}
use Rattle.protocols.proofs.unfolding.follow.Goals as goal

pub loop-letter-init : goal.loop-letter-init
loop-letter-init c = record {
  leads = λ outcome rest. subst (λ (r : Ref). Follows (setting_of c.args.setting.now) 0 r (map letter_of c.args.path.now) outcome) (ap ref_of c.in_ok-copy.ensures) rest;
  places = λ last rest. subst (λ (r : Placed). LeadTo c.args.setting.now.protos.now c.args.path.now r last) c.in_ok-copy.ensures rest;
  arity = subst (HasArity (setting_of c.args.setting.now).protos) (sym (ap ref_of c.in_ok-copy.ensures)) c.requires.arity;
  form = rw c.in_ok-copy.ensures c.requires.form;
}

pub step-requires-clause-arity : goal.step-requires-clause-arity
step-requires-clause-arity c = c.loop-letter.invariant.arity

pub step-requires-clause-goes : goal.step-requires-clause-goes
step-requires-clause-goes c = letter_goes (setting_of c.args.setting.now).protos c.args.path.now c.loop-letter.letter-index _ c.loop-letter.at.end.name c.loop-letter-test.true c.loop-letter.invariant.form

pub loop-letter-preserved : goal.loop-letter-preserved
loop-letter-preserved c = record {
  leads = leads_on (setting_of c.args.setting.now) (ref_of c.args.from.now) (map letter_of c.args.path.now) c.args.path.now c.loop-letter.letter-index _ c.loop-letter.at.used _ (ref_of c.loop-letter.at.end) _ c.loop-letter-test.true c.loop-letter.invariant.leads c.in_ok-at.ensures.ok;
  places = led_on c.args.setting.now.protos.now c.args.from.now c.loop-letter.at.end _ c.args.path.now c.loop-letter.letter-index _ c.loop-letter-test.true c.loop-letter.invariant.places c.in_ok-at.ensures.places;
  arity = step_arity (setting_of c.args.setting.now) c.loop-letter.at.used _ (ref_of c.loop-letter.at.end) _ _ c.requires.ready.protos c.in_ok-at.ensures.ok;
  form = step_form (setting_of c.args.setting.now) c.args.path.now c.loop-letter.letter-index _ c.loop-letter.at.used _ (ref_of c.loop-letter.at.end) _ c.loop-letter-test.true c.loop-letter.invariant.form c.in_ok-at.ensures.ok;
}

pub returns-in_err-at-clause-err : goal.returns-in_err-at-clause-err
returns-in_err-at-clause-err c =
    let p = err_from_is_err_and c.from_residual-in_err-at.result c.from_residual-in_err-at.ensures.1 in
    rw (p.1, p.2) (stop_fault (setting_of c.args.setting.now) (ref_of c.args.from.now) (map letter_of c.args.path.now) c.args.path.now c.loop-letter.letter-index _ c.loop-letter.at.used (ref_of c.loop-letter.at.end) _ c.loop-letter-test.true c.loop-letter.invariant.leads c.in_err-at.ensures.err)

pub returns-clause-ok : goal.returns-clause-ok
returns-clause-ok c = leads_to_end (setting_of c.args.setting.now) (ref_of c.args.from.now) (map letter_of c.args.path.now) c.args.path.now c.loop-letter.letter-index c.loop-letter.at.used (ref_of c.loop-letter.at.end) c.loop-letter.auto.letter-index-end c.loop-letter-test.false c.loop-letter.invariant.leads

pub returns-clause-arity : goal.returns-clause-arity
returns-clause-arity c = c.loop-letter.invariant.arity

pub returns-clause-stops : goal.returns-clause-stops
returns-clause-stops c = stops_at_end (setting_of c.args.setting.now).protos c.args.path.now c.loop-letter.letter-index c.loop-letter.at.end.name c.loop-letter.auto.letter-index-end c.loop-letter-test.false c.loop-letter.invariant.form

pub returns-clause-places : goal.returns-clause-places
returns-clause-places c = led_to c.args.setting.now.protos.now c.args.from.now c.loop-letter.at.end c.args.path.now c.loop-letter.letter-index c.loop-letter.auto.letter-index-end c.loop-letter-test.false c.loop-letter.invariant.places
