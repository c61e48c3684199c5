use Rattle.std.proofs.Common.{rules, ◌≡◌, true, map, sym, ◌∙◌, Err}
use Rattle.std.proofs.lemmas.Result.{err_from_is_err_and}
use Rattle.chan_syntax.specs.Reading.{ref_of, proto_of, letter_of}
use Rattle.protocols.specs.Unfolding.{Stop, Follows, Unfolds}
use Rattle.protocols.specs.Unfolding as spec
use Rattle.protocols.specs.Settings.{under}
use Rattle.protocols.proofs.Stepping.{fault_to, not_followed}
use Rattle.protocols.proofs.Divisors.{well_formed}
use Rattle.protocols.proofs.TheHead.{the_head}
use Rattle.protocols.proofs.unfolding.unfold.Goals as goal

pub returns-in_err-last-clause-err : goal.returns-in_err-last-clause-err
returns-in_err-last-clause-err c =
    let has : c.has_form.result ≡ true = search rules in
    let form : spec.has_form (map proto_of c.args.protos.now) (map letter_of c.args.path.now) c.args.from.now.name ≡ true = rw (c.as_slice.ensures, c.as_slice-2.ensures) at (sym c.has_form.ensures ∙ has) in
    let failed = rw c.as_slice-3.ensures at c.in_err-last.ensures.err in
    let p = err_from_is_err_and c.from_residual.result c.from_residual.ensures.1 in
    rw (p.1, p.2) (fault_to (λ fault. Follows (under c.args.protos.now c.args.names.now.ints c.args.hyps.now c.args.certs.now) 0 (ref_of c.args.from.now) (map letter_of c.args.path.now) (Stop fault)) (λ fault. Unfolds (under c.args.protos.now c.args.names.now.ints c.args.hyps.now c.args.certs.now) (ref_of c.args.from.now) (map letter_of c.args.path.now) (Err fault)) _ (λ fault f. not_followed (under c.args.protos.now c.args.names.now.ints c.args.hyps.now c.args.certs.now) (ref_of c.args.from.now) (map letter_of c.args.path.now) fault form f) failed)

pub returns-clause-head : goal.returns-clause-head
returns-clause-head c =
    let has : c.has_form.result ≡ true = search rules in
    let form : spec.has_form (map proto_of c.args.protos.now) (map letter_of c.args.path.now) c.args.from.now.name ≡ true = rw (c.as_slice.ensures, c.as_slice-2.ensures) at (sym c.has_form.ensures ∙ has) in
    let follows = rw c.as_slice-3.ensures at c.in_ok-last.ensures.ok in
    let formed = rw c.as_slice-4.ensures at c.in_ok-head.ensures.ok in
    the_head (under c.args.protos.now c.args.names.now.ints c.args.hyps.now c.args.certs.now) (ref_of c.args.from.now) (map letter_of c.args.path.now) _ (well_formed c.args.protos.now c.args.names.now.ints c.args.hyps.now c.args.certs.now c.requires.protos c.requires.certs) c.requires.arity (form, (ref_of c.in_ok-last.last.end, follows, formed))

pub returns-clause-places : goal.returns-clause-places
returns-clause-places c =
    (c.in_ok-last.last.end, rw c.as_slice-3.ensures at c.in_ok-last.ensures.places, rw c.as_slice-4.ensures at c.in_ok-head.ensures.places)
