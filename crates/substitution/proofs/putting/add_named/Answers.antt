use Rattle.std.proofs.Common.{◌≡◌, ◌++◌, None, Some, find, map, option_copied, option_map, to_z, of_z, sym, ◌∙◌, ap, arith}
use Rattle.std.specs.Int.{w128}
use Rattle.std.proofs.lemmas.Result.{on_ok_weaker}
use Rattle.core_language.specs.Names.{same}
use Rattle.core_language.specs.Terms.{Term}
use Rattle.wide_sums.proofs.Sizes.{kept}
use Rattle.linear_forms.specs.Replacing.{new_name, scaled}
use Rattle.chan_syntax.specs.Reading.{part_of}
use Rattle.substitution.specs.Scopes.{put_in, before_of, after_of}
use Rattle.substitution.specs.Sums.{HasSums}
use Rattle.substitution.proofs.Lookups.{find_put}
use Rattle.substitution.proofs.putting.add_named.Goals as goal

pub returns-in-Some-put_named-clause-sums : goal.returns-in-Some-put_named-clause-sums
returns-in-Some-put_named-clause-sums c =
    let none : new_name (before_of c.args.scope.now) (after_of c.args.scope.now) c.args.name.now ≡ None = sym c.new_name.ensures ∙ ap option_copied c.in-None.is in
    let found : find (λ v. same v.name c.args.name.now) (map put_in c.args.put.now) ≡ Some (put_in c.in-Some-put_named.put.now) = find_put c.args.put.now c.args.name.now ∙ ap (option_map put_in) (sym c.put_named.ensures ∙ ap option_copied c.in-Some-put_named.is) in
    on_ok_weaker c.add_term.result (λ (adds : (sum : Term) → HasSums c.args.sums.now sum → HasSums c.add_term.new.sums (sum ++ scaled (to_z w128 (of_z w128 c.times.result)) (map part_of c.as_slice.result.now))).
    let there = rw (kept c.times.result (omega arith), c.times.ensures.value, c.as_slice.ensures) at adds in
    λ sum h. rw (none, found) (there sum h)) c.add_term.ensures.sums

pub returns-in-None-put_named-clause-sums : goal.returns-in-None-put_named-clause-sums
returns-in-None-put_named-clause-sums c =
    let none : new_name (before_of c.args.scope.now) (after_of c.args.scope.now) c.args.name.now ≡ None = sym c.new_name.ensures ∙ ap option_copied c.in-None.is in
    let absent : find (λ v. same v.name c.args.name.now) (map put_in c.args.put.now) ≡ None = find_put c.args.put.now c.args.name.now ∙ ap (option_map put_in) (sym c.put_named.ensures ∙ ap option_copied c.in-None-put_named.is) in
    on_ok_weaker c.add_once-in-None-put_named.result (λ adds sum h. rw (none, absent) (adds sum h)) c.add_once-in-None-put_named.ensures.sums
