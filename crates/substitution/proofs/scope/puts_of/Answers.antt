use Rattle.std.proofs.Common.{◌≡◌, ◌<◌, ◌≤◌, map, take, length, get_or, refl, sym, ◌∙◌, ap, arith}
use Rattle.std.proofs.lemmas.List.{take_all}
use Rattle.substitution.specs.Places.{puts_for}
use Rattle.substitution.specs.Scopes.{put_in}
use Rattle.substitution.proofs.Lists.{put_step, puts_in}
use Rattle.substitution.proofs.scope.puts_of.Goals as goal

pub loop-index-preserved : goal.loop-index-preserved
loop-index-preserved c =
    let below : c.loop-index.index < length c.args.names.now = rw c.len-index-end.ensures at c.loop-index-test.true in
    let within : c.loop-index.index < length c.args.by.now = rw c.requires at below in
    let name : get_or c.args.names.now c.loop-index.index c.index-as_slice-index.result ≡ c.index-as_slice-index.result = sym (rw c.as_slice.ensures at c.index-as_slice-index.is) in
    let term : get_or c.args.by.now c.loop-index.index c.index-as_slice-index-in-loop-index.result ≡ c.index-as_slice-index-in-loop-index.result = sym (rw c.as_slice-in-loop-index.ensures at c.index-as_slice-index-in-loop-index.is) in
    put_step c.args.names.now c.args.by.now c.loop-index.index _ _ c.loop-index.put _ _ below within name term c.in_ok-push.ensures.ok c.in_ok-copy.ensures c.in_ok-copy-2.ensures c.loop-index.invariant

pub returns-clause-terms : goal.returns-clause-terms
returns-clause-terms c =
    let past : length c.args.names.now ≤ c.loop-index.index = omega (arith, c.loop-index-test.false, c.len-index-end.ensures) in
    let past_by : length c.args.by.now ≤ c.loop-index.index = omega (arith, past, c.requires) in
    let all : puts_for (take c.loop-index.index c.args.names.now) (take c.loop-index.index c.args.by.now) ≡ puts_for c.args.names.now c.args.by.now = rw (take_all c.loop-index.index c.args.names.now past, take_all c.loop-index.index c.args.by.now past_by) refl in
    ap (map put_in) (c.loop-index.invariant ∙ all) ∙ puts_in c.args.names.now c.args.by.now
