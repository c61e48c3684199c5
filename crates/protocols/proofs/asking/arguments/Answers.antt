use Rattle.std.proofs.Common.{◌≡◌, ◌<◌, length, get_or, sym}
use Rattle.protocols.proofs.Forming.{arguments_step}
use Rattle.protocols.proofs.asking.arguments.Goals as goal

pub loop-index-preserved : goal.loop-index-preserved
loop-index-preserved c =
    let below : c.loop-index.index < length c.args.params.now = rw c.len-index-end.ensures at c.loop-index-test.true in
    let within : c.loop-index.index < length c.args.args.now = rw c.requires below in
    let name : get_or c.args.params.now c.loop-index.index c.index-as_slice-index.result ≡ c.index-as_slice-index.result = sym (rw c.as_slice.ensures at c.index-as_slice-index.is) in
    let term : get_or c.args.args.now c.loop-index.index c.index-as_slice-index-in-loop-index.result ≡ c.index-as_slice-index-in-loop-index.result = sym (rw c.as_slice-in-loop-index.ensures at c.index-as_slice-index-in-loop-index.is) in
    arguments_step c.args.params.now c.args.args.now c.loop-index.index _ _ c.loop-index.vars _ _ below within name term c.in_ok-push.ensures.ok c.in_ok-copy.ensures c.in_ok-copy-2.ensures c.loop-index.invariant
