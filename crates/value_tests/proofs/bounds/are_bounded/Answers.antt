use Rattle.std.proofs.Common.{subst}
use Rattle.chan_syntax.specs.Bounds.{IsBounded}
use Rattle.value_tests.proofs.Tested.{one_passes}
use Rattle.value_tests.proofs.bounds.are_bounded.Goals as goal

pub loop-cert-preserved : goal.loop-cert-preserved
loop-cert-preserved c =
    let passes = subst IsBounded c.cert-item.is (c.is_bounded.ensures c.if-not-is_bounded.false) in
    one_passes IsBounded c.args.certs.now c.loop-cert.cert-index c.cert-item.result c.loop-cert-test.true passes c.loop-cert.invariant
