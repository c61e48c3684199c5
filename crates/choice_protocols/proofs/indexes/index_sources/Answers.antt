use Rattle.std.proofs.Common.{◌≡◌, ◌+◌, ◌-◌, sym, ap, ◌∙◌, subst, arith}
use Rattle.session_lowering.specs.declared.sources.Source.{Source}
use Rattle.choice_protocols.proofs.FirstNamed.{LeadsFrom, leads_nowhere, leads_before}
use Rattle.choice_protocols.proofs.indexes.index_sources.Goals as goal

pub loop-left-init : goal.loop-left-init
loop-left-init c = (omega arith, leads_nowhere c.args.sources.now c.new-index.result c.new-index.ensures.empty)

pub loop-left-preserved : goal.loop-left-preserved
loop-left-preserved c =
    let (le, leads) = c.loop-left.invariant in
    let lt = c.loop-left-test.true in
    let left : c.loop-left.left - 1 + 1 ≡ c.loop-left.left = omega (arith, lt) in (
      omega (arith, le),
      leads_before c.args.sources.now (c.loop-left.left - 1) c.index-sources-left.result c.in_ok-name.name c.loop-left.index c.insert.new.self (omega (arith, le, lt))
          c.index-sources-left.is
          (c.in_ok-name.ensures ∙ ap (λ (s : Source). s.proto.name) (sym c.index-sources-left.is)) c.in_ok-insert.ensures.updates
          (subst (λ k. LeadsFrom c.args.sources.now k c.loop-left.index) (sym left) leads),
    )
