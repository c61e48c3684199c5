use Rattle.std.proofs.Common.{◌≡◌, ◌+◌, ◌-◌, ◌<◌, length, map, sym, ap, ◌∙◌, subst, arith}
use Rattle.std.proofs.lemmas.List.{length-map}
use Rattle.std.proofs.Math.ListN.{get_or-map}
use Rattle.protocol_tables.specs.Reading.{protocol_of}
use Rattle.protocol_tables.specs.declared.protocols.Protocol.{Protocol}
use Rattle.protocol_tables.proofs.FirstNamed.{LeadsFrom, leads_nowhere, leads_before}
use Rattle.protocol_tables.proofs.indexes.index_protocols.Goals as goal

pub loop-left-init : goal.loop-left-init
loop-left-init c = (
  omega arith,
  subst (λ k. LeadsFrom (map protocol_of c.args.protocols.now) k c.new-index.result) (length-map c.args.protocols.now protocol_of)
      (leads_nowhere (map protocol_of c.args.protocols.now) c.new-index.result c.new-index.ensures.empty),
)

pub loop-left-preserved : goal.loop-left-preserved
loop-left-preserved c =
    let (le, leads) = c.loop-left.invariant in
    let lt = c.loop-left-test.true in
    let left : c.loop-left.left - 1 + 1 ≡ c.loop-left.left = omega (arith, lt) in
    let within : c.loop-left.left - 1 < length (map protocol_of c.args.protocols.now) = rw (length-map c.args.protocols.now protocol_of) (omega (arith, le, lt)) in (
      omega (arith, le),
      leads_before (map protocol_of c.args.protocols.now) (c.loop-left.left - 1) (protocol_of c.index-protocols-left.result) c.in_ok-name.name c.loop-left.index c.insert.new.self within
          (ap protocol_of c.index-protocols-left.is ∙ sym (get_or-map protocol_of c.args.protocols.now (c.loop-left.left - 1) c.index-protocols-left.result))
          (c.in_ok-name.ensures ∙ ap (λ (p : Protocol). p.name) (sym c.index-protocols-left.is)) c.in_ok-insert.ensures.updates
          (subst (λ k. LeadsFrom (map protocol_of c.args.protocols.now) k c.loop-left.index) (sym left) leads),
    )
