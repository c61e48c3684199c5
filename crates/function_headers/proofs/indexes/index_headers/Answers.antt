use Rattle.std.proofs.Common.{◌≡◌, ◌+◌, ◌-◌, ◌<◌, length, map, sym, ap, ◌∙◌, subst, arith}
use Rattle.std.proofs.lemmas.List.{length-map}
use Rattle.std.proofs.Math.ListN.{get_or-map}
use Rattle.function_headers.specs.Reading.{header_of}
use Rattle.function_headers.specs.declared.headers.Header.{Header}
use Rattle.function_headers.proofs.FirstNamed.{LeadsFrom, leads_nowhere, leads_before}
use Rattle.function_headers.proofs.indexes.index_headers.Goals as goal

pub loop-left-init : goal.loop-left-init
loop-left-init c = (
  omega arith,
  subst (λ k. LeadsFrom (map header_of c.args.headers.now) k c.new-index.result) (length-map c.args.headers.now header_of)
      (leads_nowhere (map header_of c.args.headers.now) c.new-index.result c.new-index.ensures.empty),
)

pub loop-left-preserved : goal.loop-left-preserved
loop-left-preserved c =
    let (le, leads) = c.loop-left.invariant in
    let lt = c.loop-left-test.true in
    let left : c.loop-left.left - 1 + 1 ≡ c.loop-left.left = omega (arith, lt) in
    let within : c.loop-left.left - 1 < length (map header_of c.args.headers.now) = rw (length-map c.args.headers.now header_of) (omega (arith, le, lt)) in (
      omega (arith, le),
      leads_before (map header_of c.args.headers.now) (c.loop-left.left - 1) (header_of c.index-headers-left.result) c.in_ok-name.name c.loop-left.index c.insert.new.self within
          (ap header_of c.index-headers-left.is ∙ sym (get_or-map header_of c.args.headers.now (c.loop-left.left - 1) c.index-headers-left.result))
          (c.in_ok-name.ensures ∙ ap (λ (p : Header). p.name) (sym c.index-headers-left.is)) c.in_ok-insert.ensures.updates
          (subst (λ k. LeadsFrom (map header_of c.args.headers.now) k c.loop-left.index) (sym left) leads),
    )
