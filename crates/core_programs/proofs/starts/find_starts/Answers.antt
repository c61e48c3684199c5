use Rattle.std.proofs.Common.{◌≡◌, ◌+◌, ◌<◌, length, get_or, refl, sym, ap, ◌∙◌, subst, arith}
use Rattle.std.proofs.lemmas.List.{length_push}
use Rattle.std.proofs.lemmas.Option.{slice_get_read, slice_get_within}
use Rattle.core_programs.specs.Formed.{nexts}
use Rattle.core_programs.specs.Uses.{StandBefore}
use Rattle.core_programs.proofs.Starting.{BeginBelow, begins_more}
use Rattle.core_programs.proofs.starts.find_starts.Goals as goal

pub nodes-preserved : goal.nodes-preserved
nodes-preserved c =
    let nodes = c.args.nodes.now in
    let node = c.node-item.result in
    let (at, long, all) = c.nodes.invariant in
    let inside : c.nodes.number < length nodes = omega (arith, at, c.nodes-test.true) in
    let read : node ≡ get_or nodes c.nodes.number node = c.node-item.is ∙ ap (λ k. get_or nodes k node) (sym at) in
    let here = slice_get_read nodes (length nodes) c.nodes.number node refl inside read in
    let stands : StandBefore c.nodes.starts.items (nexts node) c.nodes.number c.in-Some.start = subst (λ ss. StandBefore ss (nexts node) c.nodes.number c.in-Some.start) c.as_slice.ensures.value c.in-Some.ensures in
    let more = ap length c.in_ok-push-in-Some.ensures.items ∙ length_push c.nodes.starts.items c.in-Some.start in (
      omega (arith, at),
      omega (arith, more, long),
      subst (λ ss. BeginBelow nodes ss (c.nodes.number + 1)) (sym c.in_ok-push-in-Some.ensures.items) (begins_more nodes c.nodes.starts.items c.nodes.number c.in-Some.start node long here stands all),
    )

pub returns : goal.returns
returns c = λ n x is. let inside = slice_get_within c.args.nodes.now n x is in
    c.nodes.invariant.2 n x (omega (arith, inside, c.nodes-test.false, c.nodes.invariant.0)) is
