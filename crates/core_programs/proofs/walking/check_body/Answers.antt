use Rattle.std.proofs.Common.{◌≡◌, suc, ◌+◌, ◌<◌, List, [], ◌∷◌, ◌++◌, length, Some, None, refl, sym, subst, arith}
use Rattle.form_faults.specs.Faults.{least}
use Rattle.core_programs.specs.declared.nodes.Node.{Node}
use Rattle.core_programs.specs.Trees.{tree}
use Rattle.core_programs.specs.Passes.{body_faults}
use Rattle.core_programs.proofs.Forests.{read_at}
use Rattle.core_programs.proofs.Walks.{at_number, IsAt, Walking, size, later_size, enters, enters_smaller, goes_on, goes_smaller, leaves, leaves_smaller, popped_within, ends, is_empty}
use Rattle.core_programs.proofs.walking.check_body.Goals as goal

pub walk-smaller-in-Some : goal.walk-smaller-in-Some
walk-smaller-in-Some c =
    let nodes = c.args.parts.now.nodes in
    let within : c.in-Some.number < length nodes = subst (IsAt (length nodes)) c.in-Some.is c.walk.invariant.within in
    let here = read_at c.args.parts.now c.args.parts.now c.as_slice-nodes.result.now c.in-Some.number c.index-nodes-number.result c.as_slice-nodes.ensures refl within c.index-nodes-number.is in
    let smaller = enters_smaller c.args.protos.now c.args.funcs.now c.args.parts.now c.requires.numbered c.in-Some.number c.index-nodes-number.result c.walk.later.items
    (record { number = c.in-Some.number; mark = c.len.result; turn = 0 }) within here refl refl in
    subst (λ ls. size (at_number None (tree nodes)) + later_size nodes ls < size (at_number c.walk.at (tree nodes)) + later_size nodes c.walk.later.items)
    (sym c.in_ok-push-in-Some.ensures.items)
    (subst (λ o. size (at_number None (tree nodes)) + later_size nodes (c.walk.later.items ++ record { number = c.in-Some.number; mark = c.len.result; turn = 0 } ∷ []) < size (at_number o (tree nodes)) + later_size nodes c.walk.later.items)
    (sym c.in-Some.is) (omega (arith, smaller)))

pub walk-preserved-in-Some : goal.walk-preserved-in-Some
walk-preserved-in-Some c =
    let whole = least c.args.first.now (body_faults c.args.protos.now c.args.funcs.now c.args.scope.now (tree c.args.parts.now.nodes c.args.start)) in
    let within : c.in-Some.number < length c.args.parts.now.nodes = subst (IsAt (length c.args.parts.now.nodes)) c.in-Some.is c.walk.invariant.within in
    let here = read_at c.args.parts.now c.args.parts.now c.as_slice-nodes.result.now c.in-Some.number c.index-nodes-number.result c.as_slice-nodes.ensures refl within c.index-nodes-number.is in
    subst (Walking c.args.protos.now c.args.funcs.now c.args.parts.now whole c.check_operands.new.first c.walk.scope None) (sym c.in_ok-push-in-Some.ensures.items)
    (enters c.args.protos.now c.args.funcs.now c.args.parts.now c.requires.numbered whole c.walk.first c.check_operands.new.first c.walk.scope c.in-Some.number
    c.index-nodes-number.result c.walk.later.items (record { number = c.in-Some.number; mark = c.len.result; turn = 0 })
    (subst (λ o. Walking c.args.protos.now c.args.funcs.now c.args.parts.now whole c.walk.first c.walk.scope o c.walk.later.items) c.in-Some.is c.walk.invariant) here
    c.in_ok-check_operands-in-Some.ensures refl c.len.ensures refl)

pub returns-in-None-pop : goal.returns-in-None-pop
returns-in-None-pop c =
    let whole = least c.args.first.now (body_faults c.args.protos.now c.args.funcs.now c.args.scope.now (tree c.args.parts.now.nodes c.args.start)) in
    let none : length c.walk.later.items ≡ 0 = omega (arith, c.in-None-pop.ensures.cases.0, c.walk.later.ok) in
    ends c.args.protos.now c.args.funcs.now c.args.parts.now c.requires.numbered whole c.walk.first c.walk.scope c.walk.later.items
    (subst (λ o. Walking c.args.protos.now c.args.funcs.now c.args.parts.now whole c.walk.first c.walk.scope o c.walk.later.items) c.in-None.is c.walk.invariant) (is_empty c.walk.later.items none)

pub bounds-nodes-next : goal.bounds-nodes-next
bounds-nodes-next c =
    let whole = least c.args.first.now (body_faults c.args.protos.now c.args.funcs.now c.args.scope.now (tree c.args.parts.now.nodes c.args.start)) in
    subst (λ (ns : List Node). c.in-Some-pop.next.number < length ns) (sym c.as_slice-nodes.ensures)
    (popped_within c.args.protos.now c.args.funcs.now c.args.parts.now c.requires.numbered whole c.walk.first c.walk.scope c.walk.later.items c.pop.new.self.items c.in-Some-pop.next
    (subst (λ o. Walking c.args.protos.now c.args.funcs.now c.args.parts.now whole c.walk.first c.walk.scope o c.walk.later.items) c.in-None.is c.walk.invariant) c.in-Some-pop.ensures.items)

pub walk-smaller-in-Some-next_number : goal.walk-smaller-in-Some-next_number
walk-smaller-in-Some-next_number c =
    let nodes = c.args.parts.now.nodes in
    let whole = least c.args.first.now (body_faults c.args.protos.now c.args.funcs.now c.args.scope.now (tree nodes c.args.start)) in
    let walk = subst (λ o. Walking c.args.protos.now c.args.funcs.now c.args.parts.now whole c.walk.first c.walk.scope o c.walk.later.items) c.in-None.is c.walk.invariant in
    let within = popped_within c.args.protos.now c.args.funcs.now c.args.parts.now c.requires.numbered whole c.walk.first c.walk.scope c.walk.later.items c.pop.new.self.items c.in-Some-pop.next walk c.in-Some-pop.ensures.items in
    let here = read_at c.args.parts.now c.args.parts.now c.as_slice-nodes.result.now c.in-Some-pop.next.number c.index-nodes-next.result c.as_slice-nodes.ensures refl within c.index-nodes-next.is in
    let one : c.in_ok-turn-in-Some-pop.turn ≡ suc c.in-Some-pop.next.turn = omega (arith, c.in_ok-turn-in-Some-pop.ensures) in
    let smaller = goes_smaller c.args.protos.now c.args.funcs.now c.args.parts.now c.requires.numbered c.index-nodes-next.result c.in-Some-next_number.number c.walk.later.items c.pop.new.self.items c.in-Some-pop.next
    (record { number = c.in-Some-pop.next.number; mark = c.in-Some-pop.next.mark; turn = c.in_ok-turn-in-Some-pop.turn }) within here c.in-Some-pop.ensures.items (sym c.in-Some-next_number.ensures) refl one in
    subst (λ ls. size (at_number (Some c.in-Some-next_number.number) (tree nodes)) + later_size nodes ls < size (at_number c.walk.at (tree nodes)) + later_size nodes c.walk.later.items)
    (sym c.in_ok-push-in-Some-pop.ensures.items)
    (subst (λ o. size (at_number (Some c.in-Some-next_number.number) (tree nodes)) + later_size nodes (c.pop.new.self.items ++ record { number = c.in-Some-pop.next.number; mark = c.in-Some-pop.next.mark; turn = c.in_ok-turn-in-Some-pop.turn } ∷ []) < size (at_number o (tree nodes)) + later_size nodes c.walk.later.items)
    (sym c.in-None.is) (omega (arith, smaller)))

pub walk-preserved-in-Some-next_number : goal.walk-preserved-in-Some-next_number
walk-preserved-in-Some-next_number c =
    let nodes = c.args.parts.now.nodes in
    let whole = least c.args.first.now (body_faults c.args.protos.now c.args.funcs.now c.args.scope.now (tree nodes c.args.start)) in
    let walk = subst (λ o. Walking c.args.protos.now c.args.funcs.now c.args.parts.now whole c.walk.first c.walk.scope o c.walk.later.items) c.in-None.is c.walk.invariant in
    let within = popped_within c.args.protos.now c.args.funcs.now c.args.parts.now c.requires.numbered whole c.walk.first c.walk.scope c.walk.later.items c.pop.new.self.items c.in-Some-pop.next walk c.in-Some-pop.ensures.items in
    let here = read_at c.args.parts.now c.args.parts.now c.as_slice-nodes.result.now c.in-Some-pop.next.number c.index-nodes-next.result c.as_slice-nodes.ensures refl within c.index-nodes-next.is in
    let one : c.in_ok-turn-in-Some-pop.turn ≡ suc c.in-Some-pop.next.turn = omega (arith, c.in_ok-turn-in-Some-pop.ensures) in
    subst (Walking c.args.protos.now c.args.funcs.now c.args.parts.now whole c.bind_at.new.first c.bind_at.new.scope (Some c.in-Some-next_number.number)) (sym c.in_ok-push-in-Some-pop.ensures.items)
    (goes_on c.args.protos.now c.args.funcs.now c.args.parts.now c.requires.numbered whole c.walk.first c.bind_at.new.first c.walk.scope c.cut.new.self c.bind_at.new.scope c.index-nodes-next.result
    c.in-Some-next_number.number c.walk.later.items c.pop.new.self.items c.in-Some-pop.next (record { number = c.in-Some-pop.next.number; mark = c.in-Some-pop.next.mark; turn = c.in_ok-turn-in-Some-pop.turn })
    walk here c.in-Some-pop.ensures.items c.cut.ensures (sym c.in-Some-next_number.ensures) refl refl one c.in_ok-bind_at-in-Some-pop.ensures.first c.in_ok-bind_at-in-Some-pop.ensures.scope)

pub walk-smaller : goal.walk-smaller
walk-smaller c =
    let nodes = c.args.parts.now.nodes in
    let whole = least c.args.first.now (body_faults c.args.protos.now c.args.funcs.now c.args.scope.now (tree nodes c.args.start)) in
    let walk = subst (λ o. Walking c.args.protos.now c.args.funcs.now c.args.parts.now whole c.walk.first c.walk.scope o c.walk.later.items) c.in-None.is c.walk.invariant in
    let within = popped_within c.args.protos.now c.args.funcs.now c.args.parts.now c.requires.numbered whole c.walk.first c.walk.scope c.walk.later.items c.pop.new.self.items c.in-Some-pop.next walk c.in-Some-pop.ensures.items in
    let here = read_at c.args.parts.now c.args.parts.now c.as_slice-nodes.result.now c.in-Some-pop.next.number c.index-nodes-next.result c.as_slice-nodes.ensures refl within c.index-nodes-next.is in
    let smaller = leaves_smaller c.args.protos.now c.args.funcs.now c.args.parts.now c.requires.numbered c.index-nodes-next.result c.walk.later.items c.pop.new.self.items c.in-Some-pop.next within here
    c.in-Some-pop.ensures.items (sym c.in_default.ensures) in
    let falls : size (at_number c.walk.at (tree nodes)) + later_size nodes c.pop.new.self.items < size (at_number c.walk.at (tree nodes)) + later_size nodes c.walk.later.items = omega (arith, smaller) in
    falls

pub walk-preserved : goal.walk-preserved
walk-preserved c =
    let nodes = c.args.parts.now.nodes in
    let whole = least c.args.first.now (body_faults c.args.protos.now c.args.funcs.now c.args.scope.now (tree nodes c.args.start)) in
    let walk = subst (λ o. Walking c.args.protos.now c.args.funcs.now c.args.parts.now whole c.walk.first c.walk.scope o c.walk.later.items) c.in-None.is c.walk.invariant in
    let within = popped_within c.args.protos.now c.args.funcs.now c.args.parts.now c.requires.numbered whole c.walk.first c.walk.scope c.walk.later.items c.pop.new.self.items c.in-Some-pop.next walk c.in-Some-pop.ensures.items in
    let here = read_at c.args.parts.now c.args.parts.now c.as_slice-nodes.result.now c.in-Some-pop.next.number c.index-nodes-next.result c.as_slice-nodes.ensures refl within c.index-nodes-next.is in
    subst (λ o. Walking c.args.protos.now c.args.funcs.now c.args.parts.now whole c.walk.first c.cut.new.self o c.pop.new.self.items) (sym c.in-None.is)
    (leaves c.args.protos.now c.args.funcs.now c.args.parts.now c.requires.numbered whole c.walk.first c.walk.scope c.cut.new.self c.index-nodes-next.result c.walk.later.items c.pop.new.self.items c.in-Some-pop.next walk here
    c.in-Some-pop.ensures.items c.cut.ensures (sym c.in_default.ensures))
