use Rattle.std.proofs.Common.{◌≡◌, ◌<◌, ◌+◌, ◌++◌, ◌∷◌, [], List, None, Some, Ok, length, sym, ◌∙◌, subst, arith}
use Rattle.core_programs.specs.declared.nodes.Parts.{Parts}
use Rattle.outline_language.specs.Contexts.{Context}
use Rattle.outline_walk.specs.declared.walking.Later.{Later}
use Rattle.outline_walk.specs.Forms.{Setting, form_at, picked}
use Rattle.outline_walk.specs.Walking.{Walking, left_size}
use Rattle.outline_walk.proofs.Walks.{opens_in, waits, opens_next, goes, leaves, size_goes, size_leaves}
use Rattle.outline_walk.proofs.walking.go_on.Goals as goal

pub node-node-requires : goal.node-node-requires
node-node-requires g c =
    let s = g.C.Outlining.setting c.args.outline.now in
    let at_hand = waits s (g.C.Outlining.saved c.args.outline.now) (g.C.Outlining.saved c.go_back.new.self) (g.C.Outlining.context c.go_back.new.self) c.args.later.now.items c.args.next c.requires.waiting c.go_back.ensures.saved in
    subst (λ (p : Parts). c.args.next.number < length p.nodes) c.requires.setting at_hand.0.1

pub pick-requires : goal.pick-requires
pick-requires g c =
    let s = g.C.Outlining.setting c.args.outline.now in
    let x = c.node-node.result.now in
    let at_hand = waits s (g.C.Outlining.saved c.args.outline.now) (g.C.Outlining.saved c.go_back.new.self) (g.C.Outlining.context c.go_back.new.self) c.args.later.now.items c.args.next c.requires.waiting c.go_back.ensures.saved in
    let opens = opens_in s c.args.program.now c.args.next.number x c.requires.setting c.node-node.ensures.opens in
    subst (λ (t : Setting). (after : Context) × (picked (g.C.Outlining.context c.save.new.self) (form_at t x) c.args.next.turn ≡ Ok after)) (sym (c.save.ensures.setting ∙ c.go_back.ensures.setting))
    (subst (λ (k : Context). (after : Context) × (picked k (form_at s x) c.args.next.turn ≡ Ok after)) (sym c.save.ensures.context)
    (opens_next s (g.C.Outlining.context c.go_back.new.self) c.args.next x c.in-Some.number at_hand.1 opens (sym c.in-Some.ensures.number)))

pub returns-in-None-clause-walks : goal.returns-in-None-clause-walks
returns-in-None-clause-walks g c = λ whole best walk.
    let s = g.C.Outlining.setting c.args.outline.now in
    leaves s whole best (g.C.Outlining.context c.args.outline.now) (g.C.Outlining.saved c.args.outline.now) (g.C.Outlining.saved c.go_back.new.self) (g.C.Outlining.context c.go_back.new.self)
    c.args.later.now.items c.args.next c.node-node.result.now walk c.go_back.ensures.saved
    (opens_in s c.args.program.now c.args.next.number c.node-node.result.now c.requires.setting c.node-node.ensures.opens) (sym c.in-None.ensures.number)

pub returns-in-None-clause-smaller : goal.returns-in-None-clause-smaller
returns-in-None-clause-smaller g c = size_leaves (g.C.Outlining.setting c.args.outline.now) c.args.later.now.items c.args.next

pub returns-in_ok-pick-in-Some-clause-walks : goal.returns-in_ok-pick-in-Some-clause-walks
returns-in_ok-pick-in-Some-clause-walks g c = λ whole best walk.
    let s = g.C.Outlining.setting c.args.outline.now in
    let x = c.node-node.result.now in
    let opens = opens_in s c.args.program.now c.args.next.number x c.requires.setting c.node-node.ensures.opens in
    let below = subst (λ (p : Parts). c.in-Some.number < length p.nodes) (sym c.requires.setting) (c.node-node.ensures.leads c.args.next.turn c.in-Some.number (sym c.in-Some.ensures.number)) in
    let picks : picked (g.C.Outlining.context c.go_back.new.self) (form_at s x) c.args.next.turn ≡ Ok (g.C.Outlining.context c.pick.new.self) =
    subst (λ (t : Setting). picked (g.C.Outlining.context c.go_back.new.self) (form_at t x) c.args.next.turn ≡ Ok (g.C.Outlining.context c.pick.new.self)) (c.save.ensures.setting ∙ c.go_back.ensures.setting)
    (subst (λ (k : Context). picked k (form_at (g.C.Outlining.setting c.save.new.self) x) c.args.next.turn ≡ Ok (g.C.Outlining.context c.pick.new.self)) c.save.ensures.context c.in_ok-pick-in-Some.ensures.picked) in
    subst (λ (ss : List Context). Walking s whole best (g.C.Outlining.context c.pick.new.self) ss (Some c.in-Some.number) c.push.new.self.items) (sym (c.pick.ensures.saved ∙ c.in_ok-save-in-Some.ensures.saved))
    (subst (λ (ls : List Later). Walking s whole best (g.C.Outlining.context c.pick.new.self) (g.C.Outlining.saved c.go_back.new.self ++ g.C.Outlining.context c.go_back.new.self ∷ []) (Some c.in-Some.number) ls)
    (sym c.in_ok-push-in-Some.ensures.items)
    (goes s whole best (g.C.Outlining.context c.args.outline.now) (g.C.Outlining.saved c.args.outline.now) (g.C.Outlining.saved c.go_back.new.self) (g.C.Outlining.context c.go_back.new.self)
    c.args.later.now.items c.args.next x walk c.go_back.ensures.saved opens c.in-Some.number (g.C.Outlining.context c.pick.new.self) (c.args.next.turn + 1) (sym c.in-Some.ensures.number) below picks (omega arith)))

pub returns-in_ok-pick-in-Some-clause-smaller : goal.returns-in_ok-pick-in-Some-clause-smaller
returns-in_ok-pick-in-Some-clause-smaller g c =
    let s = g.C.Outlining.setting c.args.outline.now in
    let opens = opens_in s c.args.program.now c.args.next.number c.node-node.result.now c.requires.setting c.node-node.ensures.opens in
    subst (λ (ls : List Later). left_size s (Some c.in-Some.number) ls < left_size s None (c.args.later.now.items ++ c.args.next ∷ [])) (sym c.in_ok-push-in-Some.ensures.items)
    (size_goes s c.args.later.now.items c.args.next c.node-node.result.now c.in-Some.number (c.args.next.turn + 1) opens (sym c.in-Some.ensures.number) (omega arith))
