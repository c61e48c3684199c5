use Rattle.std.proofs.Common.{rules, ◌+◌, [], ◌∷◌, ◌++◌, map, take, ap, sym, subst, ◌∙◌}
use Rattle.std.proofs.lemmas.List.{map-append}
use Rattle.std.specs.List.{list_all}
use Rattle.chan_syntax.specs.declared.surface_tree.Last.{the_lemmas}
use Rattle.core_programs.specs.declared.nodes.Arm.{Arm}
use Rattle.core_trees.specs.Core.{is_core_stmt, is_core_last, is_core_block, is_core_arm}
use Rattle.core_numbering.specs.Numbering.{StmtsAt, EndsAt, AreArmsAt}
use Rattle.core_numbering.specs.Rooted.{AddsAll}
use Rattle.core_trees.proofs.CoreBlocks.{core_stmts, core_last, core_if, core_match, this_core, other_core}
use Rattle.core_numbering.proofs.Taken.{first_core, later_core, took}
use Rattle.core_numbering.proofs.Grown.{added_both, added_more, added_block, kept_body, kept_bodies, kept_last, arms_more}
use Rattle.core_numbering.proofs.numbering.+numbering.Goals as goal

pub number_block-number_last-requires : goal.number_block-number_last-requires
number_block-number_last-requires t c =
    (search (rules, the_lemmas), ap is_core_last c.get.ensures ∙ core_last c.args.block.now c.requires.core)

pub number_block-number_stmts-requires : goal.number_block-number_stmts-requires
number_block-number_stmts-requires t c = record { core = ap (list_all is_core_stmt) c.as_slice.ensures ∙ core_stmts c.args.block.now c.requires.core }

pub number_block-returns-clause-adds : goal.number_block-returns-clause-adds
number_block-returns-clause-adds t c =
    added_block c.args.nodes.now c.number_last.new.nodes c.number_stmts.new.nodes c.in_ok-last.last c.in_ok-first.first c.in_ok-last.ensures.adds c.in_ok-first.ensures.adds

pub number_block-returns-clause-body : goal.number_block-returns-clause-body
number_block-returns-clause-body t c =
    let adds = c.in_ok-first.ensures.adds in
    let ends = subst (λ l. EndsAt c.number_last.new.nodes l c.in_ok-last.last) c.get.ensures c.in_ok-last.ensures.body in (
      c.in_ok-last.last,
      subst (λ ss. StmtsAt c.number_stmts.new.nodes ss c.in_ok-first.first c.in_ok-last.last) c.as_slice.ensures c.in_ok-first.ensures.body,
      subst (λ ns. EndsAt ns c.args.block.now.last c.in_ok-last.last) (sym adds.longer) (kept_last c.number_last.new.nodes adds.more c.args.block.now.last c.in_ok-last.last ends),
    )

pub number_last-number_block-requires : goal.number_last-number_block-requires
number_last-number_block-requires t c =
    let core = sym (core_if c.in-If.left c.in-If.right c.in-If.yes c.in-If.no c.in-If.span) ∙ ap is_core_last (sym c.in-If.is) ∙ c.requires.core in
    (search (rules, the_lemmas), this_core (is_core_block c.in-If.yes) (is_core_block c.in-If.no) core)

pub number_last-number_block-requires-in-If : goal.number_last-number_block-requires-in-If
number_last-number_block-requires-in-If t c =
    let core = sym (core_if c.in-If.left c.in-If.right c.in-If.yes c.in-If.no c.in-If.span) ∙ ap is_core_last (sym c.in-If.is) ∙ c.requires.core in
    (search (rules, the_lemmas), other_core (is_core_block c.in-If.yes) (is_core_block c.in-If.no) core)

pub number_last-number_arms-requires : goal.number_last-number_arms-requires
number_last-number_arms-requires t c =
    let core = sym (core_match c.in-Match.name c.in-Match.name_span c.in-Match.arms c.in-Match.span) ∙ ap is_core_last (sym c.in-Match.is) ∙ c.requires.core in
    (search (rules, the_lemmas), ap (list_all is_core_arm) c.as_slice.ensures ∙ core)

pub number_last-returns-in_ok-number-in-If-clause-adds : goal.number_last-returns-in_ok-number-in-If-clause-adds
number_last-returns-in_ok-number-in-If-clause-adds t c =
    c.in_ok-number-in-If.ensures.adds c.args.nodes.now
    (added_both c.args.nodes.now c.number_block.new.nodes c.number_block-in-If.new.nodes c.in_ok-yes-in-If.yes c.in_ok-no-in-If.no c.in_ok-yes-in-If.ensures.adds c.in_ok-no-in-If.ensures.adds)

pub number_last-returns-in_ok-number-in-If-clause-body : goal.number_last-returns-in_ok-number-in-If-clause-body
number_last-returns-in_ok-number-in-If-clause-body t c =
    let adds = c.in_ok-no-in-If.ensures.adds in
    let first = kept_body c.number_block.new.nodes c.number_block-in-If.new.nodes adds.more c.in-If.yes c.in_ok-yes-in-If.yes adds.longer c.in_ok-yes-in-If.ensures.body in
    subst (λ l. EndsAt c.add_if.new.nodes l c.in_ok-number-in-If.number) (sym c.in-If.is) (c.in_ok-number-in-If.ensures.body c.in-If.yes c.in-If.no first c.in_ok-no-in-If.ensures.body)

pub number_last-returns-in_ok-number-in-Match-clause-adds : goal.number_last-returns-in_ok-number-in-Match-clause-adds
number_last-returns-in_ok-number-in-Match-clause-adds t c = c.in_ok-number-in-Match.ensures.adds c.args.nodes.now c.in_ok-arms-in-Match.ensures.adds

pub number_last-returns-in_ok-number-in-Match-clause-body : goal.number_last-returns-in_ok-number-in-Match-clause-body
number_last-returns-in_ok-number-in-Match-clause-body t c =
    let all = subst (λ xs. AreArmsAt c.number_arms.new.nodes xs c.in_ok-arms-in-Match.arms) c.as_slice.ensures c.in_ok-arms-in-Match.ensures.body in
    subst (λ l. EndsAt c.add_match.new.nodes l c.in_ok-number-in-Match.number) (sym c.in-Match.is) (c.in_ok-number-in-Match.ensures.body c.in-Match.arms all)

pub number_arms-number_block-requires : goal.number_arms-number_block-requires
number_arms-number_block-requires t c =
    let core = first_core c.args.arms.now c.loop-arm.arm-index c.arm-item.result c.loop-arm-test.true (sym c.arm-item.is) c.loop-arm.invariant.0 in
    (search (rules, the_lemmas), core)

pub number_arms-loop-arm-preserved : goal.number_arms-loop-arm-preserved
number_arms-loop-arm-preserved t c =
    let adds = c.in_ok-next.ensures.adds in
    let push = c.in_ok-push.ensures.ok in
    let arm : Arm = record { pat = c.in_ok-pat.pat; next = c.in_ok-next.next } in
    let before = kept_bodies c.loop-arm.nodes c.number_block.new.nodes adds.more (take c.loop-arm.arm-index c.args.arms.now) c.loop-arm.numbered adds.longer c.loop-arm.invariant.2 in
    let stood = arms_more c.number_block.new.nodes (take c.loop-arm.arm-index c.args.arms.now) c.loop-arm.numbered c.arm-item.result arm before c.in_ok-pat.ensures c.in_ok-next.ensures.body in
    let grown = added_more c.args.nodes.now c.loop-arm.nodes c.number_block.new.nodes (map (λ a. a.next) c.loop-arm.numbered) c.in_ok-next.next c.loop-arm.invariant.1 adds in (
      later_core c.args.arms.now c.loop-arm.arm-index c.arm-item.result c.loop-arm-test.true (sym c.arm-item.is) c.loop-arm.invariant.0,
      subst (AddsAll c.args.nodes.now c.number_block.new.nodes) (sym (ap (map (λ a. a.next)) push ∙ map-append (λ a. a.next) c.loop-arm.numbered (arm ∷ []))) grown,
      subst (λ all. AreArmsAt c.number_block.new.nodes (take (c.loop-arm.arm-index + 1) c.args.arms.now) all) (sym push) (subst (λ xs. AreArmsAt c.number_block.new.nodes xs (c.loop-arm.numbered ++ arm ∷ [])) (took c.args.arms.now c.loop-arm.arm-index c.arm-item.result c.loop-arm-test.true (sym c.arm-item.is)) stood),
    )
