use Rattle.std.proofs.Common.{◌≡◌, ℕ, Bool, ◌+◌, ◌*◌, ◌||◌, ◌<◌, suc, drop, refl, sym, ap, ◌∙◌, arith}
use Rattle.std.specs.List.{list_any}
use Rattle.std.proofs.lemmas.Bool.{or_left}
use Rattle.core_language.specs.Configurations.{names}
use Rattle.core_programs.specs.Bodies.{rest}
use Rattle.core_programs.specs.Following.{size}
use Rattle.core_programs.specs.Formed.{nexts}
use Rattle.core_programs.proofs.Forests.{read_at}
use Rattle.core_programs.proofs.Later.{falls, names_later, names_first, names_none}
use Rattle.core_programs.proofs.Spans.{named_at}
use Rattle.core_programs.proofs.Turns.{any_at}
use Rattle.core_programs.proofs.naming.+has_use.Goals as goal

pub has_later_use-has_use-requires : goal.has_later_use-has_use-requires
has_later_use-has_use-requires t c =
    let nodes = c.args.parts.now.nodes in
    let node = c.index-nodes-number.result in
    let here = read_at c.args.parts.now c.args.parts.now c.as_slice-nodes.result.now c.args.number node c.as_slice-nodes.ensures refl c.requires.within c.index-nodes-number.is in
    let less = falls c.args.parts.now c.requires.numbered c.args.number node c.turns.turn c.in-Some.next c.requires.within here (sym c.in-Some.ensures) in
    let smaller : 2 * size (rest nodes c.in-Some.next) + 1 < t = omega (arith, less, c.decreases) in
    (smaller, (c.requires.numbered, (c.requires.numbered.follow c.args.number node here c.turns.turn c.in-Some.next (sym c.in-Some.ensures), c.requires.ascending)))

pub has_later_use-returns-then-has_use : goal.has_later_use-returns-then-has_use
has_later_use-returns-then-has_use t c = λ x are.
    let named : ℕ → Bool = λ n. names (rest c.args.parts.now.nodes n) x in
    sym (sym (c.turns.invariant x are) ∙ any_at named (nexts c.index-nodes-number.result) c.turns.turn c.in-Some.next (sym c.in-Some.ensures)
    ∙ or_left (named c.in-Some.next) _ (sym (c.has_use.ensures x are) ∙ c.if-has_use.true))

pub has_later_use-turns-preserved : goal.has_later_use-turns-preserved
has_later_use-turns-preserved t c = λ x are.
    let named : ℕ → Bool = λ n. names (rest c.args.parts.now.nodes n) x in
    let ns = nexts c.index-nodes-number.result in
    let shifted : c.turns.turn + 1 ≡ suc c.turns.turn = omega arith in
    ap (λ k. list_any named (drop k ns)) shifted
    ∙ sym (ap (λ b. b || list_any named (drop (suc c.turns.turn) ns)) (sym (c.has_use.ensures x are) ∙ c.if-has_use.false))
    ∙ sym (any_at named ns c.turns.turn c.in-Some.next (sym c.in-Some.ensures)) ∙ c.turns.invariant x are

pub has_use-returns-then-has_between : goal.has_use-returns-then-has_between
has_use-returns-then-has_between t c = λ x are.
    let (within, same, small) = c.nodes.invariant in
    let here = read_at c.args.parts.now c.args.parts.now c.as_slice-nodes.result.now c.nodes.at c.index-nodes-at.result c.as_slice-nodes.ensures refl within c.index-nodes-at.is in
    sym (named_at c.args.parts.now c.requires.numbered x c.args.numbers.now c.nodes.at c.index-nodes-at.result are within here ∙ or_left _ _ (sym c.has_between.ensures ∙ c.if-has_between.true)) ∙ same x are

pub has_use-returns-then-has_later_use : goal.has_use-returns-then-has_later_use
has_use-returns-then-has_later_use t c = λ x are.
    let (within, same, small) = c.nodes.invariant in
    let here = read_at c.args.parts.now c.args.parts.now c.as_slice-nodes.result.now c.nodes.at c.index-nodes-at.result c.as_slice-nodes.ensures refl within c.index-nodes-at.is in
    sym (names_later c.args.parts.now c.requires.numbered x c.args.numbers.now c.nodes.at c.index-nodes-at.result are within here (sym c.has_between.ensures ∙ c.if-has_between.false) (sym (c.has_later_use.ensures x are) ∙ c.if-has_later_use.true)) ∙ same x are

pub has_use-nodes-smaller : goal.has_use-nodes-smaller
has_use-nodes-smaller t c =
    let (within, same, small) = c.nodes.invariant in
    let here = read_at c.args.parts.now c.args.parts.now c.as_slice-nodes.result.now c.nodes.at c.index-nodes-at.result c.as_slice-nodes.ensures refl within c.index-nodes-at.is in
    falls c.args.parts.now c.requires.numbered c.nodes.at c.index-nodes-at.result 0 c.in-Some.next within here (sym c.in-Some.ensures)

pub has_use-nodes-preserved : goal.has_use-nodes-preserved
has_use-nodes-preserved t c =
    let (within, same, small) = c.nodes.invariant in
    let here = read_at c.args.parts.now c.args.parts.now c.as_slice-nodes.result.now c.nodes.at c.index-nodes-at.result c.as_slice-nodes.ensures refl within c.index-nodes-at.is in
    let less = falls c.args.parts.now c.requires.numbered c.nodes.at c.index-nodes-at.result 0 c.in-Some.next within here (sym c.in-Some.ensures) in (
      c.requires.numbered.follow c.nodes.at c.index-nodes-at.result here 0 c.in-Some.next (sym c.in-Some.ensures),
      λ x are. sym (names_first c.args.parts.now c.requires.numbered x c.args.numbers.now c.nodes.at c.index-nodes-at.result are within here c.in-Some.next (sym c.has_between.ensures ∙ c.if-has_between.false)
          (sym (c.has_later_use.ensures x are) ∙ c.if-has_later_use.false) (sym c.in-Some.ensures)) ∙ same x are,
      omega (arith, less, small),
    )

pub has_use-returns-in-None : goal.has_use-returns-in-None
has_use-returns-in-None t c = λ x are.
    let (within, same, small) = c.nodes.invariant in
    let here = read_at c.args.parts.now c.args.parts.now c.as_slice-nodes.result.now c.nodes.at c.index-nodes-at.result c.as_slice-nodes.ensures refl within c.index-nodes-at.is in
    sym (names_none c.args.parts.now c.requires.numbered x c.args.numbers.now c.nodes.at c.index-nodes-at.result are within here (sym c.has_between.ensures ∙ c.if-has_between.false) (sym c.in-None.ensures)) ∙ same x are
