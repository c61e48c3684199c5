use Rattle.std.proofs.Common.{◌≡◌, ◌<◌, ℕ, List, None, Some, length, ap, sym, subst, rules, arith}
use Rattle.name_texts.proofs.Digits.{found_and, found_if, no_items, none_found}
use Rattle.name_texts.proofs.Reading.{Reads, ends, goes_on, stops}
use Rattle.name_texts.proofs.names.read_parts.Goals as goal

pub returns-in_default : goal.returns-in_default
returns-in_default c =
    let some : 0 < length c.parts.rest.now = grind (arith, c.is_empty.ensures, c.parts-test.true) in
    let none : c.next_part.result ≡ None = search rules in
    stops c.args.text.now c.parts.name c.parts.rest.now c.parts.invariant (λ e. let nil : length c.parts.rest.now ≡ 0 = ap (λ (r : List ℕ). length r) e in absurd (omega arith))
    (λ j parts small is. none_found _ c.next_part.result (c.next_part.ensures.complete j parts small is) none)

pub parts-preserved : goal.parts-preserved
parts-preserved c =
    let some : 0 < length c.parts.rest.now = grind (arith, c.is_empty.ensures, c.parts-test.true) in
    let found : c.next_part.result ≡ Some (c.in-Some.part, c.in-Some.more) = search rules in
    let sound = found_if _ c.next_part.result (c.in-Some.part, c.in-Some.more) c.next_part.ensures.sound found in
    subst (λ (n : List ℕ). Reads c.args.text.now n c.in-Some.more.now) (sym c.in_ok-name.ensures)
    (goes_on c.args.text.now c.parts.name c.parts.rest.now c.in-Some.more.now c.in-Some.part c.parts.invariant
    (grind (arith, c.if-parts-lt-MOST_PARTS.true, c.parts-in-parts.ensures))
    (λ e. let nil : length c.parts.rest.now ≡ 0 = ap (λ (r : List ℕ). length r) e in absurd (omega arith))
    sound.0 sound.1
    (λ j parts small is.
    let told = found_and _ c.next_part.result (c.in-Some.part, c.in-Some.more) (c.next_part.ensures.complete j parts small is) found in
    (sym told.0, sym told.1)))

pub returns-then-is_empty : goal.returns-then-is_empty
returns-then-is_empty c =
    let nil : length c.parts.rest.now ≡ 0 = grind (arith, c.is_empty-2.ensures, c.if-is_empty.true) in
    ends c.args.text.now c.parts.name c.parts.rest.now c.parts.invariant (no_items c.parts.rest.now nil)
