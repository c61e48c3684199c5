use Rattle.std.proofs.Common.{◌≡◌, false, nat_eq, min, length, map, refl, sym, ◌∙◌, arith}
use Rattle.std.proofs.lemmas.Bool.Decides.{nat_tests}
use Rattle.chan_syntax.specs.Reading.{supply_of}
use Rattle.outline_language.specs.Giving.{give_all}
use Rattle.value_supplies.specs.Reading.{given_at}
use Rattle.value_supplies.proofs.Uneven.{one_ends_first}
use Rattle.value_supplies.proofs.listing.give_all.Goals as goal

pub returns-then-values-shapes-clause-err : goal.returns-then-values-shapes-clause-err
returns-then-values-shapes-clause-err c =
    let apart : nat_eq (length c.args.values.now) (length c.args.shapes.now) ≡ false = grind (arith, nat_tests, c.if-values-shapes.true) in
    let end : c.loop-index.index ≡ min (length c.args.values.now) (length c.args.shapes.now) = omega (arith, c.loop-index-test.false, c.loop-index.auto.index-end, c.min-index-end.ensures) in
    sym c.loop-index.invariant.rest
    ∙ one_ends_first (λ vs ss. give_all c.args.forms.now (map supply_of vs) ss (given_at c.loop-index.ctx c.args.proof.now c.loop-index.now)) (λ v vs. refl) (λ s ss. refl) c.args.values.now c.args.shapes.now c.loop-index.index apart end
