use Rattle.std.proofs.Common.{rules, ◌≡◌, to_z, of_z, w64, ◌∙◌, arith}
use Rattle.outline_language.specs.LinearForms.{Free}
use Rattle.nameless_forms.specs.Counts.{count_in}
use Rattle.nameless_forms.proofs.Loops.{numbers_more, narrow_more}
use Rattle.nameless_forms.proofs.sums.coefficients_of.Goals as goal

pub loop-place-preserved : goal.loop-place-preserved
loop-place-preserved c =
    let (number, fit) = c.in_ok-coefficient.ensures in
    let kept : to_z w64 (of_z w64 c.in_ok-coefficient.field-0) ≡ c.in_ok-coefficient.field-0 = search rules in
    record {
      within = omega (arith, c.loop-place-test.true);
      numbers = numbers_more (λ i. count_in (Free i) c.args.counts.now.entries) c.loop-place.coefficients _ _ c.loop-place.place c.args.variables _ c.loop-place-test.true c.in_ok-push.ensures.ok (kept ∙ number) c.loop-place.invariant.numbers;
      narrow = narrow_more (λ i. count_in (Free i) c.args.counts.now.entries) c.loop-place.place c.args.variables _ c.loop-place-test.true fit c.loop-place.invariant.narrow;
    }
