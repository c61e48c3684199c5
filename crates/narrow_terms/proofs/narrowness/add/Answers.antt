use Rattle.std.proofs.Common.{◌≡◌, ◌+ℤ◌, Some, refl, sym, ap, ◌∙◌}
use Rattle.std.specs.Int.{w128}
use mir.Val.{to_z, of_z}
use Rattle.std.proofs.lemmas.Int.{to_z-of_z}
use Rattle.linear_forms.specs.Terms.{times_of}
use Rattle.chan_syntax.specs.Reading.{part_of}
use Rattle.narrow_terms.specs.Sums.{count_in}
use Rattle.narrow_terms.proofs.Adding.{bare_adds, named_adds, grows_within, sum_fits}
use Rattle.narrow_terms.proofs.narrowness.add.Goals as goal

pub returns-in-None-clause-adds : goal.returns-in-None-clause-adds
returns-in-None-clause-adds c =
    bare_adds (part_of c.args.part.now) c.args.sums.now _ (times_of (part_of c.args.part.now)) c.in-None.is c.add_constant.ensures.counts c.add_constant.ensures.constant refl

pub returns-in-None-clause-within : goal.returns-in-None-clause-within
returns-in-None-clause-within c size within =
    grows_within (part_of c.args.part.now) c.args.sums.now _ size
    (bare_adds (part_of c.args.part.now) c.args.sums.now _ (times_of (part_of c.args.part.now)) c.in-None.is c.add_constant.ensures.counts c.add_constant.ensures.constant refl)
    c.add_constant.ensures.bound within

pub returns-in_ok-insert-in-Some-clause-adds : goal.returns-in_ok-insert-in-Some-clause-adds
returns-in_ok-insert-in-Some-clause-adds c =
    let key : c.in_ok-key-in-Some.key ≡ c.in-Some.name = c.in_ok-key-in-Some.ensures in
    let fits = sum_fits (count_in c.args.sums.now c.in-Some.name) (times_of (part_of c.args.part.now)) c.added-sum.result c.added-sum.ensures.value (c.requires.counts c.in-Some.name) c.added-sum.ensures.bound in
    named_adds (part_of c.args.part.now) c.args.sums.now _ c.in_ok-key-in-Some.key (to_z w128 (of_z w128 c.added-sum.result)) (c.in-Some.is ∙ ap Some (sym key)) c.in_ok-insert-in-Some.ensures.updates
    (to_z-of_z w128 c.added-sum.result fits ∙ c.added-sum.ensures.value ∙ ap (λ x. count_in c.args.sums.now x +ℤ times_of (part_of c.args.part.now)) (sym key)) refl

pub returns-in_ok-insert-in-Some-clause-within : goal.returns-in_ok-insert-in-Some-clause-within
returns-in_ok-insert-in-Some-clause-within c size within =
    let key : c.in_ok-key-in-Some.key ≡ c.in-Some.name = c.in_ok-key-in-Some.ensures in
    let fits = sum_fits (count_in c.args.sums.now c.in-Some.name) (times_of (part_of c.args.part.now)) c.added-sum.result c.added-sum.ensures.value (c.requires.counts c.in-Some.name) c.added-sum.ensures.bound in
    grows_within (part_of c.args.part.now) c.args.sums.now _ size
    (named_adds (part_of c.args.part.now) c.args.sums.now _ c.in_ok-key-in-Some.key (to_z w128 (of_z w128 c.added-sum.result)) (c.in-Some.is ∙ ap Some (sym key)) c.in_ok-insert-in-Some.ensures.updates
    (to_z-of_z w128 c.added-sum.result fits ∙ c.added-sum.ensures.value ∙ ap (λ x. count_in c.args.sums.now x +ℤ times_of (part_of c.args.part.now)) (sym key)) refl)
    c.added-sum.ensures.bound within
