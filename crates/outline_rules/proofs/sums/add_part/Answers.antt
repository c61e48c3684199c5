use Rattle.std.proofs.Common.{rules, ◌≡◌, ◌+◌, ◌≤◌, ◌<◌, ◌^◌, ℕ, unsigned_abs, ap, ◌∙◌, sym, [], length, ◌+ℤ◌, ◌*ℤ◌, arith}
use Rattle.std.proofs.lemmas.List.{length-set}
use Rattle.std.proofs.lemmas.List.Elements.{All-set}
use Rattle.std.proofs.lemmas.List.Quantifiers.{position-Some}
use Rattle.linear_forms.specs.Terms.{times_of}
use Rattle.chan_syntax.specs.Reading.{part_of}
use Rattle.wide_sums.proofs.Sizes.{kept}
use Rattle.outline_rules.specs.Sums.{IsWithin}
use Rattle.outline_rules.proofs.Ranges.{unchanged}
use Rattle.outline_rules.proofs.Adding.{place_adds, nowhere_adds, name_adds, nothing, whole, grown}
use Rattle.outline_rules.proofs.sums.add_part.Goals as goal

pub returns-in-None-clause-adds : goal.returns-in-None-clause-adds
returns-in-None-clause-adds c = record {
  coefficients = λ f e. rw c.in-None.is (e ∙ unchanged _ f _ (λ j. nothing c.args.weight (times_of (part_of c.args.part.now))));
  constant = rw (c.in-None.is, whole c.args.weight (times_of (part_of c.args.part.now))) (search rules);
}

sum_is : (c : goal.After-sums-1) → c.add_product-in-Some-place_of.new.self ≡ c.index_mut.result.now +ℤ (c.args.weight *ℤ times_of (part_of c.args.part.now))
sum_is c = rw (kept c.args.weight (omega arith), kept c.times-in-Some-place_of.result (omega arith), c.times-in-Some-place_of.ensures.value) at c.add_product-in-Some-place_of.ensures

pub returns-in-Some-place_of-clause-adds : goal.returns-in-Some-place_of-clause-adds
returns-in-Some-place_of-clause-adds c = record {
  coefficients = λ f e. place_adds c.args.ints.now c.args.part.now.name _ c.in-Some-place_of.place c.args.weight (times_of (part_of c.args.part.now)) _ c.index_mut.result.now f c.args.sums.now.coefficients.items c.in-Some.is (sym c.place_of.ensures ∙ c.in-Some-place_of.is) (sum_is c ∙ ap (λ z. z +ℤ (c.args.weight *ℤ times_of (part_of c.args.part.now))) c.index_mut.ensures.value) e;
  constant = name_adds c.args.part.now.name _ c.args.weight (times_of (part_of c.args.part.now)) _ c.in-Some.is;
}

pub returns-in_default-clause-adds : goal.returns-in_default-clause-adds
returns-in_default-clause-adds c = record {
  coefficients = λ f e. nowhere_adds c.args.ints.now c.args.part.now.name _ c.args.weight (times_of (part_of c.args.part.now)) f c.args.sums.now.coefficients.items c.in-Some.is (sym c.place_of.ensures ∙ c.in_default.is) e;
  constant = name_adds c.args.part.now.name _ c.args.weight (times_of (part_of c.args.part.now)) _ c.in-Some.is;
}

pub returns-in-Some-place_of-clause-within : goal.returns-in-Some-place_of-clause-within
returns-in-Some-place_of-clause-within c = λ size w. record {
  count = rw (length-set c.args.sums.now.coefficients.items c.in-Some-place_of.place c.add_product-in-Some-place_of.new.self) w.count;
  coefficients = All-set (λ z. unsigned_abs z ≤ size + 2 ^ 126) c.args.sums.now.coefficients.items c.in-Some-place_of.place c.add_product-in-Some-place_of.new.self (new size w) (λ k d h. let old = w.coefficients k d h in omega arith);
  constant = omega (arith, w.constant);
}
  where
    place_below : c.in-Some-place_of.place < length c.args.sums.now.coefficients.items
    place_below = rw c.requires.within.count (position-Some _ c.args.ints.now c.in-Some-place_of.place [] (sym c.place_of.ensures ∙ c.in-Some-place_of.is)).0

    new : (size : ℕ) → IsWithin (length c.args.ints.now) size c.args.sums.now → unsigned_abs c.add_product-in-Some-place_of.new.self ≤ size + 2 ^ 126
    new size w =
        let old : unsigned_abs c.index_mut.result.now ≤ size = rw c.index_mut.ensures.value (w.coefficients c.in-Some-place_of.place c.index_mut.result.now place_below) in
        let times_small : unsigned_abs (times_of (part_of c.args.part.now)) ≤ 2 ^ 63 = rw c.times-in-Some-place_of.ensures.value at c.times-in-Some-place_of.ensures.bound in
        rw (sum_is c) (grown c.index_mut.result.now c.args.weight (times_of (part_of c.args.part.now)) size old c.requires.weight times_small)
