use Rattle.std.proofs.Common.{◌≡◌, ◌+ℤ◌, ◌*ℤ◌, ◌∙◌, ap, arith}
use Rattle.wide_sums.proofs.Sizes.{kept}
use Rattle.substitution.specs.Sums.{sum_at}
use Rattle.substitution.proofs.Added.{added_name, name_within, product_size}
use Rattle.substitution.proofs.Tokens.{added_place}
use Rattle.substitution.proofs.summands.Summands.add_name.Goals as goal

sum_is : (c : goal.In_ok-insert) → c.add_product.new.self ≡ sum_at c.args.self.now c.args.name.now +ℤ (c.args.weight *ℤ c.args.times)
sum_is c =
    let product = rw (kept c.args.weight (omega arith), kept c.args.times (omega arith)) at c.add_product.ensures in
    product ∙ ap (λ z. z +ℤ (c.args.weight *ℤ c.args.times)) c.take-summand.ensures.sum

pub returns-clause-sums : goal.returns-clause-sums
returns-clause-sums c = λ sum h. added_name c.args.self.now c.take-summand.new.self _ c.args.name.now _ (c.args.weight *ℤ c.args.times) c.take-summand.ensures.others (rw c.in_ok-copy.ensures at c.in_ok-insert.ensures.updates) (sum_is c) c.take-summand.ensures.constant sum h

pub returns-clause-within : goal.returns-clause-within
returns-clause-within c = λ size h. name_within c.args.self.now c.take-summand.new.self _ c.args.name.now _ (c.args.weight *ℤ c.args.times) c.take-summand.ensures.others (rw c.in_ok-copy.ensures at c.in_ok-insert.ensures.updates) (sum_is c) size c.take-summand.ensures.constant (product_size c.args.weight c.args.times c.requires.weight c.requires.times) h

pub returns-clause-places : goal.returns-clause-places
returns-clause-places c = λ tokens h. added_place c.args.self.now c.take-summand.new.self (record { named = c.insert.new.self; constant = c.take-summand.new.self.constant }) c.args.name.now c.args.span _ c.take-summand.ensures.other_spans (rw c.in_ok-copy.ensures at c.in_ok-insert.ensures.updates) c.take-summand.ensures.span tokens h
