use Rattle.std.proofs.Common.{◌≡◌, ◌+ℤ◌, ◌*ℤ◌, refl, arith}
use Rattle.wide_sums.proofs.Sizes.{kept}
use Rattle.substitution.proofs.Added.{added_number, number_within, product_size}
use Rattle.substitution.proofs.summands.Summands.add_number.Goals as goal

sum_is : (c : goal.After-add_product) → c.add_product.new.self ≡ c.args.self.now.constant +ℤ (c.args.weight *ℤ c.args.times)
sum_is c = rw (kept c.args.weight (omega arith), kept c.args.times (omega arith)) at c.add_product.ensures

pub returns-clause-sums : goal.returns-clause-sums
returns-clause-sums c = λ sum h. added_number c.args.self.now _ (c.args.weight *ℤ c.args.times) refl (sum_is c) sum h

pub returns-clause-within : goal.returns-clause-within
returns-clause-within c = λ size h. number_within c.args.self.now _ (c.args.weight *ℤ c.args.times) size refl (sum_is c) (product_size c.args.weight c.args.times c.requires.weight c.requires.times) h
