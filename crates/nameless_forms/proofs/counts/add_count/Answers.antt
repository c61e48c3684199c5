use Rattle.std.specs.Int.{w128}
use Rattle.std.proofs.Common.{◌≡◌, ◌≤◌, ℤ, ◌+ℤ◌, ◌*ℤ◌, ◌^◌, unsigned_abs, to_z, of_z, List, refl, subst, sym, ◌∙◌, arith}
use Rattle.wide_sums.proofs.Sizes.{kept}
use Rattle.outline_language.specs.LinearForms.{Var, Multiple, add_multiple}
use Rattle.outline_language.specs.Canonical.{AreCanonical}
use Rattle.nameless_forms.specs.Counts.{count_in}
use Rattle.nameless_forms.proofs.Adding.{added_nothing, added_something, others_canonical, added_canonical}
use Rattle.nameless_forms.proofs.Sizes.{count_within, within_product}
use Rattle.nameless_forms.proofs.counts.add_count.Goals as goal

pub add_product-requires-clause-sum : goal.add_product-requires-clause-sum
add_product-requires-clause-sum c =
    let size = count_within (2 ^ 247) c.args.var c.args.counts.now.entries c.requires.within in
    rw c.take_count-count.ensures.count (omega (arith, size))

pub returns-in_err-insert-clause-canonical : goal.returns-in_err-insert-clause-canonical
returns-in_err-insert-clause-canonical c =
    subst AreCanonical (sym (c.in_err-insert.ensures.err ∙ c.take_count-count.ensures.others)) (others_canonical c.args.var c.args.counts.now.entries c.requires.canonical)

-- the count in the end
total : (v : Var) (w t count sum : ℤ) (ms : List Multiple) → unsigned_abs w ≤ 2 ^ 63 → unsigned_abs t ≤ 2 ^ 63 → count ≡ count_in v ms
    → sum ≡ count +ℤ (to_z w128 (of_z w128 w) *ℤ to_z w128 (of_z w128 t)) → sum ≡ count_in v ms +ℤ (w *ℤ t)
total v w t count sum ms small too is added = added ∙ rw (is, kept w (omega (arith, small)), kept t (omega (arith, too))) refl

into : (c : goal.In_ok-insert) → c.insert.new.self.entries ≡ add_multiple c.args.var (c.args.weight *ℤ c.args.times) c.args.counts.now.entries
into c = c.in_ok-insert.ensures.entries ∙ added_something c.args.var (c.args.weight *ℤ c.args.times) c.args.counts.now.entries _ c.add_product.new.self c.requires.canonical (total c.args.var c.args.weight c.args.times _ _ c.args.counts.now.entries c.requires.weight c.requires.times c.take_count-count.ensures.count c.add_product.ensures) (sym c.is_zero.ensures ∙ c.if-not-is_zero.true) c.take_count-count.ensures.others

pub returns-in_ok-insert-clause-added : goal.returns-in_ok-insert-clause-added
returns-in_ok-insert-clause-added c = into c

pub returns-in_ok-insert-clause-canonical : goal.returns-in_ok-insert-clause-canonical
returns-in_ok-insert-clause-canonical c = subst AreCanonical (sym (into c)) (added_canonical c.args.var c.args.weight c.args.times c.args.counts.now.entries c.requires.canonical)

out : (c : goal.Else-not-is_zero) → c.take_count-count.new.counts.entries ≡ add_multiple c.args.var (c.args.weight *ℤ c.args.times) c.args.counts.now.entries
out c = added_nothing c.args.var (c.args.weight *ℤ c.args.times) c.args.counts.now.entries _ c.add_product.new.self c.requires.canonical (total c.args.var c.args.weight c.args.times _ _ c.args.counts.now.entries c.requires.weight c.requires.times c.take_count-count.ensures.count c.add_product.ensures) (sym c.is_zero.ensures ∙ c.if-not-is_zero.false) c.take_count-count.ensures.others

pub returns-else-not-is_zero-clause-added : goal.returns-else-not-is_zero-clause-added
returns-else-not-is_zero-clause-added c = out c

pub returns-else-not-is_zero-clause-canonical : goal.returns-else-not-is_zero-clause-canonical
returns-else-not-is_zero-clause-canonical c = subst AreCanonical (sym (out c)) (added_canonical c.args.var c.args.weight c.args.times c.args.counts.now.entries c.requires.canonical)

pub returns-in_ok-insert-clause-within : goal.returns-in_ok-insert-clause-within
returns-in_ok-insert-clause-within c = λ size within. within_product size c.args.var c.args.weight c.args.times c.args.counts.now.entries _ c.requires.weight c.requires.times (into c) within

pub returns-else-not-is_zero-clause-within : goal.returns-else-not-is_zero-clause-within
returns-else-not-is_zero-clause-within c = λ size within. within_product size c.args.var c.args.weight c.args.times c.args.counts.now.entries _ c.requires.weight c.requires.times (out c) within
