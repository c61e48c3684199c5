use Rattle.std.proofs.Common.{◌+◌, ◌^◌, ℤ, pos, negsuc, ◌+ℤ◌, sym, ap, ◌∙◌, subst, arith}
use Rattle.outline_language.specs.Canonical.{IsCanonical}
use Rattle.outline_language.specs.LinearForms.{constant_form, add_times, minus}
use Rattle.nameless_forms.proofs.Sizes.{looser_form}
use Rattle.value_rules.proofs.InParts.{one_canonical}
use Rattle.value_rules.proofs.divisions.product_less.Goals as goal

pub add_twice-requires-clause-within : goal.add_twice-requires-clause-within
add_twice-requires-clause-within c = looser_form (2 ^ 63 + 2 ^ 185) (2 ^ 245) c.in_ok-sum.sum (omega arith) c.in_ok-sum.ensures.within

pub returns : goal.returns
returns c =
    c.in_ok-add_twice.ensures.sum (subst IsCanonical (sym c.in_ok-sum.ensures.sum) (one_canonical (negsuc 0) c.args.form.now))
    ∙ ap (add_times (c.halves.result.0 +ℤ c.halves.result.1) c.args.variable.now) c.in_ok-sum.ensures.sum
    ∙ ap (λ (z : ℤ). add_times z c.args.variable.now (minus (constant_form (pos 0)) c.args.form.now)) c.halves.ensures.sum
