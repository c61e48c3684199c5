use Rattle.std.proofs.Common.{rules, ◌+◌, ◌≤◌, ◌^◌, unsigned_abs, sym, subst, arith}
use Rattle.nameless_forms.specs.Sizes.{IsWithin}
use Rattle.nameless_forms.proofs.Sizes.{looser, constant_within}
use Rattle.nameless_forms.proofs.sums.FormSum.add_constant.Goals as goal

pub returns-clause-within : goal.returns-clause-within
returns-clause-within c = λ size h.
    let within : IsWithin size _ = subst (IsWithin size) (sym c.self.view_is) h in
    let number : unsigned_abs c.from.result ≤ 2 ^ 63 = search rules in
    record {
      multiples = looser size (size + 2 ^ 185) c.self.inside.counts.entries (omega arith) within.multiples;
      constant = constant_within size c.self.inside.constant c.args.weight c.from.result c.add_product.new.self c.requires.weight number c.add_product.ensures within.constant;
    }
