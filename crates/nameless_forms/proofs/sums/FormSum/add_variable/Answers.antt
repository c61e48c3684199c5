use Rattle.std.proofs.Common.{◌+◌, ◌^◌, sym, subst, arith}
use Rattle.std.proofs.lemmas.Result.{on_ok_weaker}
use Rattle.nameless_forms.specs.Sizes.{AreWithin, IsWithin}
use Rattle.nameless_forms.proofs.Sizes.{looser}
use Rattle.nameless_forms.proofs.sums.FormSum.add_variable.Goals as goal

pub returns-clause-within : goal.returns-clause-within
returns-clause-within c = λ size h.
    let within : IsWithin size _ = subst (IsWithin size) (sym c.self.view_is) h in
    on_ok_weaker c.add_count.result (λ (more : AreWithin (size + 2 ^ 126) c.add_count.new.counts.entries). record {
      multiples = looser (size + 2 ^ 126) (size + 2 ^ 185) c.add_count.new.counts.entries (omega arith) more;
      constant = omega (arith, within.constant);
    }) (c.add_count.ensures.within size within.multiples)
