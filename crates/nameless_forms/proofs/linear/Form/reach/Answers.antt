use Rattle.std.proofs.Common.{◌≡◌, subst, arith}
use Rattle.outline_language.specs.Nameless.{form_with}
use Rattle.nameless_forms.proofs.Staying.{form_stays}
use Rattle.nameless_forms.proofs.linear.Form.reach.Goals as goal

pub returns-clause-closed : goal.returns-clause-closed
returns-clause-closed c = λ instances depth within.
    let bound = rw c.as_slice.ensures at c.multiples_reach.ensures.reach in
    subst (λ f. form_with instances depth f ≡ f) c.self.view_is (form_stays instances depth _ c.self.invariant (omega (arith, bound, within)))
