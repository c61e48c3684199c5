use Rattle.std.proofs.Common.{◌≡◌, List, Some, subst}
use Rattle.form_faults.specs.declared.sorts.Known.{Known}
use Rattle.form_faults.specs.Indexed.{place_of}
use Rattle.form_faults.proofs.Places.{shorter}
use Rattle.form_faults.proofs.scopes.Scope.cut.Goals as goal

pub invariant_of-self : goal.invariant_of-self
invariant_of-self c x i is =
    c.self.invariant x i
    (shorter (λ (k : Known). k.name) c.self.inside.trail.items c.args.mark x i (subst (λ (xs : List Known). place_of (λ (k : Known). k.name) xs x ≡ Some i) c.truncate.ensures.items is))
