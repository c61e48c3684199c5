use Rattle.std.proofs.Common.{◌≡◌, List, Some, subst}
use Rattle.core_language.specs.Names.{Ident}
use Rattle.form_faults.specs.Indexed.{place_of}
use Rattle.form_faults.proofs.Places.{shorter}
use Rattle.outline_contexts.proofs.places.Places.cut.Goals as goal

pub invariant_of-self : goal.invariant_of-self
invariant_of-self c x i is =
    c.self.invariant x i
    (shorter (λ (y : Ident). y) c.self.inside.names.items c.args.many x i
    (subst (λ (xs : List Ident). place_of (λ (y : Ident). y) xs x ≡ Some i) c.truncate.ensures.items is))
