use Rattle.std.proofs.Common.{◌≡◌, List, true, is_some, sym, ap, ◌∙◌, subst}
use Rattle.core_language.specs.Names.{Ident}
use Rattle.linear_forms.specs.Substitution.{place_of}
use Rattle.form_faults.specs.Indexed.{IsIndexed}
use Rattle.outline_contexts.proofs.Names.{index_knows}
use Rattle.outline_contexts.proofs.places.Places.put_again.Goals as goal

pub invariant_of-self-2 : goal.invariant_of-self-2
invariant_of-self-2 c =
    let known : is_some (place_of c.self.inside.names.items c.in_ok-name.name) ≡ true =
    ap (λ x. is_some (place_of c.self.inside.names.items x)) c.in_ok-name.ensures ∙ ap (λ (xs : List Ident). is_some (place_of xs c.args.name.now)) c.self.view_is ∙ c.requires in
    subst (λ (xs : List Ident). IsIndexed (λ (y : Ident). y) xs c.self.inside.index) (sym c.in_ok-push.ensures.items)
    (index_knows c.self.inside.names.items c.self.inside.index c.in_ok-name.name c.self.invariant known)
