use Rattle.std.proofs.Common.{◌≡◌, List, true, is_some, sym, ap, ◌∙◌, subst}
use Rattle.form_faults.specs.declared.signatures.Signature.{Signature}
use Rattle.form_faults.specs.Terms.{count_of}
use Rattle.form_faults.specs.Indexed.{IsIndexed}
use Rattle.form_faults.proofs.Places.{grows_again, found_known}
use Rattle.form_faults.proofs.tables.Table.put_again.Goals as goal

pub invariant_of-self-2 : goal.invariant_of-self-2
unfolding count_of
invariant_of-self-2 c =
    let known : is_some (count_of c.self.inside.signatures.items c.in_ok-name.name) ≡ true =
    ap (λ x. is_some (count_of c.self.inside.signatures.items x)) c.in_ok-name.ensures ∙ ap (λ (s : List Signature). is_some (count_of s c.args.name.now)) c.self.view_is ∙ c.requires in
    subst (λ (xs : List Signature). IsIndexed (λ (s : Signature). s.name) xs c.self.inside.places) (sym c.in_ok-push.ensures.items)
    (grows_again (λ (s : Signature). s.name) c.self.inside.signatures.items c.self.inside.places (record { name = c.in_ok-name.name; count = c.args.count }) c.self.invariant
    (found_known (λ (s : Signature). s.name) (λ (s : Signature). s.count) c.self.inside.signatures.items c.in_ok-name.name known))
