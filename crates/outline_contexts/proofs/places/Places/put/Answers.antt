use Rattle.std.proofs.Common.{◌≡◌, List, length, Some, None, sym, ap, ◌∙◌, subst, nat_cmp, arith}
use Rattle.std.specs.BTreeMap.{Updates}
use Rattle.std.specs.Cmp.Lexicographic.{slice_cmp}
use Rattle.core_language.specs.Names.{Ident}
use Rattle.linear_forms.specs.Substitution.{place_of}
use Rattle.form_faults.specs.Indexed.{IsIndexed}
use Rattle.outline_contexts.proofs.Names.{index_stays, index_grows}
use Rattle.outline_contexts.proofs.places.Places.put.Goals as goal

pub invariant_of-self-in_err-push : goal.invariant_of-self-in_err-push
invariant_of-self-in_err-push c =
    let names = c.self.inside.names.items in
    let none : place_of names c.in_ok-key.key ≡ None = ap (place_of names) c.in_ok-key.ensures ∙ ap (λ (xs : List Ident). place_of xs c.args.name.now) c.self.view_is ∙ c.requires in
    subst (λ (xs : List Ident). IsIndexed (λ (y : Ident). y) xs c.insert.new.self) (sym c.in_err-push.ensures.items)
    (index_stays names c.self.inside.index c.insert.new.self c.in_ok-key.key c.len-place.result c.self.invariant none c.in_ok-insert.ensures.updates)

pub invariant_of-self-2 : goal.invariant_of-self-2
invariant_of-self-2 c =
    let names = c.self.inside.names.items in
    let none : place_of names c.in_ok-name.name ≡ None = ap (place_of names) c.in_ok-name.ensures ∙ ap (λ (xs : List Ident). place_of xs c.args.name.now) c.self.view_is ∙ c.requires in
    let long : c.len-place.result ≡ length names = omega (arith, c.len-place.ensures, c.self.inside.names.ok) in
    let one : c.in_ok-key.key ≡ c.in_ok-name.name = c.in_ok-key.ensures ∙ sym c.in_ok-name.ensures in
    let updates : Updates (slice_cmp nat_cmp) c.self.inside.index c.insert.new.self c.in_ok-name.name (Some (length names)) =
    subst (λ x. Updates (slice_cmp nat_cmp) c.self.inside.index c.insert.new.self x (Some (length names))) one
    (subst (λ n. Updates (slice_cmp nat_cmp) c.self.inside.index c.insert.new.self c.in_ok-key.key (Some n)) long c.in_ok-insert.ensures.updates) in
    subst (λ (xs : List Ident). IsIndexed (λ (y : Ident). y) xs c.insert.new.self) (sym c.in_ok-push.ensures.items)
    (index_grows names c.self.inside.index c.insert.new.self c.in_ok-name.name c.self.invariant none updates)
