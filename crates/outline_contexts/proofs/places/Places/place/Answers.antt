use Rattle.std.proofs.Common.{◌≡◌, ◌≤◌, List, length, Some, None, sym, ap, ◌∙◌, subst, refl, arith, true≢false}
use Rattle.std.specs.Cmp.Lexicographic.{bytes_decides}
use Rattle.std.specs.List.{slice_get}
use Rattle.std.proofs.lemmas.Option.{slice_get_read}
use Rattle.core_language.specs.Names.{Ident}
use Rattle.linear_forms.specs.Substitution.{place_of}
use Rattle.outline_contexts.proofs.Names.{unindexed, past, other, here}
use Rattle.outline_contexts.proofs.places.Places.place.Goals as goal

pub returns-in-None : goal.returns-in-None
returns-in-None c =
    subst (λ (xs : List Ident). None ≡ place_of xs c.args.name.now) c.self.view_is
    (unindexed c.self.inside.names.items c.self.inside.index c.args.name.now c.self.invariant (sym c.in-None.ensures.value))

pub returns-in-None-get : goal.returns-in-None-get
returns-in-None-get c =
    let long = ap (λ (xs : List Ident). length xs) c.deref.ensures.value in
    let beyond : length c.self.inside.names.items ≤ c.in-Some.place.now = grind (arith, c.in-None-get.ensures.lookup.0, long) in
    subst (λ (xs : List Ident). None ≡ place_of xs c.args.name.now) c.self.view_is
    (past c.self.inside.names.items c.self.inside.index c.args.name.now c.self.invariant c.in-Some.place.now (sym c.in-Some.ensures.value) beyond)

pub returns-then-eq : goal.returns-then-eq
returns-then-eq c =
    let read : slice_get c.deref.result.now c.in-Some.place.now ≡ Some c.in-Some-get.there.now =
    slice_get_read c.deref.result.now _ c.in-Some.place.now c.in-Some-get.there.now refl c.in-Some-get.ensures.lookup.3.0 (c.in-Some-get.ensures.lookup.3.1 _) in
    let at = subst (λ (xs : List Ident). slice_get xs c.in-Some.place.now ≡ Some c.in-Some-get.there.now) c.deref.ensures.value read in
    let named : c.in-Some-get.there.now ≡ c.args.name.now = (bytes_decides c.in-Some-get.there.now c.args.name.now).0 (sym c.eq.ensures ∙ c.if-eq.true) in
    subst (λ (xs : List Ident). Some c.in-Some.place.now ≡ place_of xs c.args.name.now) c.self.view_is
    (here c.self.inside.names.items c.self.inside.index c.args.name.now c.self.invariant c.in-Some.place.now c.in-Some-get.there.now (sym c.in-Some.ensures.value) at named)

pub returns-else-eq : goal.returns-else-eq
returns-else-eq c =
    let read : slice_get c.deref.result.now c.in-Some.place.now ≡ Some c.in-Some-get.there.now =
    slice_get_read c.deref.result.now _ c.in-Some.place.now c.in-Some-get.there.now refl c.in-Some-get.ensures.lookup.3.0 (c.in-Some-get.ensures.lookup.3.1 _) in
    let at = subst (λ (xs : List Ident). slice_get xs c.in-Some.place.now ≡ Some c.in-Some-get.there.now) c.deref.ensures.value read in
    subst (λ (xs : List Ident). None ≡ place_of xs c.args.name.now) c.self.view_is
    (other c.self.inside.names.items c.self.inside.index c.args.name.now c.self.invariant c.in-Some.place.now c.in-Some-get.there.now (sym c.in-Some.ensures.value) at
    (λ named. true≢false (sym ((bytes_decides c.in-Some-get.there.now c.args.name.now).1 named) ∙ sym c.eq.ensures ∙ c.if-eq.false)))
