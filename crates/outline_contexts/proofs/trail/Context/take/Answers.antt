use Rattle.std.proofs.Common.{◌≡◌, ℕ, ◌<◌, true, false, List, length, Some, Result, Ok, sym, ap, ◌∙◌, subst, refl, arith}
use Rattle.std.specs.List.{slice_get}
use Rattle.std.proofs.lemmas.Option.{slice_get_read}
use Rattle.outline_language.specs.Contexts.{Why, Taken, take}
use Rattle.outline_obligations.specs.Reasons.{IsReason}
use Rattle.outline_contexts.specs.Trails.{Trail, context_in, is_taken, is_held}
use Rattle.outline_contexts.specs.Reading.{taken_as}
use Rattle.outline_contexts.proofs.Names.{place_within}
use Rattle.outline_contexts.proofs.Trails.{trail}
use Rattle.outline_contexts.proofs.Entries.{not_there, not_held, takes_end, takes_copy}
use Rattle.outline_contexts.proofs.Keeping.{held_long, held_at, kept_less, there, taken_where, free_where}
use Rattle.outline_contexts.proofs.trail.Context.take.Goals as goal

pub returns-in-None-clause-err : goal.returns-in-None-clause-err
returns-in-None-clause-err c =
    let t = trail c.self.inside.ints c.self.inside.hyps c.self.inside.names c.self.inside.shapes.items c.self.inside.taken.items in
    subst (λ (u : Trail). IsReason (take (context_in u) c.args.name.now) c.not_held.result) c.self.view_is
    (subst (λ (r : Result Taken Why). IsReason r c.not_held.result) (sym (not_there t c.args.name.now (sym c.in-None.ensures))) c.not_held.ensures)

pub index-requires : goal.index-requires
index-requires c =
    let t = trail c.self.inside.ints c.self.inside.hyps c.self.inside.names c.self.inside.shapes.items c.self.inside.taken.items in
    let within = place_within c.self.inside.names c.args.name.now c.in-Some.place (sym c.in-Some.ensures) in
    let long = held_long t c.self.inside.held.items c.self.invariant in
    omega (arith, within, c.self.invariant.as_many, long, c.self.inside.held.ok)

pub index-requires-in-Some : goal.index-requires-in-Some
index-requires-in-Some c =
    let within = place_within c.self.inside.names c.args.name.now c.in-Some.place (sym c.in-Some.ensures) in
    omega (arith, within, c.self.invariant.as_many, c.self.inside.shapes.ok)

pub release-requires : goal.release-requires
release-requires c =
    let t = trail c.self.inside.ints c.self.inside.hyps c.self.inside.names c.self.inside.shapes.items c.self.inside.taken.items in
    let within = place_within c.self.inside.names c.args.name.now c.in-Some.place (sym c.in-Some.ensures) in
    let long = held_long t c.self.inside.held.items c.self.invariant in
    omega (arith, within, c.self.invariant.as_many, long)

pub returns-then-not-index-clause-err : goal.returns-then-not-index-clause-err
returns-then-not-index-clause-err c =
    let t = trail c.self.inside.ints c.self.inside.hyps c.self.inside.names c.self.inside.shapes.items c.self.inside.taken.items in
    let within = place_within c.self.inside.names c.args.name.now c.in-Some.place (sym c.in-Some.ensures) in
    let less : c.in-Some.place < length t.shapes = omega (arith, within, c.self.invariant.as_many) in
    let marked : is_held t.taken c.in-Some.place ≡ false = sym (held_at t c.self.inside.held.items c.self.invariant c.in-Some.place c.index.result.now less) ∙ sym c.index.ensures ∙ c.if-not-index.true in
    let (s, at) = there t.shapes c.in-Some.place less in
    subst (λ (u : Trail). IsReason (take (context_in u) c.args.name.now) c.not_held-then-not-index.result) c.self.view_is
    (subst (λ (r : Result Taken Why). IsReason r c.not_held-then-not-index.result)
    (sym (not_held t c.args.name.now c.in-Some.place s (sym c.in-Some.ensures) at (taken_where (is_taken t.taken c.in-Some.place) marked))) c.not_held-then-not-index.ensures)

pub invariant_of-self-then-has_end : goal.invariant_of-self-then-has_end
invariant_of-self-then-has_end c =
    let t = trail c.self.inside.ints c.self.inside.hyps c.self.inside.names c.self.inside.shapes.items c.self.inside.taken.items in
    let within = place_within c.self.inside.names c.args.name.now c.in-Some.place (sym c.in-Some.ensures) in
    let less : c.in-Some.place < length t.shapes = omega (arith, within, c.self.invariant.as_many) in
    let marked : is_held t.taken c.in-Some.place ≡ true = sym (held_at t c.self.inside.held.items c.self.invariant c.in-Some.place c.index.result.now less) ∙ sym c.index.ensures ∙ c.if-not-index.false in
    kept_less t c.self.inside.held.items c.self.invariant c.in-Some.place c.release.new.taken.items c.release.new.held.items less
    (free_where (is_taken t.taken c.in-Some.place) marked) c.in_ok-release-in-Some.ensures.taken c.in_ok-release-in-Some.ensures.held

pub returns-then-has_end-clause-ok : goal.returns-then-has_end-clause-ok
returns-then-has_end-clause-ok c =
    let t = trail c.self.inside.ints c.self.inside.hyps c.self.inside.names c.self.inside.shapes.items c.self.inside.taken.items in
    let within = place_within c.self.inside.names c.args.name.now c.in-Some.place (sym c.in-Some.ensures) in
    let less : c.in-Some.place < length t.shapes = omega (arith, within, c.self.invariant.as_many) in
    let marked : is_held t.taken c.in-Some.place ≡ true = sym (held_at t c.self.inside.held.items c.self.invariant c.in-Some.place c.index.result.now less) ∙ sym c.index.ensures ∙ c.if-not-index.false in
    let read : slice_get t.shapes c.in-Some.place ≡ Some c.index-in-Some.result.now = slice_get_read t.shapes (length t.shapes) c.in-Some.place c.index-in-Some.result.now refl less c.index-in-Some.ensures in
    let at : slice_get t.shapes c.in-Some.place ≡ Some c.in_ok-shape-in-Some.shape = read ∙ ap Some (sym c.in_ok-shape-in-Some.ensures) in
    subst (λ (u : Trail). take (context_in u) c.args.name.now ≡ Ok (taken_as c.in_ok-shape-in-Some.shape (trail t.ints t.hyps t.names t.shapes c.release.new.taken.items))) c.self.view_is
    (takes_end t c.args.name.now c.in-Some.place c.in_ok-shape-in-Some.shape (sym c.in-Some.ensures) at (free_where (is_taken t.taken c.in-Some.place) marked) (sym c.has_end.ensures ∙ c.if-has_end.true)
    ∙ ap (λ (ks : List ℕ). Ok (taken_as c.in_ok-shape-in-Some.shape (trail t.ints t.hyps t.names t.shapes ks))) (sym c.in_ok-release-in-Some.ensures.taken))

pub returns-else-has_end-clause-ok : goal.returns-else-has_end-clause-ok
returns-else-has_end-clause-ok c =
    let t = trail c.self.inside.ints c.self.inside.hyps c.self.inside.names c.self.inside.shapes.items c.self.inside.taken.items in
    let within = place_within c.self.inside.names c.args.name.now c.in-Some.place (sym c.in-Some.ensures) in
    let less : c.in-Some.place < length t.shapes = omega (arith, within, c.self.invariant.as_many) in
    let marked : is_held t.taken c.in-Some.place ≡ true = sym (held_at t c.self.inside.held.items c.self.invariant c.in-Some.place c.index.result.now less) ∙ sym c.index.ensures ∙ c.if-not-index.false in
    let read : slice_get t.shapes c.in-Some.place ≡ Some c.index-in-Some.result.now = slice_get_read t.shapes (length t.shapes) c.in-Some.place c.index-in-Some.result.now refl less c.index-in-Some.ensures in
    let at : slice_get t.shapes c.in-Some.place ≡ Some c.in_ok-shape-in-Some.shape = read ∙ ap Some (sym c.in_ok-shape-in-Some.ensures) in
    subst (λ (u : Trail). take (context_in u) c.args.name.now ≡ Ok (taken_as c.in_ok-shape-in-Some.shape u)) c.self.view_is
    (takes_copy t c.args.name.now c.in-Some.place c.in_ok-shape-in-Some.shape (sym c.in-Some.ensures) at (free_where (is_taken t.taken c.in-Some.place) marked) (sym c.has_end.ensures ∙ c.if-has_end.false))
