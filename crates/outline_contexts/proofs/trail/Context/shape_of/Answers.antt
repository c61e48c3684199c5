use Rattle.std.proofs.Common.{◌≡◌, ◌<◌, Some, None, length, sym, ap, subst, refl, arith}
use Rattle.std.specs.List.{slice_get}
use Rattle.std.specs.Option.{option_map}
use Rattle.std.proofs.lemmas.Option.{slice_get_read}
use Rattle.outline_language.specs.Contexts.{Entry, entry_named}
use Rattle.outline_contexts.specs.Trails.{Trail, context_in}
use Rattle.outline_contexts.proofs.Names.{place_within}
use Rattle.outline_contexts.proofs.Trails.{trail}
use Rattle.outline_contexts.proofs.Entries.{found, no_entry}
use Rattle.outline_contexts.proofs.trail.Context.shape_of.Goals as goal

pub index-requires : goal.index-requires
index-requires c =
    let within = place_within c.self.inside.names c.args.name.now c.in-Some.place (sym c.in-Some.ensures) in
    omega (arith, within, c.self.invariant.as_many, c.self.inside.shapes.ok)

pub returns-in-Some : goal.returns-in-Some
returns-in-Some c =
    let t = trail c.self.inside.ints c.self.inside.hyps c.self.inside.names c.self.inside.shapes.items c.self.inside.taken.items in
    let within = place_within c.self.inside.names c.args.name.now c.in-Some.place (sym c.in-Some.ensures) in
    let less : c.in-Some.place < length t.shapes = omega (arith, within, c.self.invariant.as_many) in
    let at : slice_get t.shapes c.in-Some.place ≡ Some c.index.result.now = slice_get_read t.shapes (length t.shapes) c.in-Some.place c.index.result.now refl less c.index.ensures in
    subst (λ (u : Trail). Some c.index.result.now ≡ option_map (λ (e : Entry). e.shape) (entry_named (context_in u).entries c.args.name.now)) c.self.view_is
    (sym (ap (option_map (λ (e : Entry). e.shape)) (found t c.args.name.now c.in-Some.place c.index.result.now (sym c.in-Some.ensures) at)))

pub returns-in-None : goal.returns-in-None
returns-in-None c =
    let t = trail c.self.inside.ints c.self.inside.hyps c.self.inside.names c.self.inside.shapes.items c.self.inside.taken.items in
    subst (λ (u : Trail). None ≡ option_map (λ (e : Entry). e.shape) (entry_named (context_in u).entries c.args.name.now)) c.self.view_is
    (sym (ap (option_map (λ (e : Entry). e.shape)) (no_entry t.taken c.args.name.now 0 t.names t.shapes (sym c.in-None.ensures))))
