use Rattle.std.proofs.Common.{Some, sym, subst, nat_cmp}
use Rattle.std.specs.Cmp.Lexicographic.{slice_cmp}
use Rattle.std.specs.BTreeMap.{Updates}
use Rattle.core_language.specs.Names.{Ident}
use Rattle.protocol_guard.proofs.Tables.{keeps_places, adds_place}
use Rattle.protocol_guard.proofs.graphs.add_place.Goals as goal

pub returns-in-Some : goal.returns-in-Some
returns-in-Some c = keeps_places c.args.places.now c.args.name.now _ c.args.place (sym c.in-Some.ensures.value)

pub returns-in_ok-insert-in-None : goal.returns-in_ok-insert-in-None
returns-in_ok-insert-in-None c =
    let updates = subst (λ (n : Ident). Updates (slice_cmp nat_cmp) c.args.places.now c.insert.new.self n (Some c.args.place)) c.in_ok-key-in-None.ensures c.in_ok-insert-in-None.ensures.updates in
    adds_place c.args.places.now c.insert.new.self c.args.name.now c.args.place (sym c.in-None.ensures.value) updates
