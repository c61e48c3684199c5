use Rattle.std.proofs.Common.{◌<◌, length, sym, ◌∙◌, subst}
use Rattle.std.proofs.lemmas.List.{length-map}
use Rattle.shape_readings.specs.Names.{names_in}
use Rattle.shape_readings.proofs.Places.{looks_first, looks_on, looks_here, behind, below}
use Rattle.shape_readings.proofs.scope.place_around.Goals as goal

pub loop-index-init : goal.loop-index-init
loop-index-init c = looks_first (names_in c.args.names.now) c.args.name.now

pub returns-then-eq-clause-value : goal.returns-then-eq-clause-value
returns-then-eq-clause-value c =
    looks_here (names_in c.args.names.now) c.args.name.now c.loop-index.index c.index-names-index.result.now (below c.args.names.now c.loop-index.index c.loop-index-test.true)
    (behind c.args.names.now c.loop-index.index c.index-names-index.result c.index-names-index.is) (sym c.eq.ensures ∙ c.if-eq.true) c.loop-index.invariant

pub loop-index-preserved : goal.loop-index-preserved
loop-index-preserved c =
    looks_on (names_in c.args.names.now) c.args.name.now c.loop-index.index c.index-names-index.result.now (below c.args.names.now c.loop-index.index c.loop-index-test.true)
    (behind c.args.names.now c.loop-index.index c.index-names-index.result c.index-names-index.is) (sym c.eq.ensures ∙ c.if-eq.false) c.loop-index.invariant
