use Rattle.std.proofs.Common.{◌≡◌, drop, map}
use Rattle.chan_syntax.specs.Reading.{supply_of}
use Rattle.outline_language.specs.Giving as spec
use Rattle.outline_contexts.specs.Trails.{IsAfter}
use Rattle.value_supplies.specs.Reading.{given_at}
use Rattle.value_supplies.proofs.listing.give_all.Given as goal

abbrev pub invariant-loop-index : goal.invariant-loop-index
invariant-loop-index l = record {
  rest : spec.give_all l.forms (map supply_of (drop l.index l.values)) (drop l.index l.shapes) (given_at l.ctx l.proof l.now)
      ≡ spec.give_all l.forms (map supply_of l.values) l.shapes (given_at l.fn.ctx l.proof l.fn.taken);
  after : IsAfter l.fn.ctx l.ctx;
}
