use Rattle.std.proofs.Common.{◌≡◌, ◌++◌, map, drop}
use Rattle.std.specs.List.{list_all}
use Rattle.chan_syntax.specs.Reading.{limit_of as written_limit}
use Rattle.outline_language.specs.Nameless.{nameless_limit, limit_fits}
use Rattle.nameless_forms.specs.Limits.{limit_of}
use Rattle.shape_readings.specs.Names.{names_in}
use Rattle.shape_readings.proofs.reading.read_limits.Given as goal

abbrev pub invariant-loop-limit : goal.invariant-loop-limit
invariant-loop-limit l =
    (map limit_of l.read ++ map (nameless_limit l.ints (names_in l.around)) (map written_limit (drop l.limit-index l.limits)) ≡ map (nameless_limit l.ints (names_in l.around)) (map written_limit l.limits))
    × (list_all limit_fits (map (nameless_limit l.ints (names_in l.around)) (map written_limit (drop l.limit-index l.limits))) ≡ list_all limit_fits (map (nameless_limit l.ints (names_in l.around)) (map written_limit l.limits)))
