use Rattle.std.proofs.Common.{◌≡◌, ◌++◌, map, drop}
use Rattle.std.specs.List.{list_all}
use Rattle.chan_syntax.specs.Reading.{res_of}
use Rattle.outline_language.specs.Nameless.{nameless_res, res_fits}
use Rattle.shape_readings.specs.Names.{names_in}
use Rattle.shape_readings.proofs.reading.+reading.Given as goal

abbrev pub invariant-read_resources-loop-resource : goal.invariant-read_resources-loop-resource
invariant-read_resources-loop-resource l =
    (l.read ++ map (nameless_res l.ints (names_in l.around)) (map res_of (drop l.resource-index l.resources)) ≡ map (nameless_res l.ints (names_in l.around)) (map res_of l.resources))
    × (list_all res_fits (map (nameless_res l.ints (names_in l.around)) (map res_of (drop l.resource-index l.resources))) ≡ list_all res_fits (map (nameless_res l.ints (names_in l.around)) (map res_of l.resources)))
