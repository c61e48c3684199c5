use Rattle.std.proofs.Common.{◌≡◌, ◌++◌, map, drop}
use Rattle.std.specs.List.{list_all}
use Rattle.chan_syntax.specs.Reading.{term_of}
use Rattle.outline_language.specs.LinearForms.{form_fits}
use Rattle.outline_language.specs.Nameless.{nameless_term}
use Rattle.shape_readings.specs.Names.{names_in}
use Rattle.shape_readings.proofs.reading.read_forms.Given as goal

abbrev pub invariant-loop-term : goal.invariant-loop-term
invariant-loop-term l =
    (l.forms ++ map (nameless_term l.ints (names_in l.around)) (map term_of (drop l.term-index l.terms)) ≡ map (nameless_term l.ints (names_in l.around)) (map term_of l.terms))
    × (list_all form_fits (map (nameless_term l.ints (names_in l.around)) (map term_of (drop l.term-index l.terms))) ≡ list_all form_fits (map (nameless_term l.ints (names_in l.around)) (map term_of l.terms)))
