use Rattle.std.proofs.Common.{◌≡◌, drop, map, is_some}
use Rattle.std.specs.List.{list_all}
use Rattle.linear_forms.specs.Normal.{names_of}
use Rattle.chan_syntax.specs.Reading.{part_of}
use Rattle.outline_language.specs.Contexts.{integer_named}
use Rattle.outline_contexts.specs.Trails.{context_in}
use Rattle.outline_contexts.proofs.trail.Context.are_integers.Given as goal

abbrev pub invariant-loop-part : goal.invariant-loop-part
invariant-loop-part l =
    list_all (λ x. is_some (integer_named (context_in l.self) x)) (names_of (map part_of (drop l.part-index l.parts)))
    ≡ list_all (λ x. is_some (integer_named (context_in l.self) x)) (names_of (map part_of l.parts))
