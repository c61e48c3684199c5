use Rattle.std.proofs.Common.{◌≡◌, ◌++◌, false, map, drop}
use Rattle.std.specs.List.{list_all}
use Rattle.core_programs.specs.Bodies.{param_of}
use Rattle.outline_language.specs.Nameless.{shape_fits}
use Rattle.function_headers.specs.Headers.{shape_read}
use Rattle.function_headers.proofs.reading.read_shapes.Given as goal

abbrev pub invariant-loop-param : goal.invariant-loop-param
invariant-loop-param l =
    (l.shapes ++ map (shape_read l.names) (map param_of (drop l.param-index l.params)) ≡ map (shape_read l.names) (map param_of l.params))
    × (list_all shape_fits (map (shape_read l.names) (map param_of (drop l.param-index l.params))) ≡ false → list_all shape_fits (map (shape_read l.names) (map param_of l.params)) ≡ false)
