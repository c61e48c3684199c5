use Rattle.std.proofs.Common.{◌≡◌, ◌++◌, false, [], map, drop}
use Rattle.std.specs.List.{list_all}
use Rattle.core_programs.specs.Bodies.{function_of}
use Rattle.function_headers.specs.Headers.{header_read, header_fits}
use Rattle.function_headers.specs.Reading.{header_of}
use Rattle.function_headers.proofs.reading.read_headers.Given as goal

abbrev pub invariant-loop-func : goal.invariant-loop-func
invariant-loop-func l =
    (map header_of l.headers ++ map header_read (map (function_of []) (drop l.func-index l.funcs)) ≡ map header_read (map (function_of []) l.funcs))
    × (list_all header_fits (map header_read (map (function_of []) (drop l.func-index l.funcs))) ≡ false → list_all header_fits (map header_read (map (function_of []) l.funcs)) ≡ false)
