-- What form gives.
use Rattle.std.specs.Prelude.{[]}
use Rattle.std.specs.List.{AllByRecursion}
use Rattle.chan_syntax.specs.Reading.{proto_of}
use Rattle.core_programs.specs.declared.nodes.Parts.{Parts}
use Rattle.core_programs.specs.Bodies.{function_of}
use Rattle.core_programs.specs.Form.{HasForm}
use Rattle.narrow_headers.specs.Narrow.{IsNarrowHeader, IsNarrowProtocol}

-- where no pass finds a fault, the numbers of each header are narrow
abbrev pub HeadersAreNarrow : Type 0
HeadersAreNarrow = (parts : Parts) → HasForm parts → AllByRecursion (λ f. IsNarrowHeader (function_of [] f)) parts.funcs

-- and those of each protocol
abbrev pub ProtocolsAreNarrow : Type 0
ProtocolsAreNarrow = (parts : Parts) → HasForm parts → AllByRecursion (λ p. IsNarrowProtocol (proto_of p)) parts.protos
