-- The tables of a program: where it is of form, no number in them is too large.
use Rattle.std.specs.Prelude.{◌≡◌, true, List, [], map}
use Rattle.std.specs.List.{list_all}
use Rattle.std.specs.Option.{option_map}
use Rattle.core_language.specs.Names.{Ident}
use Rattle.core_language.specs.Programs.{Function, function_named}
use Rattle.chan_syntax.specs.Reading.{proto_of}
use Rattle.core_programs.specs.declared.nodes.Parts.{Parts}
use Rattle.core_programs.specs.Bodies.{function_of, program_of}
use Rattle.core_programs.specs.Form.{HasForm}
use Rattle.function_headers.specs.Headers.{header_read, header_fits, header_named}
use Rattle.protocol_tables.specs.Protocols.{protocol_read, protocol_fits}

-- so that its headers are read
abbrev pub HeadersFit : Type 0
HeadersFit = (parts : Parts) → HasForm parts → list_all header_fits (map header_read (map (function_of []) parts.funcs)) ≡ true

-- and its protocols
abbrev pub ProtocolsFit : Type 0
ProtocolsFit = (parts : Parts) → HasForm parts → list_all protocol_fits (map protocol_read (map proto_of parts.protos)) ≡ true

-- the headers are those of the program's functions, with their bodies or without
abbrev pub HeadersAreOfProgram : Type 0
HeadersAreOfProgram = (parts : Parts) → map header_read (map (function_of []) parts.funcs) ≡ map header_read (program_of parts).funcs

-- the header that is found by a name is that of the first function with it
abbrev pub NamedHeaderIsFirst : Type 0
NamedHeaderIsFirst = (f : Ident) (fs : List Function) → header_named f (map header_read fs) ≡ option_map header_read (function_named f fs)
