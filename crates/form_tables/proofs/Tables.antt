-- Tables of a program of form.
use Rattle.std.proofs.Common.{◌≡◌, Bool, true, false, if◌then◌else◌, List, [], ◌∷◌, map, Option, Some, None, refl, ap}
use Rattle.std.specs.List.{list_all, AllByRecursion}
use Rattle.std.specs.Option.{option_map}
use Rattle.core_language.specs.Names.{Ident, same}
use Rattle.core_language.specs.Resources as written
use Rattle.core_language.specs.Programs.{Function, Param, function_named}
use Rattle.chan_syntax.specs.declared.resources.Proto.{Proto}
use Rattle.chan_syntax.specs.Reading.{proto_of}
use Rattle.core_programs.specs.declared.nodes.Node.{Node}
use Rattle.core_programs.specs.declared.nodes.Func.{Func}
use Rattle.core_programs.specs.Bodies.{function_of}
use Rattle.outline_language.specs.Nameless.{limit_fits, shape_fits}
use Rattle.outline_language.specs.Equations.{Direction, Fork, fork_of, written_message}
use Rattle.outline_language.specs.Rules.{limits_of, param_shapes}
use Rattle.function_headers.specs.Headers.{header_read, header_fits, header_named, shape_read}
use Rattle.protocol_tables.specs.Protocols.{fork_read, message_read, fork_fits, message_fits, fits_where, protocol_read, protocol_fits}
use Rattle.narrow_headers.specs.Narrow.{NarrowShape, IsNarrowHeader, IsNarrowFork, NarrowRes, IsNarrowProtocol}
use Rattle.narrow_headers.proofs.Resources.{and_true}
use Rattle.narrow_headers.proofs.Headers.{headers_narrow, protocols_narrow}
use Rattle.form_tables.specs.Laws.{HeadersFit, ProtocolsFit, HeadersAreOfProgram, NamedHeaderIsFirst}

-- ---- headers

shapes_fit : (names : List Ident) (ps : List Param) → AllByRecursion (λ p. NarrowShape p.shape) ps → list_all shape_fits (map (shape_read names) ps) ≡ true
shapes_fit names [] narrow = refl
shapes_fit names (p ∷ ps) (here, more) = and_true (shape_fits (shape_read names p)) _ (here [] names) (shapes_fit names ps more)

header_fit : (f : Function) → IsNarrowHeader f → header_fits (header_read f) ≡ true
header_fit f narrow =
    and_true (list_all limit_fits (limits_of f)) _ (narrow.limits [] f.bound.names)
    (and_true (list_all shape_fits (param_shapes f)) _ (shapes_fit f.bound.names f.params narrow.shapes) (narrow.result [] f.bound.names))

all_fit : (fs : List Func) → AllByRecursion (λ f. IsNarrowHeader (function_of [] f)) fs → list_all header_fits (map header_read (map (function_of []) fs)) ≡ true
all_fit [] narrow = refl
all_fit (f ∷ fs) (here, more) = and_true (header_fits (header_read (function_of [] f))) _ (header_fit (function_of [] f) here) (all_fit fs more)

pub headers_fit : HeadersFit
headers_fit parts form = all_fit parts.funcs (headers_narrow parts form)

-- ---- protocols

fork_fit : (params : List Ident) (fork : Fork) → IsNarrowFork fork → fork_fits (fork_read params fork) ≡ true
fork_fit params fork narrow =
    and_true _ _ (narrow.left [] params) (and_true _ _ (narrow.right [] params) (and_true _ _ (narrow.this [] params) (narrow.other [] params)))

forks_fit : (params : List Ident) (o : Option Fork) → ((fork : Fork) → o ≡ Some fork → IsNarrowFork fork) → fits_where fork_fits (option_map (fork_read params) o) ≡ true
forks_fit params None narrow = refl
forks_fit params (Some fork) narrow = fork_fit params fork (narrow fork refl)

messages_fit : (params : List Ident) (o : Option (Direction × written.Res)) → ((m : Direction × written.Res) → o ≡ Some m → NarrowRes m.1) → fits_where message_fits (option_map (message_read params) o) ≡ true
messages_fit params None narrow = refl
messages_fit params (Some m) narrow = narrow m refl [] params

protocol_fit : (p : written.Proto) → IsNarrowProtocol p → protocol_fits (protocol_read p) ≡ true
protocol_fit p narrow =
    and_true (fits_where fork_fits (option_map (fork_read p.params) (fork_of p.equation))) _ (forks_fit p.params (fork_of p.equation) narrow.forks)
    (messages_fit p.params (written_message p.equation) narrow.messages)

protos_fit : (ps : List Proto) → AllByRecursion (λ p. IsNarrowProtocol (proto_of p)) ps → list_all protocol_fits (map protocol_read (map proto_of ps)) ≡ true
protos_fit [] narrow = refl
protos_fit (p ∷ ps) (here, more) = and_true (protocol_fits (protocol_read (proto_of p))) _ (protocol_fit (proto_of p) here) (protos_fit ps more)

pub protocols_fit : ProtocolsFit
protocols_fit parts form = protos_fit parts.protos (protocols_narrow parts form)

-- ---- the program

of_program : (nodes : List Node) (fs : List Func) → map header_read (map (function_of []) fs) ≡ map header_read (map (function_of nodes) fs)
of_program nodes [] = refl
of_program nodes (f ∷ fs) = ap (λ hs. header_read (function_of [] f) ∷ hs) (of_program nodes fs)

pub headers_are : HeadersAreOfProgram
headers_are parts = of_program parts.nodes parts.funcs

pub named_first : NamedHeaderIsFirst
named_first f [] = refl
named_first f (g ∷ gs) = by (same g.name f) (named_first f gs)
  where
    by : (t : Bool) → header_named f (map header_read gs) ≡ option_map header_read (function_named f gs)
        → (if t then Some (header_read g) else header_named f (map header_read gs)) ≡ option_map header_read (if t then Some g else function_named f gs)
    by true more = refl
    by false more = more
