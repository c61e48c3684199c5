use Rattle.std.proofs.Common.{◌≡◌, map, drop}
use Rattle.chan_syntax.specs.Reading.{proto_of, letter_of}
use Rattle.protocols.specs.Unfolding as spec
use Rattle.protocols.proofs.paths.has_form.Given as goal

abbrev pub invariant-loop-letter : goal.invariant-loop-letter
invariant-loop-letter l = spec.has_form (map proto_of l.protos) (map letter_of (drop l.letter-index l.path)) l.name ≡ spec.has_form (map proto_of l.protos) (map letter_of l.path) l.from
