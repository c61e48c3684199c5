use Rattle.std.proofs.Common.{◌≡◌, map, drop}
use Rattle.chan_syntax.specs.Reading.{letter_of}
use Rattle.outline_paths.specs.Following.{is_path}
use Rattle.outline_paths.proofs.paths.is_path.Given as goal

abbrev pub invariant-loop-letter : goal.invariant-loop-letter
invariant-loop-letter l = is_path l.table (map letter_of (drop l.letter-index l.path)) l.name ≡ is_path l.table (map letter_of l.path) l.fn.from
