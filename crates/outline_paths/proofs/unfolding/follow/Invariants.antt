use Rattle.std.proofs.Common.{◌≡◌, drop}
use Rattle.outline_paths.specs.Settings.{follow_in}
use Rattle.outline_paths.proofs.unfolding.follow.Given as goal

abbrev pub invariant-loop-letter : goal.invariant-loop-letter
invariant-loop-letter l = follow_in l.setting (drop l.letter-index l.path) l.at ≡ follow_in l.setting l.path l.fn.start
