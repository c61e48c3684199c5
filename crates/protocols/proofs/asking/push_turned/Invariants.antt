use Rattle.std.proofs.Common.{◌≡◌, ◌++◌, map, drop}
use Rattle.linear_forms.specs.Terms.{negated}
use Rattle.chan_syntax.specs.Reading.{part_of}
use Rattle.protocols.proofs.asking.push_turned.Given as goal

abbrev pub invariant-loop-part : goal.invariant-loop-part
invariant-loop-part l = map part_of l.parts ++ map negated (map part_of (drop l.part-index l.part-items)) ≡ map part_of l.initial.parts ++ map negated (map part_of l.part-items)
