use Rattle.std.proofs.Common.{ℕ, ◌+◌, ◌*◌, ◌^◌, map, take, length}
use Rattle.chan_syntax.specs.Reading.{part_of}
use Rattle.outline_rules.specs.Sums.{IsWithin, AddsTerm}
use Rattle.outline_rules.proofs.sums.add_term.Given as goal

abbrev pub invariant-loop-part : goal.invariant-loop-part
invariant-loop-part l = record {
  adds : AddsTerm l.fn.ints l.fn.weight (take l.part-index (map part_of l.fn.parts)) l.initial.sums l.sums;
  within : (size : ℕ) → IsWithin (length l.fn.ints) size l.initial.sums → IsWithin (length l.fn.ints) (size + l.part-index * 2 ^ 126) l.sums;
}
