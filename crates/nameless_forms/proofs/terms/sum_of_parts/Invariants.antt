use Rattle.std.proofs.Common.{◌≡◌, ℕ, ◌+◌, ◌*◌, ◌^◌, ◌≤◌, length, map, drop}
use Rattle.chan_syntax.specs.Reading.{part_of}
use Rattle.outline_language.specs.LinearForms.{form_of_term}
use Rattle.nameless_forms.specs.Sizes.{IsWithin}
use Rattle.nameless_forms.proofs.terms.sum_of_parts.Given as goal

abbrev pub invariant-loop-left : goal.invariant-loop-left
invariant-loop-left g l = record {
  index : l.left ≤ length l.parts;
  sum : l.sum ≡ form_of_term (g.N.Names.stands_for l.names) (map part_of (drop l.left l.parts));
  within : (done : ℕ) → l.left + done ≡ length l.parts → IsWithin (2 ^ 63 + done * 2 ^ 185) l.sum;
}

abbrev pub decreases-loop-left : goal.decreases-loop-left
decreases-loop-left g l = l.left
