use Rattle.std.proofs.Common.{◌≡◌, ℕ, ◌+◌, ◌*◌, ◌^◌, ◌≤◌, length, drop}
use Rattle.outline_language.specs.LinearForms.{add_multiples}
use Rattle.outline_language.specs.Canonical.{AreCanonical}
use Rattle.nameless_forms.specs.Sizes.{AreWithin}
use Rattle.nameless_forms.proofs.sums.add_multiples.Given as goal

abbrev pub invariant-loop-left : goal.invariant-loop-left
invariant-loop-left l = record {
  index : l.left ≤ length l.multiples;
  sum : l.counts.entries ≡ add_multiples l.fn.weight (drop l.left l.multiples) l.initial.counts.entries;
  canonical : AreCanonical l.counts.entries;
  within : (size done : ℕ) → l.left + done ≡ length l.multiples → AreWithin size l.initial.counts.entries → AreWithin (size + done * 2 ^ 126) l.counts.entries;
}

abbrev pub decreases-loop-left : goal.decreases-loop-left
decreases-loop-left l = l.left
