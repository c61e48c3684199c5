use Rattle.std.proofs.Common.{◌≡◌, ℕ, ℤ, ◌+◌, ◌*◌, ◌^◌, ◌≤◌, length, drop}
use Rattle.outline_language.specs.LinearForms.{LinearForm, add_times, constant_form, put_multiples}
use Rattle.outline_language.specs.Nameless.{instance_for}
use Rattle.outline_language.specs.Canonical.{IsCanonical}
use Rattle.nameless_forms.specs.Sizes.{IsWithin}
use Rattle.nameless_forms.proofs.putting.put_multiples.Given as goal

abbrev pub invariant-loop-left : goal.invariant-loop-left
invariant-loop-left l = record {
  index : l.left ≤ length l.multiples;
  sum : (constant : ℤ) (start : LinearForm) → IsCanonical start → l.initial.sum ≡ add_times l.fn.weight (constant_form constant) start → l.sum ≡ add_times l.fn.weight (put_multiples (instance_for l.instances l.fn.depth) constant (drop l.left l.multiples)) start;
  within : (size done : ℕ) → l.left + done ≡ length l.multiples → IsWithin size l.initial.sum → IsWithin (size + done * 2 ^ 185) l.sum;
}

abbrev pub decreases-loop-left : goal.decreases-loop-left
decreases-loop-left l = l.left
