use Rattle.std.proofs.Common.{◌≡◌, ◌+◌, ◌-◌, ◌≤◌, drop, length}
use Rattle.std.specs.Char.{is_ascii_digit}
use Rattle.std.specs.List.{prefix_len}
use Rattle.name_texts.proofs.parts.count_digits.Given as goal

abbrev pub invariant-digits : goal.invariant-digits
invariant-digits l = (l.count ≤ length l.text) × (l.count + prefix_len is_ascii_digit (drop l.count l.text) ≡ prefix_len is_ascii_digit l.text)

abbrev pub decreases-digits : goal.decreases-digits
decreases-digits l = length l.text - l.count
