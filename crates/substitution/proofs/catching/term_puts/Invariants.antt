use Rattle.std.proofs.Common.{◌≡◌, map, drop}
use Rattle.chan_syntax.specs.Reading.{part_of}
use Rattle.linear_forms.specs.Substitution.{puts}
use Rattle.substitution.specs.Scopes.{put_in, before_of}
use Rattle.substitution.proofs.catching.term_puts.Given as goal

abbrev pub invariant-loop-part : goal.invariant-loop-part
invariant-loop-part l =
    puts (map put_in l.put) l.name (record { binders = before_of l.scope; term = map part_of (drop l.part-index l.part-items) }) ≡ puts (map put_in l.put) l.name (record { binders = before_of l.scope; term = map part_of l.part-items })
