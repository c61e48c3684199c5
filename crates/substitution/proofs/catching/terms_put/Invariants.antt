use Rattle.std.proofs.Common.{◌≡◌, map, drop}
use Rattle.std.specs.List.{list_any}
use Rattle.chan_syntax.specs.Reading.{term_of}
use Rattle.linear_forms.specs.Substitution.{puts, scoped}
use Rattle.substitution.specs.Scopes.{put_in, before_of}
use Rattle.substitution.proofs.catching.terms_put.Given as goal

abbrev pub invariant-loop-term : goal.invariant-loop-term
invariant-loop-term l =
    list_any (puts (map put_in l.put) l.name) (scoped (before_of l.scope) (map term_of (drop l.term-index l.terms))) ≡ list_any (puts (map put_in l.put) l.name) (scoped (before_of l.scope) (map term_of l.terms))
