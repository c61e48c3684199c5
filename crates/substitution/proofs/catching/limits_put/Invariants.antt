use Rattle.std.proofs.Common.{◌≡◌, map, flat_map, drop}
use Rattle.std.specs.List.{list_any}
use Rattle.chan_syntax.specs.Reading.{limit_of}
use Rattle.linear_forms.specs.Substitution.{puts, scoped, terms_of_limit}
use Rattle.substitution.specs.Scopes.{put_in, before_of}
use Rattle.substitution.proofs.catching.limits_put.Given as goal

abbrev pub invariant-loop-limit : goal.invariant-loop-limit
invariant-loop-limit l =
    list_any (puts (map put_in l.put) l.name) (scoped (before_of l.scope) (flat_map terms_of_limit (map limit_of (drop l.limit-index l.limits)))) ≡ list_any (puts (map put_in l.put) l.name) (scoped (before_of l.scope) (flat_map terms_of_limit (map limit_of l.limits)))
