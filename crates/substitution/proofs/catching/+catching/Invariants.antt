use Rattle.std.proofs.Common.{◌≡◌, map, flat_map, drop}
use Rattle.std.specs.List.{list_any}
use Rattle.chan_syntax.specs.Reading.{res_of}
use Rattle.linear_forms.specs.Substitution.{puts, terms_of_res}
use Rattle.substitution.specs.Scopes.{put_in, before_of}
use Rattle.substitution.proofs.catching.+catching.Given as goal

abbrev pub invariant-resources_put-loop-resource : goal.invariant-resources_put-loop-resource
invariant-resources_put-loop-resource l =
    list_any (puts (map put_in l.put) l.name) (flat_map (terms_of_res (before_of l.scope)) (map res_of (drop l.resource-index l.resources))) ≡ list_any (puts (map put_in l.put) l.name) (flat_map (terms_of_res (before_of l.scope)) (map res_of l.resources))
