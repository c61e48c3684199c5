use Rattle.std.proofs.Common.{◌≡◌, ◌++◌, map, drop}
use Rattle.std.specs.List.{list_all}
use Rattle.outline_language.specs.Nameless.{limit_with, limit_fits}
use Rattle.nameless_forms.specs.Limits.{limit_of}
use Rattle.shape_instances.proofs.putting.put_limits.Given as goal

abbrev pub invariant-loop-limit : goal.invariant-loop-limit
invariant-loop-limit l =
    (map limit_of l.put ++ map (limit_with l.instances l.depth) (map limit_of (drop l.limit-index l.limits)) ≡ map (limit_with l.instances l.depth) (map limit_of l.limits))
    × (list_all limit_fits (map (limit_with l.instances l.depth) (map limit_of (drop l.limit-index l.limits))) ≡ list_all limit_fits (map (limit_with l.instances l.depth) (map limit_of l.limits)))
