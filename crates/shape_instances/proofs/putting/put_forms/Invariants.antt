use Rattle.std.proofs.Common.{◌≡◌, ◌++◌, map, drop}
use Rattle.std.specs.List.{list_all}
use Rattle.outline_language.specs.LinearForms.{form_fits}
use Rattle.outline_language.specs.Nameless.{form_with}
use Rattle.shape_instances.proofs.putting.put_forms.Given as goal

abbrev pub invariant-loop-form : goal.invariant-loop-form
invariant-loop-form l =
    (l.put ++ map (form_with l.instances l.depth) (drop l.form-index l.forms) ≡ map (form_with l.instances l.depth) l.forms)
    × (list_all form_fits (map (form_with l.instances l.depth) (drop l.form-index l.forms)) ≡ list_all form_fits (map (form_with l.instances l.depth) l.forms))
