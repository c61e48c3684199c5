-- What a resource says.
use Rattle.std.specs.Prelude.{map}
use Rattle.outline_language.specs.Nameless as nameless
use Rattle.outline_language.specs.Nameless.{Res}
use Rattle.nameless_shapes.specs.declared.shapes.Under.{Under}
use Rattle.nameless_forms.specs.Limits.{limit_of}

abbrev pub res_under : Under → Res
res_under under = nameless.Binds under.binders (map limit_of under.limits.now) under.shape.now
