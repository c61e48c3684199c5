-- References as the definitions have them.
use Rattle.outline_language.specs.Nameless as nameless
use Rattle.nameless_shapes.specs.declared.shapes.Ref.{Ref}

abbrev pub ref_of : Ref → nameless.Ref
ref_of ref = record { dual = ref.dual; name = ref.name; args = ref.args }
