-- Resources with the end at which a receiver goes on.
use Rattle.std.specs.Prelude.{Bool, not, if◌then◌else◌, List, [], Some}
use Rattle.core_language.specs.Names.{Ident}
use Rattle.core_language.specs.Resources.{Ref, Res}
use Rattle.core_language.specs.Resources as written
use Rattle.outline_language.specs.Nameless as nameless
use Rattle.outline_language.specs.Nameless.{nameless_shape, nameless_ref, nameless_res}
use Rattle.outline_language.specs.Equations.{with_end}

-- the dual, where the mark is set
abbrev pub turned_ref : Bool → Ref → Ref
turned_ref turned ref = record { dual = if turned then not ref.dual else ref.dual; name = ref.name; args = ref.args }

-- the shape, and the end or its dual
abbrev pub shape_under : (ints around : List Ident) → written.Shape → Bool → Ref → nameless.Shape
shape_under ints around shape turned next =
    nameless.Pair (nameless.Binds 0 [] (nameless_shape ints around shape)) (nameless.Binds 0 [] (nameless.End (nameless_ref ints around (turned_ref turned next))))

-- the resource under these binders, with the end or its dual
abbrev pub message_under : (ints around : List Ident) → Res → Bool → Ref → nameless.Res
message_under ints around res turned next = nameless_res ints around (with_end res (Some (turned_ref turned next)))
