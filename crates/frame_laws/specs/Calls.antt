-- The functions that the forms of a body name.
use Rattle.std.specs.Prelude.{◌≡◌, ℕ, suc, length, Some}
use Rattle.core_language.specs.Names.{Ident}
use Rattle.core_language.specs.Programs.{Body, Function, Program, function_named}
use Rattle.core_language.specs.Programs as body

-- there is a function with this name, and it has so many parameters
abbrev pub HasFunction : Program → Ident → ℕ → Type 0
HasFunction program name count = (f : Function) × (function_named name program.funcs ≡ Some f) × (length f.params ≡ count)

-- the function that the form names is there, and has a parameter for each value that it is given: a Fork gives the end first
abbrev pub FindsFunction : Program → Body → Type 0
FindsFunction program (body.Call span pat func values proof next) = HasFunction program func (length values)
FindsFunction program (body.Tail span func values proof) = HasFunction program func (length values)
FindsFunction program (body.Fork span x proto func values proof next) = HasFunction program func (suc (length values))
FindsFunction program other = Unit {0}
