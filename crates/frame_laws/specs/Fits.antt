-- When a program fits a place, a task and a configuration: frames stand at its nodes, and have the values that they need.
use Rattle.std.specs.Prelude.{◌≡◌, ℕ, ◌<◌, true, false, length, List, Some}
use Rattle.std.specs.List.{AllByRecursion}
use Rattle.std.specs.FinMap.{get}
use Rattle.core_language.specs.Names.{Name, Ident, same}
use Rattle.core_language.specs.Operands.{Supply, Pat, Proof}
use Rattle.core_language.specs.Programs.{Body, Span}
use Rattle.core_language.specs.Programs as body
use Rattle.core_language.specs.Values.{Value}
use Rattle.core_language.specs.Computing.{Env, value_of}
use Rattle.core_language.specs.Configurations.{Caller, Place, Ended, Running, Task, Config}
use Rattle.core_programs.specs.declared.nodes.Parts.{Parts}
use Rattle.core_programs.specs.Bodies.{rest}
use Rattle.frame_laws.specs.Needs.{needs}

-- the variable has a value
abbrev pub HasValue : Env → Ident → Type 0
HasValue env x = (v : Value) × (value_of env x ≡ Some v)

-- each variable that the body needs has a value
abbrev pub HasValues : Body → Env → Type 0
HasValues body env = (x : Ident) → needs body x ≡ true → HasValue env x

-- the body is that at a node of the program
abbrev pub StandsAtNode : Parts → Body → Type 0
StandsAtNode parts body = (n : ℕ) × (n < length parts.nodes) × (body ≡ rest parts.nodes n)

-- the first body is a Call that binds the name and goes on with the second
abbrev pub IsCall : Body → Ident → Body → Type 0
IsCall calling name next =
    (span : Span) × (pat : Pat) × (func : Ident) × (values : List Supply) × (proof : Proof)
    × (calling ≡ body.Call span pat func values proof next) × (pat.name ≡ name)

-- a caller goes on after a Call, and has a value for each variable that it needs then but for the name of the result
pub record CallerFits (parts : Parts) (caller : Caller) : Type 0 where
  pub call : ℕ
  pub within : call < length parts.nodes
  pub after_call : IsCall (rest parts.nodes call) caller.name caller.rest
  pub has_values : (x : Ident) → needs caller.rest x ≡ true → same caller.name x ≡ false → HasValue caller.env x

-- the frame that runs stands at a node and has the values that it needs, and each caller fits
abbrev pub Fits : Parts → Place → Type 0
Fits parts Ended = Unit {0}
Fits parts (Running body env callers) = StandsAtNode parts body × HasValues body env × AllByRecursion (CallerFits parts) callers

-- the program fits each task
abbrev pub FitsAll : Parts → Config → Type 0
FitsAll parts C = (p : Name) (task : Task) → get C.tasks p ≡ Some task → Fits parts task.place
