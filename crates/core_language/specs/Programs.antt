-- Core programs: functions whose bodies are trees.
use Rattle.std.specs.Prelude.{ℕ, zero, suc, codes, if◌then◌else◌, List, [], ◌∷◌, Option, Some, None}
use Rattle.core_language.specs.Names.{Ident, same}
use Rattle.core_language.specs.Terms.{Term, Bound}
use Rattle.core_language.specs.Resources.{Ref, Shape, Res, Proto}
use Rattle.core_language.specs.Operands.{Supply, Pat, Letter, Proof}

-- where a form stands in its text
pub record Span : Type 0 where
  pub start : ℕ
  pub stop : ℕ
  pub line : ℕ
  pub column : ℕ

mutual
  -- the fifteen forms, each with the bodies that may follow it
  pub data Body : Type 0 where
    Let : Span → (name : Ident) → Term → (next : Body) → Body
    Mul : Span → (name : Ident) → (left right : Term) → (next : Body) → Body
    Div : Span → (name : Ident) → Term → (divisor : ℕ) → (next : Body) → Body
    Rem : Span → (name : Ident) → Term → (divisor : ℕ) → (next : Body) → Body
    Call : Span → Pat → (func : Ident) → List Supply → Proof → (next : Body) → Body
    Tail : Span → (func : Ident) → List Supply → Proof → Body
    Fork : Span → (name : Ident) → Ref → (func : Ident) → List Supply → Proof → (next : Body) → Body
    Send1 : Span → (channel : Ident) → List Letter → Supply → Proof → (next : Body) → Body
    Recv1 : Span → Pat → (channel : Ident) → List Letter → Proof → (next : Body) → Body
    Print : Span → Term → (next : Body) → Body
    If : Span → (left right : Term) → (this other : Body) → Body
    Split : Span → (first second : Pat) → (name : Ident) → (next : Body) → Body
    Match : Span → (name : Ident) → Arms → Body
    Absurd : Span → Proof → Body
    Ret : Span → Supply → Proof → Body

  -- the arms of a match, each with its pattern and its body
  pub data Arms : Type 0 where
    NoArm : Arms
    Arm : Pat → (next : Body) → (more : Arms) → Arms

-- the arms as a list
abbrev pub arm_list : Arms → List (Pat × Body)
arm_list NoArm = []
arm_list (Arm pat next more) = (pat, next) ∷ arm_list more

-- the arm with this number, counted from 0
abbrev pub arm_at : Arms → ℕ → Option (Pat × Body)
arm_at NoArm i = None
arm_at (Arm pat next more) zero = Some (pat, next)
arm_at (Arm pat next more) (suc i) = arm_at more i

pub record Param : Type 0 where
  pub name : Ident
  pub shape : Shape

pub record Function : Type 0 where
  pub name : Ident
  pub bound : Bound
  pub params : List Param
  pub result : Res
  pub body : Body
  pub span : Span

pub record Program : Type 0 where
  pub protos : List Proto
  pub funcs : List Function

-- the first function with this name
abbrev pub function_named : Ident → List Function → Option Function
function_named f [] = None
function_named f (g ∷ gs) = if same g.name f then Some g else function_named f gs

abbrev pub main_function : Program → Option Function
main_function program = function_named (codes "main") program.funcs
