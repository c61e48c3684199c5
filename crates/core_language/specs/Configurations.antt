-- Configurations: tasks, channels and prints.
use Rattle.std.specs.Prelude.{ℕ, ℤ, Bool, false, ◌||◌, List, [], ◌∷◌, filter, Option, Some, None}
use Rattle.std.specs.FinMap.{insert, empty}
use Rattle.core_language.specs.Names.{Name, NameMap, Ident, main, same}
use Rattle.core_language.specs.Terms.{Term}
use Rattle.core_language.specs.Operands.{Supply, Pat}
use Rattle.core_language.specs.Operands as supply
use Rattle.core_language.specs.Programs.{Body, Arms, Program, Function, main_function}
use Rattle.core_language.specs.Programs as body
use Rattle.core_language.specs.Values.{Value}
use Rattle.core_language.specs.Computing.{Env}

-- ---- what a body still names

abbrev pub is_name : Ident → Option Ident → Bool
is_name x (Some y) = same x y
is_name x None = false

abbrev pub in_term : Ident → Term → Bool
in_term x [] = false
in_term x (part ∷ parts) = is_name x part.name || in_term x parts

abbrev pub in_supply : Ident → Supply → Bool
in_supply x supply.Unit = false
in_supply x (supply.Pair s t) = in_supply x s || in_supply x t
in_supply x (supply.Arm i s) = in_supply x s
in_supply x (supply.Sum term) = in_term x term

abbrev pub in_supplies : Ident → List Supply → Bool
in_supplies x [] = false
in_supplies x (s ∷ ss) = in_supply x s || in_supplies x ss

-- the body names the variable in an operand, a value, a channel or what it takes apart
abbrev mutual
  pub names : Body → Ident → Bool
  names (body.Let span y term next) x = in_term x term || names next x
  names (body.Mul span y left right next) x = in_term x left || in_term x right || names next x
  names (body.Div span y term divisor next) x = in_term x term || names next x
  names (body.Rem span y term divisor next) x = in_term x term || names next x
  names (body.Call span pat func values proof next) x = in_supplies x values || names next x
  names (body.Tail span func values proof) x = in_supplies x values
  names (body.Fork span y proto func values proof next) x = in_supplies x values || names next x
  names (body.Send1 span channel path value proof next) x = same x channel || in_supply x value || names next x
  names (body.Recv1 span pat channel path proof next) x = same x channel || names next x
  names (body.Print span term next) x = in_term x term || names next x
  names (body.If span left right this other) x = in_term x left || in_term x right || names this x || names other x
  names (body.Split span first second y next) x = same x y || names next x
  names (body.Match span y arms) x = same x y || arms_name arms x
  names (body.Absurd span proof) x = false
  names (body.Ret span value proof) x = in_supply x value

  -- the body of some arm names it
  pub arms_name : Arms → Ident → Bool
  arms_name body.NoArm x = false
  arms_name (body.Arm pat next arms) x = names next x || arms_name arms x

-- the variables that the body still names
abbrev pub kept : Body → Env → Env
kept rest env = filter (λ b. names rest b.0) env

-- ---- tasks

-- where a call returns to: the value gets the name, and the rest goes on
pub record Caller : Type 0 where
  pub name : Ident
  pub rest : Body
  pub env : Env

-- a task that has ended, or the rest of a body, with its callers from the latest one on
pub data Place : Type 0 where
  Ended : Place
  Running : Body → Env → List Caller → Place

pub record Task : Type 0 where
  pub place : Place
  -- how many forks it has made
  pub forks : ℕ

-- a channel is Empty or has a value; prints are in the order in which they came
pub record Config : Type 0 where
  pub tasks : NameMap Task
  pub channels : NameMap (Option Value)
  pub prints : List (Name × ℤ)

abbrev pub started : Option Function → Place
started None = Ended
started (Some f) = Running f.body [] []

-- the task `main` at the body of the function `main`, and no channel
abbrev pub start : Program → Config
start program = record {
  tasks = insert empty main (record { place = started (main_function program); forks = 0 });
  channels = empty;
  prints = [];
}
