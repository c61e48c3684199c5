-- What computing the operands of a form comes to.
use Rattle.std.specs.Prelude.{ℕ, ℤ, pos, negsuc, ◌+ℤ◌, ◌-ℤ◌, ◌*ℤ◌, int_lt, Bool, true, false, not, ◌&&◌, if◌then◌else◌, nat_lt, length, List, [], ◌∷◌, Option, Some, None}
use Rattle.std.specs.Int.{int_div_euclid, int_rem_euclid}
use Rattle.core_language.specs.Names.{Name, Ident, same}
use Rattle.core_language.specs.Terms.{Term}
use Rattle.core_language.specs.Operands.{Supply}
use Rattle.core_language.specs.Operands as supply
use Rattle.core_language.specs.Values.{Value, is_shallow}
use Rattle.core_language.specs.Values as value

-- why a task can make no step, now or ever
pub data StuckWhy : Type 0 where
  NotInt : StuckWhy
  NotEnd : StuckWhy
  NotPair : StuckWhy
  NotSum : StuckWhy
  FullChannel : StuckWhy
  NoChannel : StuckWhy
  Absurd : StuckWhy
  Deep : StuckWhy

-- why the machine can't make a task's step: an integer outside 128 bits, or too long a name
pub data Halt : Type 0 where
  Range : Halt
  Depth : Halt

-- the integers that may be computed, and the tasks that may fork
pub record Limits : Type 0 where
  pub holds : ℤ → Bool
  pub forks : Name → Bool

-- no limit
abbrev pub unbounded : Limits
unbounded = record { holds = λ z. true; forks = λ p. true }

-- the limits of the machine: 128 bits, and names of at most 1,024 parts
abbrev pub machine : Limits
machine = record {
  holds = λ z. not (int_lt z (negsuc 170141183460469231731687303715884105727)) && not (int_lt (pos 170141183460469231731687303715884105727) z);
  forks = λ p. nat_lt (length p) 1024;
}

-- the result, or the first trouble on the way
pub data Computed (A : Type 0) : Type 0 where
  Done : A → Computed A
  Sticks : StuckWhy → Computed A
  Halts : Halt → Computed A

abbrev pub and_then : {A B : Type 0} → Computed A → (A → Computed B) → Computed B
and_then (Done a) go = go a
and_then (Sticks why) go = Sticks why
and_then (Halts why) go = Halts why

-- the values of variables, in the order in which they were bound
abbrev pub Env : Type 0
Env = List (Ident × Value)

abbrev pub value_of : Env → Ident → Option Value
value_of [] x = None
value_of (b ∷ bs) x = if same b.0 x then Some b.1 else value_of bs x

-- ---- terms

abbrev pub as_int : Option Value → Computed ℤ
as_int (Some (value.Int z)) = Done z
as_int (Some value.Unit) = Sticks NotInt
as_int (Some (value.Pair a b)) = Sticks NotInt
as_int (Some (value.Arm i a)) = Sticks NotInt
as_int (Some (value.End c)) = Sticks NotInt
as_int None = Sticks NotInt

-- an integer that was computed, where the limits allow it
abbrev pub checked : Limits → ℤ → Computed ℤ
checked limits z = if limits.holds z then Done z else Halts Range

-- the factor, times the integer that the name has
abbrev pub product : Limits → Env → ℤ → Option Ident → Computed ℤ
product limits env factor None = checked limits factor
product limits env factor (Some x) = and_then (as_int (value_of env x)) (λ z. checked limits (factor *ℤ z))

abbrev pub joined : Bool → ℤ → ℤ → ℤ
joined negative total z = if negative then total -ℤ z else total +ℤ z

-- the running sum: each product, and then each sum, in order
abbrev pub sum_from : Limits → Env → ℤ → Term → Computed ℤ
sum_from limits env total [] = Done total
sum_from limits env total (part ∷ parts) =
    and_then (product limits env part.factor part.name) (λ z.
    and_then (checked limits (joined part.negative total z)) (λ next. sum_from limits env next parts))

abbrev pub sum_of : Limits → Env → Term → Computed ℤ
sum_of limits env term = sum_from limits env (pos 0) term

-- ---- values

abbrev pub is_one : ℤ → Bool
is_one z = not (int_lt z (pos 1)) && not (int_lt (pos 1) z)

abbrev pub bare_part : Bool → ℤ → Option Ident → Option Ident
bare_part true factor name = None
bare_part false factor name = if is_one factor then name else None

-- the name that a term is, where it is one name and nothing else
abbrev pub bare_name : Term → Option Ident
bare_name [] = None
bare_name (part ∷ []) = bare_part part.negative part.factor part.name
bare_name (part ∷ next ∷ parts) = None

abbrev pub known : Option Value → Computed Value
known (Some v) = Done v
known None = Sticks NotInt

-- a value that was made, unless it is nested too deep
abbrev pub shallow : Value → Computed Value
shallow v = if is_shallow v then Done v else Sticks Deep

-- a bare name is any value, and another term an integer
abbrev pub term_value : Limits → Env → Term → Option Ident → Computed Value
term_value limits env term (Some x) = known (value_of env x)
term_value limits env term None = and_then (sum_of limits env term) (λ z. Done (value.Int z))

-- the value of a supply, its parts first
abbrev pub supplied : Limits → Env → Supply → Computed Value
supplied limits env supply.Unit = Done value.Unit
supplied limits env (supply.Pair s t) =
    and_then (supplied limits env s) (λ a. and_then (supplied limits env t) (λ b. shallow (value.Pair a b)))
supplied limits env (supply.Arm i s) = and_then (supplied limits env s) (λ a. shallow (value.Arm i a))
supplied limits env (supply.Sum term) = term_value limits env term (bare_name term)

-- the values, from left to right
abbrev pub all_supplied : Limits → Env → List Supply → Computed (List Value)
all_supplied limits env [] = Done []
all_supplied limits env (s ∷ ss) =
    and_then (supplied limits env s) (λ v. and_then (all_supplied limits env ss) (λ vs. Done (v ∷ vs)))

-- ---- operations

abbrev pub multiplied : Limits → Env → Term → Term → Computed ℤ
multiplied limits env left right =
    and_then (sum_of limits env left) (λ a. and_then (sum_of limits env right) (λ b. checked limits (a *ℤ b)))

-- the quotient, rounded down: the divisor is positive
abbrev pub divided : Limits → Env → Term → ℕ → Computed ℤ
divided limits env term divisor = and_then (sum_of limits env term) (λ a. checked limits (int_div_euclid a (pos divisor)))

-- what is left over, at least 0 and less than the divisor
abbrev pub left_over : Limits → Env → Term → ℕ → Computed ℤ
left_over limits env term divisor = and_then (sum_of limits env term) (λ a. checked limits (int_rem_euclid a (pos divisor)))
