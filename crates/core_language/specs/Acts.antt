-- What a task does next by itself, whatever the other tasks do.
use Rattle.std.specs.Prelude.{ℕ, ℤ, int_le, if◌then◌else◌, List, [], ◌∷◌, ◌++◌, Option, Some, None}
use Rattle.core_language.specs.Names.{Name, Ident, child}
use Rattle.core_language.specs.Operands.{Pat}
use Rattle.core_language.specs.Programs.{Body, Program, Function, Param, function_named, arm_at}
use Rattle.core_language.specs.Programs as body
use Rattle.core_language.specs.Values.{Value}
use Rattle.core_language.specs.Values as value
use Rattle.core_language.specs.Computing.{Limits, Halt, Depth, StuckWhy, NotEnd, NotPair, NotSum, Absurd, Computed, Done, Sticks, Halts, Env, value_of, sum_of, supplied, all_supplied, multiplied, divided, left_over}
use Rattle.core_language.specs.Configurations.{kept, Caller, Place, Running, Ended}

-- what a task does, and what becomes of it; a receive is told the value
pub data Act : Type 0 where
  Silent : Place → Act
  Print : ℤ → Place → Act
  Fork : (child : Name) → (parent its : Place) → Act
  Send : (channel : Name) → Value → Place → Act
  Recv : (channel : Name) → (Value → Place) → Act
  End : Act
  IsEnded : Act
  IsHalted : Halt → Act
  IsStuck : StuckWhy → Act

-- the channel of a send or a receive
abbrev pub channel_in : Act → Option Name
channel_in (Send channel v place) = Some channel
channel_in (Recv channel place) = Some channel
channel_in other = None

-- an act that needs a result first
abbrev pub with_result : {A : Type 0} → Computed A → (A → Act) → Act
with_result (Done a) go = go a
with_result (Sticks why) go = IsStuck why
with_result (Halts why) go = IsHalted why

-- a frame at the rest of a body, with what that still names
abbrev pub at : Body → Env → List Caller → Place
at rest env callers = Running rest (kept rest env) callers

abbrev pub bound : Env → Ident → Value → Env
bound env x v = env ++ (x, v) ∷ []

-- the parameters and their values
abbrev pub params_env : List Param → List Value → Env
params_env [] vs = []
params_env (p ∷ ps) [] = []
params_env (p ∷ ps) (v ∷ vs) = (p.name, v) ∷ params_env ps vs

-- a function at its values; no program names a function that isn't there
abbrev pub entered : Option Function → List Value → List Caller → Place
entered (Some f) vs callers = at f.body (params_env f.params vs) callers
entered None vs callers = Ended

abbrev pub returned : List Caller → Value → Act
returned [] v = End
returned (c ∷ callers) v = Silent (at c.rest (bound c.env c.name v) callers)

abbrev pub on_end : Option Value → (Name → Act) → Act
on_end (Some (value.End c)) go = go c
on_end (Some (value.Int z)) go = IsStuck NotEnd
on_end (Some value.Unit) go = IsStuck NotEnd
on_end (Some (value.Pair a b)) go = IsStuck NotEnd
on_end (Some (value.Arm i a)) go = IsStuck NotEnd
on_end None go = IsStuck NotEnd

abbrev pub on_pair : Option Value → (Value → Value → Act) → Act
on_pair (Some (value.Pair a b)) go = go a b
on_pair (Some (value.Int z)) go = IsStuck NotPair
on_pair (Some value.Unit) go = IsStuck NotPair
on_pair (Some (value.Arm i a)) go = IsStuck NotPair
on_pair (Some (value.End c)) go = IsStuck NotPair
on_pair None go = IsStuck NotPair

abbrev pub on_sum : Option Value → (ℕ → Value → Act) → Act
on_sum (Some (value.Arm i a)) go = go i a
on_sum (Some (value.Int z)) go = IsStuck NotSum
on_sum (Some value.Unit) go = IsStuck NotSum
on_sum (Some (value.Pair a b)) go = IsStuck NotSum
on_sum (Some (value.End c)) go = IsStuck NotSum
on_sum None go = IsStuck NotSum

-- the body of an arm, where there is one with the value's number
abbrev pub chosen : Option (Pat × Body) → Env → List Caller → Value → Act
chosen (Some arm) env callers v = Silent (at arm.1 (bound env arm.0.name v) callers)
chosen None env callers v = IsStuck NotSum

-- the fork makes a channel and a task of one name, and gives each task one end
abbrev pub forked : Limits → Program → Name → ℕ → Ident → Ident → Body → Env → List Caller → List Value → Act
forked limits program p forks x func next env callers vs =
    if limits.forks p
    then Fork (child p forks) (at next (bound env x (value.End (child p forks))) callers)
    (entered (function_named func program.funcs) (value.End (child p forks) ∷ vs) [])
    else IsHalted Depth

-- the act of the task p, which has made so many forks, at each form
abbrev pub act_at : Limits → Program → Name → ℕ → Body → Env → List Caller → Act
act_at limits program p forks (body.Let span x term next) env callers =
    with_result (sum_of limits env term) (λ z. Silent (at next (bound env x (value.Int z)) callers))
act_at limits program p forks (body.Mul span x left right next) env callers =
    with_result (multiplied limits env left right) (λ z. Silent (at next (bound env x (value.Int z)) callers))
act_at limits program p forks (body.Div span x term divisor next) env callers =
    with_result (divided limits env term divisor) (λ z. Silent (at next (bound env x (value.Int z)) callers))
act_at limits program p forks (body.Rem span x term divisor next) env callers =
    with_result (left_over limits env term divisor) (λ z. Silent (at next (bound env x (value.Int z)) callers))
act_at limits program p forks (body.Call span pat func values proof next) env callers =
    with_result (all_supplied limits env values) (λ vs.
    Silent (entered (function_named func program.funcs) vs (record { name = pat.name; rest = next; env = kept next env } ∷ callers)))
act_at limits program p forks (body.Tail span func values proof) env callers =
    with_result (all_supplied limits env values) (λ vs. Silent (entered (function_named func program.funcs) vs callers))
act_at limits program p forks (body.Fork span x proto func values proof next) env callers =
    with_result (all_supplied limits env values) (forked limits program p forks x func next env callers)
act_at limits program p forks (body.Send1 span channel path value proof next) env callers =
    with_result (supplied limits env value) (λ v. on_end (value_of env channel) (λ c. Send c v (at next env callers)))
act_at limits program p forks (body.Recv1 span pat channel path proof next) env callers =
    on_end (value_of env channel) (λ c. Recv c (λ v. at next (bound env pat.name v) callers))
act_at limits program p forks (body.Print span term next) env callers =
    with_result (sum_of limits env term) (λ z. Print z (at next env callers))
act_at limits program p forks (body.If span left right this other) env callers =
    with_result (sum_of limits env left) (λ a. with_result (sum_of limits env right) (λ b.
    Silent (at (if int_le a b then this else other) env callers)))
act_at limits program p forks (body.Split span first second x next) env callers =
    on_pair (value_of env x) (λ a b. Silent (at next (bound (bound env first.name a) second.name b) callers))
act_at limits program p forks (body.Match span x arms) env callers =
    on_sum (value_of env x) (λ i v. chosen (arm_at arms i) env callers v)
act_at limits program p forks (body.Absurd span proof) env callers = IsStuck Absurd
act_at limits program p forks (body.Ret span value proof) env callers =
    with_result (supplied limits env value) (returned callers)

-- what the task p does next
abbrev pub act_of : Limits → Program → Name → ℕ → Place → Act
act_of limits program p forks Ended = IsEnded
act_of limits program p forks (Running rest env callers) = act_at limits program p forks rest env callers
