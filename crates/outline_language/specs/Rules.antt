-- The fifteen rules: what a form of a body makes of its context, or the first reason why it fails. Conditions are tried in the order written.
use Rattle.std.specs.Prelude.{ℕ, Bool, true, false, pos, neg_ℤ, ◌-ℤ◌, not, ◌&&◌, List, [], ◌∷◌, map, length, Option, Some, None, Result, Ok}
use Rattle.core_language.specs.Names.{Ident}
use Rattle.core_language.specs.Endings.{is_nil}
use Rattle.core_language.specs.Terms.{Term}
use Rattle.core_language.specs.Resources as written
use Rattle.core_language.specs.Operands.{Letter, Pat, Proof, Supply}
use Rattle.core_language.specs.Programs.{Function, Program, Arms, NoArm, Arm, function_named}
use Rattle.outline_language.specs.LinearForms.{Free, LinearForm, constant_form, variable_form, add_times, minus, plus_one}
use Rattle.outline_language.specs.Nameless.{Ref, Limit, Shape, Res, Resources, Int, End, NoMore, More, dual_ref, nameless_limit, nameless_shape, nameless_res, same_res}
use Rattle.outline_language.specs.Contexts.{Why, WrongForm, ForkForm, NotProved, and_then, or_why, provided, nothing, Context, Cursor, start_of, meaning, meanings, oblige, Supplied, instances, put_in_shape, put_in_res, leftovers, take, hold, nothing_left, add_int, add_hyp, add_hyps, bind}
use Rattle.outline_language.specs.Giving.{Given, accept, give, give_all, pair_of, sum_of}
use Rattle.outline_language.specs.Paths.{Message, unfolded}
use Rattle.outline_language.specs.Equations.{sends}

-- ---- integers

-- the integer variable that is bound next
abbrev pub next_variable : Context → LinearForm
next_variable ctx = variable_form (Free (length ctx.ints))

-- `let x = t`: t means an integer, and x is that one
abbrev pub rule_let : Context → Ident → Term → Result Context Why
rule_let ctx x term = and_then (meaning ctx term) (λ form. Ok (hold ctx x (Int form)))

-- a new integer variable, and the program variable that it is
abbrev pub new_int : Context → Ident → List LinearForm → Result Context Why
new_int ctx x hyps = and_then (add_int ctx x) (λ more. and_then (add_hyps more hyps) (λ after. Ok (hold after x (Int (next_variable ctx)))))

-- `let x = mul(a, b)`: both mean integers, and nothing is known of x
abbrev pub rule_mul : Context → Ident → (left right : Term) → Result Context Why
rule_mul ctx x left right = and_then (meaning ctx left) (λ a. and_then (meaning ctx right) (λ b. new_int ctx x []))

-- `let x = div(a, d)`: d times x is at most a, and less than d below it
abbrev pub rule_div : Context → Ident → Term → (divisor : ℕ) → Result Context Why
rule_div ctx x term divisor =
    and_then (meaning ctx term) (λ a.
    new_int ctx x
    (add_times (pos divisor) (next_variable ctx) (minus (constant_form (pos 0)) a)
    ∷ add_times (neg_ℤ (pos divisor)) (next_variable ctx) (minus a (constant_form (pos divisor -ℤ pos 1)))
    ∷ []))

-- `let x = rem(a, d)`: x is at least 0 and less than d
abbrev pub rule_rem : Context → Ident → Term → (divisor : ℕ) → Result Context Why
rule_rem ctx x term divisor =
    and_then (meaning ctx term) (λ a.
    new_int ctx x (minus (constant_form (pos 0)) (next_variable ctx) ∷ minus (next_variable ctx) (constant_form (pos divisor -ℤ pos 1)) ∷ []))

-- `print t`: t means an integer
abbrev pub rule_print : Context → Term → Result Context Why
rule_print ctx term = and_then (meaning ctx term) (λ form. Ok ctx)

-- `if a <= b`: the contexts of both bodies, in which a is at most b, or more
abbrev pub rule_if : Context → (left right : Term) → Result (Context × Context) Why
rule_if ctx left right =
    and_then (meaning ctx left) (λ a.
    and_then (meaning ctx right) (λ b.
    and_then (add_hyp ctx (minus a b)) (λ this.
    and_then (add_hyp ctx (plus_one (minus b a))) (λ other. Ok (this, other)))))

-- ---- functions: header and result, where binders stand for themselves

abbrev pub limits_of : Function → List Limit
limits_of f = map (nameless_limit [] f.bound.names) f.bound.limits

abbrev pub param_shapes : Function → List Shape
param_shapes f = map (λ p. nameless_shape [] f.bound.names p.shape) f.params

abbrev pub result_of : Function → Res
result_of f = nameless_res [] f.bound.names f.result

-- the instances for a function's binders
abbrev pub instances_for : Context → Function → Proof → Result Supplied Why
instances_for ctx f proof = instances ctx (length f.bound.names) (limits_of f) (start_of proof)

-- what a call leaves, and what it gives back
pub record Called : Type 0 where
  pub context : Context
  pub result : Res

-- instances and limits, each value at its parameter, leftovers, and then the result with the instances put in
abbrev pub called_with : Context → Function → List Supply → Proof → Result Called Why
called_with ctx f values proof =
    and_then (instances_for ctx f proof) (λ supplied.
    and_then (give_all supplied.forms values (param_shapes f) (record { context = ctx; cursor = supplied.cursor })) (λ given.
    and_then (leftovers given.cursor) (λ _.
    and_then (put_in_res supplied.forms (result_of f)) (λ result.
    Ok (record { context = given.context; result = result })))))

abbrev pub called : Program → Context → Ident → List Supply → Proof → Result Called Why
called program ctx f values proof = and_then (or_why (function_named f program.funcs) WrongForm) (λ func. called_with ctx func values proof)

-- `let p = f(v, ..)`: the call, and its result is bound
abbrev pub rule_call : Program → Context → Pat → Ident → List Supply → Proof → Result Context Why
rule_call program ctx pat f values proof = and_then (called program ctx f values proof) (λ call. bind call.context pat call.result)

-- `f(v, ..)` at the end: the call, its result is the own one, and nothing is left
abbrev pub rule_tail : Program → Res → Context → Ident → List Supply → Proof → Result (Unit {0}) Why
rule_tail program own ctx f values proof =
    and_then (called program ctx f values proof) (λ call.
    and_then (provided (same_res call.result own) WrongForm nothing) (λ _. nothing_left call.context.entries))

-- `ret v`: the value at the own result, leftovers, and nothing is left
abbrev pub rule_ret : Res → Context → Supply → Proof → Result (Unit {0}) Why
rule_ret own ctx value proof =
    and_then (give value own (record { context = ctx; cursor = start_of proof })) (λ given.
    and_then (leftovers given.cursor) (λ _. nothing_left given.context.entries))

-- ---- channels

-- the end that a forked function begins with, and the shapes of its other parameters
abbrev pub first_end : List Shape → Option (Ref × List Shape)
first_end (End ref ∷ shapes) = Some (ref, shapes)
first_end _ = None

-- the unit without binders
abbrev pub is_bare_unit : written.Res → Bool
is_bare_unit (written.Binds bound written.Unit) = is_nil bound.names && is_nil bound.limits
is_bare_unit (written.Binds bound _) = false

-- a function that may be forked
abbrev pub fork_form : Function → Result (Ref × List Shape) Why
fork_form f = and_then (provided (is_bare_unit f.result) ForkForm nothing) (λ _. or_why (first_end (param_shapes f)) ForkForm)

-- the child's end at the first parameter
abbrev pub give_end : List LinearForm → Ref → Ref → Given → Result Given Why
give_end forms end first given =
    and_then (put_in_shape forms (End first)) (λ asked.
    and_then (accept given.context (End end) asked given.cursor) (λ cursor. Ok (record given { cursor = cursor })))

-- the arguments, instances and limits, the child's end, each value, leftovers; then the parent has the other end
abbrev pub forked_with : Context → Ident → written.Ref → Function → (Ref × List Shape) → List Supply → Proof → Result Context Why
forked_with ctx x ref f form values proof =
    and_then (meanings ctx ref.args) (λ args.
    let own : Ref = record { dual = ref.dual; name = ref.name; args = args } in
    and_then (instances_for ctx f proof) (λ supplied.
    and_then (give_end supplied.forms (dual_ref own) form.0 (record { context = ctx; cursor = supplied.cursor })) (λ first.
    and_then (give_all supplied.forms values form.1 first) (λ given.
    and_then (leftovers given.cursor) (λ _.
    Ok (hold given.context x (End own)))))))

-- `let x = fork E f(v, ..)`: a function that may be forked, and then all that is behind it
abbrev pub rule_fork : Program → Context → Ident → written.Ref → Ident → List Supply → Proof → Result Context Why
rule_fork program ctx x ref f values proof =
    and_then (or_why (function_named f program.funcs) WrongForm) (λ func.
    and_then (fork_form func) (λ form. forked_with ctx x ref func form values proof))

-- the reference of a shape that is an end
abbrev pub end_of : Shape → Option Ref
end_of (End ref) = Some ref
end_of _ = None

-- the message of an end that is taken, and the context without the end
pub record Opened : Type 0 where
  pub message : Message
  pub context : Context
  pub cursor : Cursor

-- a name is taken, is an end, and is followed by its path to the message
abbrev pub opened : Program → Context → Ident → List Letter → Proof → Result Opened Why
opened program ctx c path proof =
    and_then (take ctx c) (λ taken.
    and_then (or_why (end_of taken.shape) WrongForm) (λ end.
    and_then (unfolded program.protos taken.context end path (start_of proof)) (λ found.
    Ok (record { message = found.message; context = taken.context; cursor = found.cursor }))))

-- `send1 c v`: the message of c is sent, v is given at it, leftovers
abbrev pub rule_send : Program → Context → Ident → List Letter → Supply → Proof → Result Context Why
rule_send program ctx c path value proof =
    and_then (opened program ctx c path proof) (λ end.
    and_then (provided (sends end.message.direction) WrongForm nothing) (λ _.
    and_then (give value end.message.res (record { context = end.context; cursor = end.cursor })) (λ given.
    and_then (leftovers given.cursor) (λ _. Ok given.context))))

-- `let p = recv1 c`: the message of c is received, leftovers, and it is bound
abbrev pub rule_recv : Program → Context → Pat → Ident → List Letter → Proof → Result Context Why
rule_recv program ctx pat c path proof =
    and_then (opened program ctx c path proof) (λ end.
    and_then (provided (not (sends end.message.direction)) WrongForm nothing) (λ _.
    and_then (leftovers end.cursor) (λ _. bind end.context pat end.message.res)))

-- ---- parts of values

-- `let (p, q) = x`: x is taken and a pair, and its parts are bound
abbrev pub rule_split : Context → (first second : Pat) → Ident → Result Context Why
rule_split ctx first second x =
    and_then (take ctx x) (λ taken.
    and_then (or_why (pair_of taken.shape) WrongForm) (λ parts.
    and_then (bind taken.context first parts.0) (λ more. bind more second parts.1)))

-- an arm for each resource
abbrev pub as_many : Resources → Arms → Bool
as_many NoMore NoArm = true
as_many (More r rs) (Arm pat next arms) = as_many rs arms
as_many _ _ = false

-- the context of each arm, which its pattern is bound in
abbrev pub bind_arms : Context → Resources → Arms → Result (List Context) Why
bind_arms ctx (More r rs) (Arm pat next arms) =
    and_then (bind ctx pat r) (λ here. and_then (bind_arms ctx rs arms) (λ others. Ok (here ∷ others)))
bind_arms ctx _ _ = Ok []

-- `match x`: x is taken and a sum with as many resources as there are arms, and each pattern is bound
abbrev pub rule_match : Context → Ident → Arms → Result (List Context) Why
rule_match ctx x arms =
    and_then (take ctx x) (λ taken.
    and_then (or_why (sum_of taken.shape) WrongForm) (λ resources.
    and_then (provided (as_many resources arms) WrongForm nothing) (λ _. bind_arms taken.context resources arms)))

-- `absurd`: 1 is at most 0, and leftovers
abbrev pub rule_absurd : Context → Proof → Result (Unit {0}) Why
rule_absurd ctx proof = and_then (oblige NotProved ctx (constant_form (pos 1)) (start_of proof)) leftovers
