-- The machine's limits change no result: it halts, or computes what no limit would.
use Rattle.std.proofs.Common.{◌≡◌, ℕ, ℤ, Bool, true, false, if◌then◌else◌, ◌⊎◌, inl, inr, refl, ap, subst, List, [], ◌∷◌, Option, Some, None}
use Rattle.std.specs.FinMap.{get}
use Rattle.std.specs.Prelude.{◌*ℤ◌}
use Rattle.core_language.specs.Names.{Name, Ident}
use Rattle.core_language.specs.Terms.{Term}
use Rattle.core_language.specs.Operands.{Supply}
use Rattle.core_language.specs.Operands as supply
use Rattle.core_language.specs.Programs.{Body, Program}
use Rattle.core_language.specs.Programs as body
use Rattle.core_language.specs.Values.{Value}
use Rattle.core_language.specs.Computing.{machine, unbounded, Halt, Range, Depth, Computed, Done, Sticks, Halts, and_then, Env, value_of, as_int, checked, product, joined, sum_from, sum_of, bare_name, term_value, supplied, all_supplied, multiplied, divided, left_over}
use Rattle.core_language.specs.Configurations.{Config, Caller, Place, Running, Ended, Task}
use Rattle.core_language.specs.Acts.{Act, with_result, forked, act_at, act_of}
use Rattle.core_language.specs.Acts as act
use Rattle.core_language.specs.Steps.{IsHalted, effect, step_at}
use Rattle.core_language.specs.Laws.{HaltsOrSteps}

-- the first result, with limits, is the second one or a halt
abbrev Agrees : {A : Type 0} → Computed A → Computed A → Type 0
Agrees m u = ((why : Halt) × (m ≡ Halts why)) ⊎ (m ≡ u)

abbrev pub ActsAlike : Act → Act → Type 0
ActsAlike m u = ((why : Halt) × (m ≡ act.IsHalted why)) ⊎ (m ≡ u)

same_then : {A B : Type 0} (m : Computed A) (f g : A → Computed B) → ((a : A) → Agrees (f a) (g a)) → Agrees (and_then m f) (and_then m g)
same_then (Done a) f g alike = alike a
same_then (Sticks why) f g alike = inr refl
same_then (Halts why) f g alike = inr refl

and_then-agrees : {A B : Type 0} (m u : Computed A) (f g : A → Computed B) → Agrees m u → ((a : A) → Agrees (f a) (g a)) → Agrees (and_then m f) (and_then u g)
and_then-agrees m u f g (inl (why, is)) alike = inl (why, ap (λ c. and_then c f) is)
and_then-agrees m u f g (inr is) alike = subst (λ c. Agrees (and_then m f) (and_then c g)) is (same_then m f g alike)

checked-agrees : (z : ℤ) → Agrees (checked machine z) (checked unbounded z)
checked-agrees z = go (machine.holds z)
  where
    go : (b : Bool) → Agrees (if b then Done z else Halts Range) (Done z)
    go true = inr refl
    go false = inl (Range, refl)

product-agrees : (env : Env) (factor : ℤ) (name : Option Ident) → Agrees (product machine env factor name) (product unbounded env factor name)
product-agrees env factor None = checked-agrees factor
product-agrees env factor (Some x) = same_then (as_int (value_of env x)) _ _ (λ z. checked-agrees (factor *ℤ z))

sum_from-agrees : (env : Env) (total : ℤ) (term : Term) → Agrees (sum_from machine env total term) (sum_from unbounded env total term)
sum_from-agrees env total [] = inr refl
sum_from-agrees env total (part ∷ parts) =
    and_then-agrees _ _ _ _ (product-agrees env part.factor part.name) (λ z.
    and_then-agrees _ _ _ _ (checked-agrees (joined part.negative total z)) (λ next. sum_from-agrees env next parts))

sum_of-agrees : (env : Env) (term : Term) → Agrees (sum_of machine env term) (sum_of unbounded env term)
sum_of-agrees env term = sum_from-agrees env _ term

term_value-agrees : (env : Env) (term : Term) (name : Option Ident) → Agrees (term_value machine env term name) (term_value unbounded env term name)
term_value-agrees env term (Some x) = inr refl
term_value-agrees env term None = and_then-agrees _ _ _ _ (sum_of-agrees env term) (λ z. inr refl)

supplied-agrees : (env : Env) (s : Supply) → Agrees (supplied machine env s) (supplied unbounded env s)
supplied-agrees env supply.Unit = inr refl
supplied-agrees env (supply.Pair s t) =
    and_then-agrees _ _ _ _ (supplied-agrees env s) (λ a. and_then-agrees _ _ _ _ (supplied-agrees env t) (λ b. inr refl))
supplied-agrees env (supply.Arm i s) = and_then-agrees _ _ _ _ (supplied-agrees env s) (λ a. inr refl)
supplied-agrees env (supply.Sum term) = term_value-agrees env term (bare_name term)

all_supplied-agrees : (env : Env) (ss : List Supply) → Agrees (all_supplied machine env ss) (all_supplied unbounded env ss)
all_supplied-agrees env [] = inr refl
all_supplied-agrees env (s ∷ ss) =
    and_then-agrees _ _ _ _ (supplied-agrees env s) (λ v. and_then-agrees _ _ _ _ (all_supplied-agrees env ss) (λ vs. inr refl))

multiplied-agrees : (env : Env) (left right : Term) → Agrees (multiplied machine env left right) (multiplied unbounded env left right)
multiplied-agrees env left right =
    and_then-agrees _ _ _ _ (sum_of-agrees env left) (λ a. and_then-agrees _ _ _ _ (sum_of-agrees env right) (λ b. checked-agrees (a *ℤ b)))

divided-agrees : (env : Env) (term : Term) (divisor : ℕ) → Agrees (divided machine env term divisor) (divided unbounded env term divisor)
divided-agrees env term divisor = and_then-agrees _ _ _ _ (sum_of-agrees env term) (λ a. checked-agrees _)

left_over-agrees : (env : Env) (term : Term) (divisor : ℕ) → Agrees (left_over machine env term divisor) (left_over unbounded env term divisor)
left_over-agrees env term divisor = and_then-agrees _ _ _ _ (sum_of-agrees env term) (λ a. checked-agrees _)

-- ---- acts

same_result : {A : Type 0} (m : Computed A) (f g : A → Act) → ((a : A) → ActsAlike (f a) (g a)) → ActsAlike (with_result m f) (with_result m g)
same_result (Done a) f g alike = alike a
same_result (Sticks why) f g alike = inr refl
same_result (Halts why) f g alike = inr refl

with_result-alike : {A : Type 0} (m u : Computed A) (f g : A → Act) → Agrees m u → ((a : A) → ActsAlike (f a) (g a)) → ActsAlike (with_result m f) (with_result u g)
with_result-alike m u f g (inl (why, is)) alike = inl (why, ap (λ c. with_result c f) is)
with_result-alike m u f g (inr is) alike = subst (λ c. ActsAlike (with_result m f) (with_result c g)) is (same_result m f g alike)

forked-alike : (program : Program) (p : Name) (forks : ℕ) (x func : Ident) (next : Body) (env : Env) (callers : List Caller) (vs : List Value)
    → ActsAlike (forked machine program p forks x func next env callers vs) (forked unbounded program p forks x func next env callers vs)
forked-alike program p forks x func next env callers vs = go (machine.forks p) _
  where
    go : (b : Bool) (a : Act) → ActsAlike (if b then a else act.IsHalted Depth) a
    go true a = inr refl
    go false a = inl (Depth, refl)

act_at-alike : (program : Program) (p : Name) (forks : ℕ) (rest : Body) (env : Env) (callers : List Caller)
    → ActsAlike (act_at machine program p forks rest env callers) (act_at unbounded program p forks rest env callers)
act_at-alike program p forks (body.Let span x term next) env callers = with_result-alike _ _ _ _ (sum_of-agrees env term) (λ z. inr refl)
act_at-alike program p forks (body.Mul span x left right next) env callers = with_result-alike _ _ _ _ (multiplied-agrees env left right) (λ z. inr refl)
act_at-alike program p forks (body.Div span x term divisor next) env callers = with_result-alike _ _ _ _ (divided-agrees env term divisor) (λ z. inr refl)
act_at-alike program p forks (body.Rem span x term divisor next) env callers = with_result-alike _ _ _ _ (left_over-agrees env term divisor) (λ z. inr refl)
act_at-alike program p forks (body.Call span pat func values proof next) env callers = with_result-alike _ _ _ _ (all_supplied-agrees env values) (λ vs. inr refl)
act_at-alike program p forks (body.Tail span func values proof) env callers = with_result-alike _ _ _ _ (all_supplied-agrees env values) (λ vs. inr refl)
act_at-alike program p forks (body.Fork span x proto func values proof next) env callers =
    with_result-alike _ _ _ _ (all_supplied-agrees env values) (forked-alike program p forks x func next env callers)
act_at-alike program p forks (body.Send1 span channel path value proof next) env callers = with_result-alike _ _ _ _ (supplied-agrees env value) (λ v. inr refl)
act_at-alike program p forks (body.Recv1 span pat channel path proof next) env callers = inr refl
act_at-alike program p forks (body.Print span term next) env callers = with_result-alike _ _ _ _ (sum_of-agrees env term) (λ z. inr refl)
act_at-alike program p forks (body.If span left right this other) env callers =
    with_result-alike _ _ _ _ (sum_of-agrees env left) (λ a. with_result-alike _ _ _ _ (sum_of-agrees env right) (λ b. inr refl))
act_at-alike program p forks (body.Split span first second x next) env callers = inr refl
act_at-alike program p forks (body.Match span x arms) env callers = inr refl
act_at-alike program p forks (body.Absurd span proof) env callers = inr refl
act_at-alike program p forks (body.Ret span value proof) env callers = with_result-alike _ _ _ _ (supplied-agrees env value) (λ v. inr refl)

pub act_of-alike : (program : Program) (p : Name) (forks : ℕ) (place : Place) → ActsAlike (act_of machine program p forks place) (act_of unbounded program p forks place)
act_of-alike program p forks Ended = inr refl
act_of-alike program p forks (Running rest env callers) = act_at-alike program p forks rest env callers

effect-alike : (C : Config) (p : Name) (forks : ℕ) (m u : Act) → ActsAlike m u → ((why : Halt) × (effect C p forks m ≡ IsHalted why)) ⊎ (effect C p forks m ≡ effect C p forks u)
effect-alike C p forks m u (inl (why, is)) = inl (why, ap (effect C p forks) is)
effect-alike C p forks m u (inr is) = inr (ap (effect C p forks) is)

pub halts_or_steps : HaltsOrSteps
halts_or_steps program C p = go (get C.tasks p)
  where
    go : (o : Option Task) → ((why : Halt) × (step_at machine program C p o ≡ IsHalted why)) ⊎ (step_at machine program C p o ≡ step_at unbounded program C p o)
    go None = inr refl
    go (Some t) = effect-alike C p t.forks _ _ (act_of-alike program p t.forks t.place)
