-- Bodies that fail at one condition after another: where two fail, the one that is tried first is told.
use Rattle.std.specs.Prelude.{◌≡◌, ℕ, Bool, pos, negsuc, true, false, codes, List, [], ◌∷◌, map, Some, None, Result, Err, is_ok}
use Rattle.std.specs.List.{range_with_len}
use Rattle.core_language.specs.Names.{Ident}
use Rattle.core_language.specs.Terms.{Term, AtMost}
use Rattle.core_language.specs.Resources.{Ref, Proto, Branch, Recv}
use Rattle.core_language.specs.Resources as resource
use Rattle.core_language.specs.Operands.{Supply, Pat, First, Second, Cert, Proof}
use Rattle.core_language.specs.Operands as supply
use Rattle.core_language.specs.Programs.{Body, Let, Mul, Div, Rem, Call, Tail, Fork, Send1, Recv1, Print, If, Split, Match, Absurd, Ret, NoArm, Arm, Function, Program}
use Rattle.farkas_check.specs.declared.cert.CertFault.TheVariants.{NotEqual, Constant}
use Rattle.outline_language.specs.LinearForms.{Inside, variable_form}
use Rattle.outline_language.specs.Nameless.{Res, Binds, Unit}
use Rattle.outline_language.specs.Rules.{rule_mul, rule_if}
use Rattle.outline_language.specs.Contexts.{Context, bind, Why, NotHeld, WrongForm, Left, InstanceCount, CertCount, NotProved, TooLarge, ForkForm, BranchNotProved}
use Rattle.outline_language.specs.Outlined.{Fault, faults_of_function}
use Rattle.outline_language.specs.Examples.{at, number, named, no_bound, bare, pattern, one, seed}
use Rattle.outline_language.specs.TreeExample.{part, n, by_one}

abbrev pub a : Ident
a = codes "a"

abbrev pub p : Ident
p = codes "p"

abbrev pub s : Ident
s = codes "s"

abbrev pub v : Ident
v = codes "v"

abbrev pub w : Ident
w = codes "w"

abbrev pub x : Ident
x = codes "x"

abbrev pub y : Ident
y = codes "y"

-- ---- the program

abbrev pub one_end : (dual : Bool) → Term → Ref
one_end dual arg = record { dual = dual; name = codes "One"; args = arg ∷ [] }

-- proto Way(n) = if n <= 0 then One(n) else One(1);
abbrev pub way : Proto
way = record {
  name = codes "Way";
  params = n ∷ [];
  equation = Branch (named n) (number 0) (one_end false (named n)) (one_end false (number 1));
}

-- 9223372036854775807*n: with 2 put in, 64 bits don't hold it
abbrev pub many : Ident → Term
many name = part false 9223372036854775807 (Some name) ∷ []

-- proto Big(n) = recv int(9223372036854775807*n);
abbrev pub big : Proto
big = record { name = codes "Big"; params = n ∷ []; equation = Recv (bare (resource.Int (many n))) None }

-- fn count() -> [n: 0 <= n] int(n) { ret 7 with [7] }
abbrev pub count : Function
count = record {
  name = codes "count";
  bound = no_bound;
  params = [];
  result = resource.Binds (record { names = n ∷ []; limits = record { left = number 0; relation = AtMost; right = named n } ∷ [] }) (resource.Int (named n));
  body = Ret (at 2) (supply.Sum (number 7)) (record { instances = number 7 ∷ []; certs = [] });
  span = at 0;
}

-- fn wide [n](y: end ~One(9223372036854775807*n), a: int(n)) -> unit { .. }
abbrev pub wide : Function
wide = record {
  name = codes "wide";
  bound = record { names = n ∷ []; limits = [] };
  params =
      record { name = y; shape = resource.End (one_end true (many n)) }
      ∷ record { name = a; shape = resource.Int (named n) } ∷ [];
  result = bare resource.Unit;
  body = Absurd (at 2) (record { instances = []; certs = [] });
  span = at 0;
}

-- fn large [n](a: int(n)) -> int(9223372036854775807*n) { .. }
abbrev pub large : Function
large = record {
  name = codes "large";
  bound = record { names = n ∷ []; limits = [] };
  params = record { name = a; shape = resource.Int (named n) } ∷ [];
  result = bare (resource.Int (many n));
  body = Absurd (at 2) (record { instances = []; certs = [] });
  span = at 0;
}

-- fn begins [n: 0 <= n](y: end ~One(n), a: int(n), p: (int(1), int(2)), s: sum(unit, int(3)), w: end Way(n), v: end Big(2)) -> unit { .. }
abbrev pub begins : Body → Function
begins body = record {
  name = codes "begins";
  bound = record { names = n ∷ []; limits = record { left = number 0; relation = AtMost; right = named n } ∷ [] };
  params =
      record { name = y; shape = resource.End (one_end true (named n)) }
      ∷ record { name = a; shape = resource.Int (named n) }
      ∷ record { name = p; shape = resource.Pair (bare (resource.Int (number 1))) (bare (resource.Int (number 2))) }
      ∷ record { name = s; shape = resource.Sum (resource.More (bare resource.Unit) (resource.More (bare (resource.Int (number 3))) resource.NoMore)) }
      ∷ record { name = w; shape = resource.End (record { dual = false; name = codes "Way"; args = named n ∷ [] }) }
      ∷ record { name = v; shape = resource.End (record { dual = false; name = codes "Big"; args = number 2 ∷ [] }) } ∷ [];
  result = bare resource.Unit;
  body = body;
  span = at 0;
}

abbrev pub program : Program
program = record { protos = one ∷ way ∷ big ∷ []; funcs = seed ∷ count ∷ wide ∷ large ∷ [] }

-- ---- bodies, each with its first form at 1 and without the rest

abbrev pub rest : Body
rest = Absurd (at 2) (record { instances = []; certs = [] })

-- with [..] by ..
abbrev pub proved : List Term → List Cert → Proof
proved instances certs = record { instances = instances; certs = certs }

abbrev pub unproved : Proof
unproved = proved [] []

abbrev pub value : Ident → Supply
value name = supply.Sum (named name)

abbrev pub binding : Ident → List Ident → Pat
binding name names = record { name = name; names = names }

-- 9223372036854775807*a + a
abbrev pub too_much : Term
too_much = part false 9223372036854775807 (Some a) ∷ part false 1 (Some a) ∷ []

abbrev pub calls_seed : List Ident → List Supply → Proof → Body
calls_seed names values proof = Call (at 1) (binding x names) (codes "seed") values proof rest

abbrev pub forks : Ref → Ident → List Supply → Proof → Body
forks ref func values proof = Fork (at 1) x ref func values proof rest

-- a body, and why its first form fails
abbrev pub Case : Type 0
Case = Body × Why

abbrev pub of_integers : List Case
of_integers =
    (Let (at 1) x (named y) rest, WrongForm)
    ∷ (Let (at 1) x too_much rest, TooLarge)
    ∷ (Mul (at 1) x (named a) (named y) rest, WrongForm)
    ∷ (Div (at 1) x (part true 9223372036854775807 None ∷ []) 10 rest, TooLarge)
    ∷ (Rem (at 1) x (named p) 10 rest, WrongForm)
    ∷ (Print (at 1) (named s) rest, WrongForm)
    ∷ (If (at 1) too_much (named y) rest rest, TooLarge)
    ∷ (If (at 1) (named a) (named y) rest rest, WrongForm)
    ∷ []

-- instances, values, leftovers, the pattern; the result, then what is left
abbrev pub of_calls : List Case
of_calls =
    (calls_seed [] (value a ∷ []) unproved, InstanceCount)
    ∷ (calls_seed [] (value a ∷ []) (proved (named y ∷ []) []), WrongForm)
    ∷ (calls_seed [] (value y ∷ supply.Sum (number 1) ∷ []) (proved (named n ∷ named n ∷ []) []), CertCount)
    ∷ (calls_seed [] (value y ∷ supply.Sum (number 1) ∷ []) (proved (named n ∷ []) (by_one 0)), NotProved 0 (Constant (pos 1) 1))
    ∷ (calls_seed [] (value a ∷ value y ∷ []) (proved (named n ∷ []) []), WrongForm)
    ∷ (calls_seed [] (value y ∷ value y ∷ []) (proved (named n ∷ []) []), NotHeld y)
    ∷ (calls_seed [] (value y ∷ []) (proved (named n ∷ []) []), WrongForm)
    ∷ (calls_seed (x ∷ []) (value y ∷ value a ∷ []) (proved (named n ∷ named n ∷ []) (by_one 0)), InstanceCount)
    ∷ (calls_seed (x ∷ []) (value y ∷ value a ∷ []) (proved (named n ∷ []) (by_one 0)), CertCount)
    ∷ (calls_seed (x ∷ []) (value y ∷ value a ∷ []) (proved (named n ∷ []) []), InstanceCount)
    ∷ (Call (at 1) (binding x []) (codes "count") [] unproved rest, InstanceCount)
    ∷ (Tail (at 1) (codes "count") [] unproved, WrongForm)
    ∷ (Tail (at 1) (codes "seed") (value y ∷ value a ∷ []) (proved (named n ∷ []) []), Left w)
    ∷ (Ret (at 1) (supply.Sum (number 1)) (proved (number 1 ∷ []) []), WrongForm)
    ∷ (Ret (at 1) supply.Unit (proved (number 1 ∷ []) (by_one 0)), InstanceCount)
    ∷ (Ret (at 1) supply.Unit (proved [] (by_one 0)), CertCount)
    ∷ (Ret (at 1) supply.Unit unproved, Left y)
    ∷ []

-- the form of a fork, its arguments, instances, the child's end, values; an end, its path, its direction, the value
abbrev pub of_channels : List Case
of_channels =
    (forks (one_end false (named y)) (codes "count") [] unproved, ForkForm)
    ∷ (forks (one_end false (named y)) (codes "seed") [] unproved, WrongForm)
    ∷ (forks (one_end false (named n)) (codes "seed") [] unproved, InstanceCount)
    ∷ (forks (one_end true (named n)) (codes "seed") (value p ∷ []) (proved (named n ∷ []) []), WrongForm)
    ∷ (forks (one_end false (number 1)) (codes "seed") (value p ∷ []) (proved (named n ∷ []) []), CertCount)
    ∷ (forks (one_end false (named n)) (codes "seed") (value p ∷ []) (proved (named n ∷ named n ∷ []) []), WrongForm)
    ∷ (forks (one_end false (named n)) (codes "seed") (value a ∷ []) (proved (named n ∷ []) (by_one 0)), CertCount)
    ∷ (Send1 (at 1) x [] (value y) unproved rest, NotHeld x)
    ∷ (Send1 (at 1) a [] (value y) unproved rest, WrongForm)
    ∷ (Send1 (at 1) w [] (value a) unproved rest, WrongForm)
    ∷ (Send1 (at 1) w (First ∷ First ∷ []) (value a) unproved rest, WrongForm)
    ∷ (Send1 (at 1) w (First ∷ []) (value a) unproved rest, CertCount)
    ∷ (Send1 (at 1) w (First ∷ []) (value a) (proved [] (by_one 0)) rest, BranchNotProved 0 (NotEqual 0 (pos 1) (negsuc 0)))
    ∷ (Send1 (at 1) w (Second ∷ []) (value a) (proved [] (by_one 0)) rest, BranchNotProved 0 (Constant (pos 1) 1))
    ∷ (Send1 (at 1) y [] (value y) unproved rest, NotHeld y)
    ∷ (Send1 (at 1) y [] (supply.Sum (number 1)) unproved rest, CertCount)
    ∷ (Send1 (at 1) y [] (value a) (proved (number 1 ∷ []) []) rest, InstanceCount)
    ∷ (Recv1 (at 1) (binding x (x ∷ [])) y [] (proved (number 1 ∷ []) []) rest, WrongForm)
    ∷ []

-- a value that is taken apart, then its parts; a body that is never come to
abbrev pub of_parts : List Case
of_parts =
    (Split (at 1) (pattern x) (pattern x) x rest, NotHeld x)
    ∷ (Split (at 1) (binding x (x ∷ [])) (pattern x) a rest, WrongForm)
    ∷ (Split (at 1) (pattern x) (binding x (x ∷ [])) p rest, InstanceCount)
    ∷ (Match (at 1) p (Arm (pattern x) rest (Arm (pattern x) rest NoArm)), WrongForm)
    ∷ (Match (at 1) s (Arm (binding x (x ∷ [])) rest NoArm), WrongForm)
    ∷ (Match (at 1) s (Arm (pattern x) rest (Arm (binding x (x ∷ [])) rest NoArm)), InstanceCount)
    ∷ (Absurd (at 1) (proved (number 1 ∷ []) []), CertCount)
    ∷ (Absurd (at 1) (proved (number 1 ∷ []) (by_one 0)), NotProved 0 (NotEqual 0 (pos 0) (negsuc 0)))
    ∷ []

-- a number past 64 bits is told when the rule comes to it
abbrev pub of_numbers : List Case
of_numbers =
    (Call (at 1) (binding x []) (codes "wide") (value x ∷ value x ∷ []) (proved (number 2 ∷ []) []) rest, TooLarge)
    ∷ (forks (one_end false (number 2)) (codes "wide") (value x ∷ []) (proved (number 2 ∷ []) []), TooLarge)
    ∷ (Call (at 1) (binding x []) (codes "large") (value x ∷ []) (proved (number 2 ∷ []) []) rest, NotHeld x)
    ∷ (Call (at 1) (binding x []) (codes "large") (supply.Sum (number 2) ∷ []) (proved (number 2 ∷ number 2 ∷ []) []) rest, InstanceCount)
    ∷ (Call (at 1) (binding x (x ∷ [])) (codes "large") (supply.Sum (number 2) ∷ []) (proved (number 2 ∷ []) []) rest, TooLarge)
    ∷ (Tail (at 1) (codes "large") (supply.Sum (number 2) ∷ []) (proved (number 2 ∷ []) []), TooLarge)
    ∷ (Send1 (at 1) v [] (value x) unproved rest, TooLarge)
    ∷ (Recv1 (at 1) (binding x (x ∷ [])) v [] (proved (number 1 ∷ []) []) rest, TooLarge)
    ∷ (calls_seed [] (value y ∷ supply.Sum (part true 9223372036854775807 None ∷ []) ∷ []) (proved (number 9223372036854775807 ∷ []) []), CertCount)
    ∷ (calls_seed [] (supply.Pair supply.Unit supply.Unit ∷ []) (proved (many a ∷ []) []), WrongForm)
    ∷ []

-- an `if` whose terms are numbers adds its hypothesis too: in the first body it shows nothing, in the second that it is never come to
abbrev pub of_constants : List Case
of_constants =
    (If (at 0) (number 0) (number 0) (Absurd (at 1) (proved [] (by_one 1))) (Absurd (at 2) (proved [] (by_one 1))), NotProved 0 (Constant (pos 1) 1)) ∷ []

-- ---- contexts that are full

-- so many integer variables, and hypotheses that say nothing
abbrev pub context_of : (variables hypotheses : ℕ) → Context
context_of variables hypotheses = record {
  ints = map (λ i. x) (range_with_len 0 variables);
  hyps = map (λ i. record { coefficients = []; constant = pos 0 }) (range_with_len 0 hypotheses);
  entries = [];
}

-- two binders, the first at most the second
abbrev pub two_binders : Res
two_binders = Binds 2 (record { left = variable_form (Inside 0); relation = AtMost; right = variable_form (Inside 1) } ∷ []) Unit

abbrev pub binds_two : Context → Result Context Why
binds_two ctx = bind ctx (binding x (x ∷ y ∷ [])) two_binders

-- ---- the laws

-- the one fault of a body whose first form fails
abbrev pub told : Why → List Fault
told why = record { span = at 1; why = why; names = n ∷ [] } ∷ []

-- the first form of each body fails, for this reason
abbrev pub Fail : List Case → Type 0
Fail cases = map (λ case. faults_of_function program (begins case.0)) cases ≡ map (λ case. told case.1) cases

abbrev pub IntegersFail : Type 0
IntegersFail = Fail of_integers

abbrev pub CallsFail : Type 0
CallsFail = Fail of_calls

abbrev pub ChannelsFail : Type 0
ChannelsFail = Fail of_channels

abbrev pub PartsFail : Type 0
PartsFail = Fail of_parts

abbrev pub NumbersFail : Type 0
NumbersFail = Fail of_numbers

abbrev pub ConstantsFail : Type 0
ConstantsFail = Fail of_constants

-- there is room for 256 integer variables and 256 hypotheses, and for no more
pub record Room : Type 0 where
  pub last : is_ok (binds_two (context_of 254 255)) ≡ true
  pub variables : binds_two (context_of 255 0) ≡ Err TooLarge
  pub hypotheses : binds_two (context_of 0 256) ≡ Err TooLarge
  pub new : rule_mul (context_of 256 0) x (number 1) (number 1) ≡ Err TooLarge
  pub branch : rule_if (context_of 0 256) (number 1) (number 1) ≡ Err TooLarge
