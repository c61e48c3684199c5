-- Which programs are outlined, and the first fault of the others: of all functions and all ways through their bodies.
use Rattle.std.specs.Prelude.{◌≡◌, Bool, true, false, nat_lt, if◌then◌else◌, List, [], ◌∷◌, ◌++◌, flat_map, Option, Some, None, Result, Ok, Err}
use Rattle.std.specs.List.{AllByRecursion}
use Rattle.core_language.specs.Names.{Ident}
use Rattle.core_language.specs.Programs.{Span, Body, Let, Mul, Div, Rem, Call, Tail, Fork, Send1, Recv1, Print, If, Split, Match, Absurd, Ret, Arms, Arm, Function, Program}
use Rattle.outline_language.specs.Nameless.{Res, nameless_res}
use Rattle.outline_language.specs.Contexts.{Why, Context, start}
use Rattle.outline_language.specs.Rules.{rule_let, rule_mul, rule_div, rule_rem, rule_call, rule_tail, rule_fork, rule_send, rule_recv, rule_print, rule_if, rule_split, rule_match, rule_absurd, rule_ret}

-- what a function gives back, where its binders are the first integer variables
abbrev pub own_result : Function → Res
own_result f = nameless_res f.bound.names [] f.result

-- a rule has an answer, of which this holds
abbrev pub Meets : {A : Type 0} → Result A Why → (A → Type 0) → Type 0
Meets {A} answer Then = (a : A) × (answer ≡ Ok a) × Then a

-- the rule of each form is met, and the bodies after it are outlined in what it makes of the context
abbrev mutual
  pub OutlinedBody : Program → (own : Res) → Context → Body → Type 0
  OutlinedBody P own ctx (Let span x term next) = Meets (rule_let ctx x term) (λ after. OutlinedBody P own after next)
  OutlinedBody P own ctx (Mul span x left right next) = Meets (rule_mul ctx x left right) (λ after. OutlinedBody P own after next)
  OutlinedBody P own ctx (Div span x term divisor next) = Meets (rule_div ctx x term divisor) (λ after. OutlinedBody P own after next)
  OutlinedBody P own ctx (Rem span x term divisor next) = Meets (rule_rem ctx x term divisor) (λ after. OutlinedBody P own after next)
  OutlinedBody P own ctx (Call span pat f values proof next) = Meets (rule_call P ctx pat f values proof) (λ after. OutlinedBody P own after next)
  OutlinedBody P own ctx (Tail span f values proof) = Meets (rule_tail P own ctx f values proof) (λ _. Unit {0})
  OutlinedBody P own ctx (Fork span x ref f values proof next) = Meets (rule_fork P ctx x ref f values proof) (λ after. OutlinedBody P own after next)
  OutlinedBody P own ctx (Send1 span c path value proof next) = Meets (rule_send P ctx c path value proof) (λ after. OutlinedBody P own after next)
  OutlinedBody P own ctx (Recv1 span pat c path proof next) = Meets (rule_recv P ctx pat c path proof) (λ after. OutlinedBody P own after next)
  OutlinedBody P own ctx (Print span term next) = Meets (rule_print ctx term) (λ after. OutlinedBody P own after next)
  OutlinedBody P own ctx (If span left right this other) =
      Meets (rule_if ctx left right) (λ both. OutlinedBody P own both.0 this × OutlinedBody P own both.1 other)
  OutlinedBody P own ctx (Split span first second x next) = Meets (rule_split ctx first second x) (λ after. OutlinedBody P own after next)
  OutlinedBody P own ctx (Match span x arms) = Meets (rule_match ctx x arms) (λ each. OutlinedArms P own each arms)
  OutlinedBody P own ctx (Absurd span proof) = Meets (rule_absurd ctx proof) (λ _. Unit {0})
  OutlinedBody P own ctx (Ret span value proof) = Meets (rule_ret own ctx value proof) (λ _. Unit {0})

  -- arm by arm, each in its own context
  pub OutlinedArms : Program → (own : Res) → List Context → Arms → Type 0
  OutlinedArms P own (ctx ∷ each) (Arm pat next more) = OutlinedBody P own ctx next × OutlinedArms P own each more
  OutlinedArms P own _ _ = Unit {0}

-- its body is outlined in the context in which it begins
abbrev pub OutlinedFunction : Program → Function → Type 0
OutlinedFunction P f = OutlinedBody P (own_result f) (start f) f.body

-- each function of the program is outlined
abbrev pub IsOutlined : Program → Type 0
IsOutlined P = AllByRecursion (OutlinedFunction P) P.funcs

-- ---- faults

-- a form whose rule fails in its context: where it stands, the first reason, and the context's integer variables
pub record Fault : Type 0 where
  pub span : Span
  pub why : Why
  pub names : List Ident

-- the fault of a form, or the faults of what comes after it
abbrev pub faults_after : {A : Type 0} → Span → Context → Result A Why → (A → List Fault) → List Fault
faults_after span ctx (Ok a) later = later a
faults_after span ctx (Err why) later = record { span = span; why = why; names = ctx.ints } ∷ []

abbrev pub no_fault : {A : Type 0} → A → List Fault
no_fault a = []

-- the faults of a body, in its order: a fault stops what comes after it on its path alone
abbrev mutual
  pub faults_of_body : Program → (own : Res) → Context → Body → List Fault
  faults_of_body P own ctx (Let span x term next) = faults_after span ctx (rule_let ctx x term) (λ after. faults_of_body P own after next)
  faults_of_body P own ctx (Mul span x left right next) = faults_after span ctx (rule_mul ctx x left right) (λ after. faults_of_body P own after next)
  faults_of_body P own ctx (Div span x term divisor next) = faults_after span ctx (rule_div ctx x term divisor) (λ after. faults_of_body P own after next)
  faults_of_body P own ctx (Rem span x term divisor next) = faults_after span ctx (rule_rem ctx x term divisor) (λ after. faults_of_body P own after next)
  faults_of_body P own ctx (Call span pat f values proof next) =
      faults_after span ctx (rule_call P ctx pat f values proof) (λ after. faults_of_body P own after next)
  faults_of_body P own ctx (Tail span f values proof) = faults_after span ctx (rule_tail P own ctx f values proof) no_fault
  faults_of_body P own ctx (Fork span x ref f values proof next) =
      faults_after span ctx (rule_fork P ctx x ref f values proof) (λ after. faults_of_body P own after next)
  faults_of_body P own ctx (Send1 span c path value proof next) =
      faults_after span ctx (rule_send P ctx c path value proof) (λ after. faults_of_body P own after next)
  faults_of_body P own ctx (Recv1 span pat c path proof next) =
      faults_after span ctx (rule_recv P ctx pat c path proof) (λ after. faults_of_body P own after next)
  faults_of_body P own ctx (Print span term next) = faults_after span ctx (rule_print ctx term) (λ after. faults_of_body P own after next)
  faults_of_body P own ctx (If span left right this other) =
      faults_after span ctx (rule_if ctx left right) (λ both. faults_of_body P own both.0 this ++ faults_of_body P own both.1 other)
  faults_of_body P own ctx (Split span first second x next) =
      faults_after span ctx (rule_split ctx first second x) (λ after. faults_of_body P own after next)
  faults_of_body P own ctx (Match span x arms) = faults_after span ctx (rule_match ctx x arms) (λ each. faults_of_arms P own each arms)
  faults_of_body P own ctx (Absurd span proof) = faults_after span ctx (rule_absurd ctx proof) no_fault
  faults_of_body P own ctx (Ret span value proof) = faults_after span ctx (rule_ret own ctx value proof) no_fault

  pub faults_of_arms : Program → (own : Res) → List Context → Arms → List Fault
  faults_of_arms P own (ctx ∷ each) (Arm pat next more) = faults_of_body P own ctx next ++ faults_of_arms P own each more
  faults_of_arms P own _ _ = []

abbrev pub faults_of_function : Program → Function → List Fault
faults_of_function P f = faults_of_body P (own_result f) (start f) f.body

-- in the order of functions
abbrev pub faults_of_program : Program → List Fault
faults_of_program P = flat_map (faults_of_function P) P.funcs

-- ---- the first fault

-- it starts before the other in the text
abbrev pub is_sooner : Fault → Fault → Bool
is_sooner f g = nat_lt f.span.start g.span.start

-- a fault of the list: it starts before those that stand before it, and no later than those after it
pub record IsFirst (faults : List Fault) (f : Fault) : Type 0 where
  pub before : List Fault
  pub after : List Fault
  pub stands : faults ≡ before ++ f ∷ after
  pub sooner : AllByRecursion (λ g. is_sooner f g ≡ true) before
  pub not_later : AllByRecursion (λ g. is_sooner g f ≡ false) after

abbrev pub IsFirstFault : Program → Fault → Type 0
IsFirstFault P f = IsFirst (faults_of_program P) f

-- of the sooner fault so far and one that stands after it the one that starts first
abbrev pub sooner_of : Option Fault → Fault → Option Fault
sooner_of None g = Some g
sooner_of (Some f) g = if is_sooner g f then Some g else Some f

-- the sooner of a fault so far and the first of a list that stands after it
unfoldable pub least : Option Fault → List Fault → Option Fault
least best [] = best
least best (f ∷ fs) = least (sooner_of best f) fs

abbrev pub first_fault : Program → Option Fault
first_fault P = least None (faults_of_program P)
