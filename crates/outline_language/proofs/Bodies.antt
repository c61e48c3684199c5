-- A body is outlined exactly where it has no fault.
use Rattle.std.proofs.Common.{◌≡◌, List, [], ◌∷◌, ◌++◌, flat_map, refl, ap, ◌∙◌}
use Rattle.std.specs.Prelude.{Result, Ok, Err}
use Rattle.std.specs.List.{AllByRecursion}
use Rattle.core_language.specs.Programs.{Span, Body, Let, Mul, Div, Rem, Call, Tail, Fork, Send1, Recv1, Print, If, Split, Match, Absurd, Ret, Arms, NoArm, Arm, Function, Program}
use Rattle.outline_language.specs.Nameless.{Res}
use Rattle.outline_language.specs.Contexts.{Why, Context, start}
use Rattle.outline_language.specs.Rules.{rule_let, rule_mul, rule_div, rule_rem, rule_call, rule_tail, rule_fork, rule_send, rule_recv, rule_print, rule_if, rule_split, rule_match, rule_absurd, rule_ret}
use Rattle.outline_language.specs.Outlined.{Meets, Fault, faults_after, no_fault, OutlinedBody, OutlinedArms, OutlinedFunction, faults_of_body, faults_of_arms, faults_of_function, own_result}

-- ---- one form

no_fault_where_met : {A : Type 0} (span : Span) (ctx : Context) (answer : Result A Why) (Then : A → Type 0) (later : A → List Fault)
    → ((a : A) → Then a → later a ≡ []) → Meets answer Then → faults_after span ctx answer later ≡ []
no_fault_where_met span ctx answer Then later rest (a, is, then) =
    ap (λ o. faults_after span ctx o later) is ∙ rest a then

met_where_no_fault : {A : Type 0} (span : Span) (ctx : Context) (answer : Result A Why) (Then : A → Type 0) (later : A → List Fault)
    → ((a : A) → later a ≡ [] → Then a) → faults_after span ctx answer later ≡ [] → Meets answer Then
met_where_no_fault span ctx (Ok a) Then later rest none = (a, refl, rest a none)
met_where_no_fault span ctx (Err why) Then later rest none = absurd cc

-- ---- lists

joined_empty : {A : Type 0} (xs ys : List A) → xs ≡ [] → ys ≡ [] → xs ++ ys ≡ []
joined_empty xs ys first second = ap (λ zs. zs ++ ys) first ∙ second

first_empty : {A : Type 0} (xs ys : List A) → xs ++ ys ≡ [] → xs ≡ []
first_empty [] ys none = refl
first_empty (x ∷ xs) ys none = absurd cc

second_empty : {A : Type 0} (xs ys : List A) → xs ++ ys ≡ [] → ys ≡ []
second_empty [] ys none = none
second_empty (x ∷ xs) ys none = absurd cc

-- ---- bodies

mutual
  none_of_body : (P : Program) (own : Res) (ctx : Context) (body : Body) → OutlinedBody P own ctx body → faults_of_body P own ctx body ≡ []
  none_of_body P own ctx (Let span x term next) is =
      no_fault_where_met span ctx (rule_let ctx x term) (λ after. OutlinedBody P own after next) (λ after. faults_of_body P own after next) (λ after. none_of_body P own after next) is
  none_of_body P own ctx (Mul span x left right next) is =
      no_fault_where_met span ctx (rule_mul ctx x left right) (λ after. OutlinedBody P own after next) (λ after. faults_of_body P own after next) (λ after. none_of_body P own after next) is
  none_of_body P own ctx (Div span x term divisor next) is =
      no_fault_where_met span ctx (rule_div ctx x term divisor) (λ after. OutlinedBody P own after next) (λ after. faults_of_body P own after next) (λ after. none_of_body P own after next) is
  none_of_body P own ctx (Rem span x term divisor next) is =
      no_fault_where_met span ctx (rule_rem ctx x term divisor) (λ after. OutlinedBody P own after next) (λ after. faults_of_body P own after next) (λ after. none_of_body P own after next) is
  none_of_body P own ctx (Call span pat f values proof next) is =
      no_fault_where_met span ctx (rule_call P ctx pat f values proof) (λ after. OutlinedBody P own after next) (λ after. faults_of_body P own after next) (λ after. none_of_body P own after next) is
  none_of_body P own ctx (Fork span x ref f values proof next) is =
      no_fault_where_met span ctx (rule_fork P ctx x ref f values proof) (λ after. OutlinedBody P own after next) (λ after. faults_of_body P own after next) (λ after. none_of_body P own after next) is
  none_of_body P own ctx (Send1 span c path value proof next) is =
      no_fault_where_met span ctx (rule_send P ctx c path value proof) (λ after. OutlinedBody P own after next) (λ after. faults_of_body P own after next) (λ after. none_of_body P own after next) is
  none_of_body P own ctx (Recv1 span pat c path proof next) is =
      no_fault_where_met span ctx (rule_recv P ctx pat c path proof) (λ after. OutlinedBody P own after next) (λ after. faults_of_body P own after next) (λ after. none_of_body P own after next) is
  none_of_body P own ctx (Print span term next) is =
      no_fault_where_met span ctx (rule_print ctx term) (λ after. OutlinedBody P own after next) (λ after. faults_of_body P own after next) (λ after. none_of_body P own after next) is
  none_of_body P own ctx (Split span first second x next) is =
      no_fault_where_met span ctx (rule_split ctx first second x) (λ after. OutlinedBody P own after next) (λ after. faults_of_body P own after next) (λ after. none_of_body P own after next) is
  none_of_body P own ctx (Tail span f values proof) is = no_fault_where_met span ctx (rule_tail P own ctx f values proof) (λ _. Unit {0}) no_fault (λ _ _. refl) is
  none_of_body P own ctx (Absurd span proof) is = no_fault_where_met span ctx (rule_absurd ctx proof) (λ _. Unit {0}) no_fault (λ _ _. refl) is
  none_of_body P own ctx (Ret span value proof) is = no_fault_where_met span ctx (rule_ret own ctx value proof) (λ _. Unit {0}) no_fault (λ _ _. refl) is
  none_of_body P own ctx (If span left right this other) is =
      no_fault_where_met span ctx (rule_if ctx left right) (λ both. OutlinedBody P own both.0 this × OutlinedBody P own both.1 other) (λ both. faults_of_body P own both.0 this ++ faults_of_body P own both.1 other)
      (λ both of. joined_empty (faults_of_body P own both.0 this) (faults_of_body P own both.1 other) (none_of_body P own both.0 this of.0) (none_of_body P own both.1 other of.1)) is
  none_of_body P own ctx (Match span x arms) is =
      no_fault_where_met span ctx (rule_match ctx x arms) (λ each. OutlinedArms P own each arms) (λ each. faults_of_arms P own each arms) (λ each. none_of_arms P own each arms) is

  none_of_arms : (P : Program) (own : Res) (each : List Context) (arms : Arms) → OutlinedArms P own each arms → faults_of_arms P own each arms ≡ []
  none_of_arms P own (ctx ∷ each) (Arm pat next more) (one, others) =
      joined_empty (faults_of_body P own ctx next) (faults_of_arms P own each more) (none_of_body P own ctx next one) (none_of_arms P own each more others)
  none_of_arms P own [] (Arm pat next more) is = refl
  none_of_arms P own [] NoArm is = refl
  none_of_arms P own (ctx ∷ each) NoArm is = refl

mutual
  body_of_none : (P : Program) (own : Res) (ctx : Context) (body : Body) → faults_of_body P own ctx body ≡ [] → OutlinedBody P own ctx body
  body_of_none P own ctx (Let span x term next) none =
      met_where_no_fault span ctx (rule_let ctx x term) (λ after. OutlinedBody P own after next) (λ after. faults_of_body P own after next) (λ after. body_of_none P own after next) none
  body_of_none P own ctx (Mul span x left right next) none =
      met_where_no_fault span ctx (rule_mul ctx x left right) (λ after. OutlinedBody P own after next) (λ after. faults_of_body P own after next) (λ after. body_of_none P own after next) none
  body_of_none P own ctx (Div span x term divisor next) none =
      met_where_no_fault span ctx (rule_div ctx x term divisor) (λ after. OutlinedBody P own after next) (λ after. faults_of_body P own after next) (λ after. body_of_none P own after next) none
  body_of_none P own ctx (Rem span x term divisor next) none =
      met_where_no_fault span ctx (rule_rem ctx x term divisor) (λ after. OutlinedBody P own after next) (λ after. faults_of_body P own after next) (λ after. body_of_none P own after next) none
  body_of_none P own ctx (Call span pat f values proof next) none =
      met_where_no_fault span ctx (rule_call P ctx pat f values proof) (λ after. OutlinedBody P own after next) (λ after. faults_of_body P own after next) (λ after. body_of_none P own after next) none
  body_of_none P own ctx (Fork span x ref f values proof next) none =
      met_where_no_fault span ctx (rule_fork P ctx x ref f values proof) (λ after. OutlinedBody P own after next) (λ after. faults_of_body P own after next) (λ after. body_of_none P own after next) none
  body_of_none P own ctx (Send1 span c path value proof next) none =
      met_where_no_fault span ctx (rule_send P ctx c path value proof) (λ after. OutlinedBody P own after next) (λ after. faults_of_body P own after next) (λ after. body_of_none P own after next) none
  body_of_none P own ctx (Recv1 span pat c path proof next) none =
      met_where_no_fault span ctx (rule_recv P ctx pat c path proof) (λ after. OutlinedBody P own after next) (λ after. faults_of_body P own after next) (λ after. body_of_none P own after next) none
  body_of_none P own ctx (Print span term next) none =
      met_where_no_fault span ctx (rule_print ctx term) (λ after. OutlinedBody P own after next) (λ after. faults_of_body P own after next) (λ after. body_of_none P own after next) none
  body_of_none P own ctx (Split span first second x next) none =
      met_where_no_fault span ctx (rule_split ctx first second x) (λ after. OutlinedBody P own after next) (λ after. faults_of_body P own after next) (λ after. body_of_none P own after next) none
  body_of_none P own ctx (Tail span f values proof) none = met_where_no_fault span ctx (rule_tail P own ctx f values proof) (λ _. Unit {0}) no_fault (λ _ _. tt) none
  body_of_none P own ctx (Absurd span proof) none = met_where_no_fault span ctx (rule_absurd ctx proof) (λ _. Unit {0}) no_fault (λ _ _. tt) none
  body_of_none P own ctx (Ret span value proof) none = met_where_no_fault span ctx (rule_ret own ctx value proof) (λ _. Unit {0}) no_fault (λ _ _. tt) none
  body_of_none P own ctx (If span left right this other) none =
      met_where_no_fault span ctx (rule_if ctx left right) (λ both. OutlinedBody P own both.0 this × OutlinedBody P own both.1 other) (λ both. faults_of_body P own both.0 this ++ faults_of_body P own both.1 other)
      (λ both empty. (body_of_none P own both.0 this (first_empty (faults_of_body P own both.0 this) (faults_of_body P own both.1 other) empty), body_of_none P own both.1 other (second_empty (faults_of_body P own both.0 this) (faults_of_body P own both.1 other) empty))) none
  body_of_none P own ctx (Match span x arms) none =
      met_where_no_fault span ctx (rule_match ctx x arms) (λ each. OutlinedArms P own each arms) (λ each. faults_of_arms P own each arms) (λ each. arms_of_none P own each arms) none

  arms_of_none : (P : Program) (own : Res) (each : List Context) (arms : Arms) → faults_of_arms P own each arms ≡ [] → OutlinedArms P own each arms
  arms_of_none P own (ctx ∷ each) (Arm pat next more) none =
      (body_of_none P own ctx next (first_empty (faults_of_body P own ctx next) (faults_of_arms P own each more) none), arms_of_none P own each more (second_empty (faults_of_body P own ctx next) (faults_of_arms P own each more) none))
  arms_of_none P own [] (Arm pat next more) none = tt
  arms_of_none P own [] NoArm none = tt
  arms_of_none P own (ctx ∷ each) NoArm none = tt

-- ---- functions

pub none_of_functions : (P : Program) (fs : List Function) → AllByRecursion (OutlinedFunction P) fs → flat_map (faults_of_function P) fs ≡ []
none_of_functions P [] is = refl
none_of_functions P (f ∷ fs) (one, others) =
    joined_empty (faults_of_function P f) (flat_map (faults_of_function P) fs) (none_of_body P (own_result f) (start f) f.body one) (none_of_functions P fs others)

pub functions_of_none : (P : Program) (fs : List Function) → flat_map (faults_of_function P) fs ≡ [] → AllByRecursion (OutlinedFunction P) fs
functions_of_none P [] none = tt
functions_of_none P (f ∷ fs) none =
    (body_of_none P (own_result f) (start f) f.body (first_empty (faults_of_function P f) (flat_map (faults_of_function P) fs) none), functions_of_none P fs (second_empty (faults_of_function P f) (flat_map (faults_of_function P) fs) none))
