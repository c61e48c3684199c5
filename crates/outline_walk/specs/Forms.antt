-- Forms of bodies one by one: what the rule of a form makes of its context, and the contexts of the bodies that follow it.
use Rattle.std.specs.Prelude.{◌≡◌, ℕ, nat_eq, if◌then◌else◌, List, [], ◌∷◌, map, Option, Some, option_and_then, slice_get, Result, Ok}
use Rattle.core_language.specs.Names.{Ident}
use Rattle.core_language.specs.Terms.{Term}
use Rattle.core_language.specs.Programs.{Span, Body, Let, Mul, Div, Rem, Call, Tail, Fork, Send1, Recv1, Print, If, Split, Match, Absurd, Ret, Arms, arm_list, arm_at}
use Rattle.core_programs.specs.declared.nodes.Parts.{Parts}
use Rattle.core_programs.specs.declared.nodes.Node.{Node}
use Rattle.core_programs.specs.Bodies.{program_of, opened, rest}
use Rattle.outline_language.specs.LinearForms.{minus, plus_one}
use Rattle.outline_language.specs.Nameless.{Shape, Res, resource_at}
use Rattle.outline_language.specs.Contexts.{Why, WrongForm, and_then, or_why, nothing, Context, meaning, take, entry_named, add_hyp, bind}
use Rattle.outline_language.specs.Giving.{sum_of}
use Rattle.outline_language.specs.Rules.{rule_let, rule_mul, rule_div, rule_rem, rule_call, rule_tail, rule_fork, rule_send, rule_recv, rule_print, rule_if, rule_split, rule_match, rule_absurd, rule_ret}
use Rattle.outline_obligations.specs.declared.faults.ContextFault.{ContextFault}
use Rattle.outline_obligations.specs.Reasons.{IsReason}

-- where forms stand: in a program, and in a function that gives this back
pub record Setting : Type 0 where
  pub parts : Parts
  pub own : Res

-- the form at a node
abbrev pub form_at : Setting → Node → Body
form_at s x = opened x (rest s.parts.nodes)

abbrev pub IsNode : Setting → Node → Type 0
IsNode s x = (n : ℕ) × (slice_get s.parts.nodes n ≡ Some x)

abbrev pub span_of_form : Body → Span
span_of_form (Let span x term next) = span
span_of_form (Mul span x left right next) = span
span_of_form (Div span x term divisor next) = span
span_of_form (Rem span x term divisor next) = span
span_of_form (Call span pat f values proof next) = span
span_of_form (Tail span f values proof) = span
span_of_form (Fork span x ref f values proof next) = span
span_of_form (Send1 span c path value proof next) = span
span_of_form (Recv1 span pat c path proof next) = span
span_of_form (Print span term next) = span
span_of_form (If span left right this other) = span
span_of_form (Split span first second x next) = span
span_of_form (Match span x arms) = span
span_of_form (Absurd span proof) = span
span_of_form (Ret span value proof) = span

-- the bodies that follow a form
abbrev pub bodies_after : Body → List Body
bodies_after (Let span x term next) = next ∷ []
bodies_after (Mul span x left right next) = next ∷ []
bodies_after (Div span x term divisor next) = next ∷ []
bodies_after (Rem span x term divisor next) = next ∷ []
bodies_after (Call span pat f values proof next) = next ∷ []
bodies_after (Tail span f values proof) = []
bodies_after (Fork span x ref f values proof next) = next ∷ []
bodies_after (Send1 span c path value proof next) = next ∷ []
bodies_after (Recv1 span pat c path proof next) = next ∷ []
bodies_after (Print span term next) = next ∷ []
bodies_after (If span left right this other) = this ∷ other ∷ []
bodies_after (Split span first second x next) = next ∷ []
bodies_after (Match span x arms) = map (λ arm. arm.1) (arm_list arms)
bodies_after (Absurd span proof) = []
bodies_after (Ret span value proof) = []

-- ---- a rule that is met

-- the rule of a form is met and leaves this context: that of the body after it, or the one that those of its bodies are made from
abbrev pub Meets : Setting → (old new : Context) → Body → Type 0
Meets s old new (Let span x term next) = rule_let old x term ≡ Ok new
Meets s old new (Mul span x left right next) = rule_mul old x left right ≡ Ok new
Meets s old new (Div span x term divisor next) = rule_div old x term divisor ≡ Ok new
Meets s old new (Rem span x term divisor next) = rule_rem old x term divisor ≡ Ok new
Meets s old new (Call span pat f values proof next) = rule_call (program_of s.parts) old pat f values proof ≡ Ok new
Meets s old new (Tail span f values proof) = rule_tail (program_of s.parts) s.own old f values proof ≡ Ok nothing
Meets s old new (Fork span x ref f values proof next) = rule_fork (program_of s.parts) old x ref f values proof ≡ Ok new
Meets s old new (Send1 span c path value proof next) = rule_send (program_of s.parts) old c path value proof ≡ Ok new
Meets s old new (Recv1 span pat c path proof next) = rule_recv (program_of s.parts) old pat c path proof ≡ Ok new
Meets s old new (Print span term next) = rule_print old term ≡ Ok new
Meets s old new (If span left right this other) = (new ≡ old) × ((both : Context × Context) × (rule_if old left right ≡ Ok both))
Meets s old new (Split span first second x next) = rule_split old first second x ≡ Ok new
Meets s old new (Match span x arms) =
    ((shape : Shape) × (take old x ≡ Ok (record { shape = shape; context = new }))) × ((each : List Context) × (rule_match old x arms ≡ Ok each))
Meets s old new (Absurd span proof) = rule_absurd old proof ≡ Ok nothing
Meets s old new (Ret span value proof) = rule_ret s.own old value proof ≡ Ok nothing

-- ---- the bodies that follow, by their numbers

-- the resource of the arm with this number, of the sum that a name has
abbrev pub arm_res : Context → Ident → (number : ℕ) → Option Res
arm_res ctx x number = option_and_then (λ resources. resource_at resources number) (option_and_then (λ e. sum_of e.shape) (entry_named ctx.entries x))

-- the context of the first body of an `if`, or of the second
abbrev pub branch_in : Context → (left right : Term) → (number : ℕ) → Result Context Why
branch_in ctx left right number =
    and_then (meaning ctx left) (λ a.
    and_then (meaning ctx right) (λ b.
    add_hyp ctx (if nat_eq number 0 then minus a b else plus_one (minus b a))))

-- the context of the arm with this number
abbrev pub arm_in : Context → Ident → Arms → (number : ℕ) → Result Context Why
arm_in ctx x arms number =
    and_then (or_why (arm_res ctx x number) WrongForm) (λ res.
    and_then (or_why (arm_at arms number) WrongForm) (λ arm. bind ctx arm.0 res))

-- the context of the body with this number, made from the one that the rule left
abbrev pub picked : Context → Body → (number : ℕ) → Result Context Why
picked ctx (If span left right this other) number = branch_in ctx left right number
picked ctx (Match span x arms) number = arm_in ctx x arms number
picked ctx other number = Ok ctx

-- ---- a rule that fails

abbrev pub Fails : Setting → Context → Body → ContextFault → Type 0
Fails s ctx (Let span x term next) fault = IsReason (rule_let ctx x term) fault
Fails s ctx (Mul span x left right next) fault = IsReason (rule_mul ctx x left right) fault
Fails s ctx (Div span x term divisor next) fault = IsReason (rule_div ctx x term divisor) fault
Fails s ctx (Rem span x term divisor next) fault = IsReason (rule_rem ctx x term divisor) fault
Fails s ctx (Call span pat f values proof next) fault = IsReason (rule_call (program_of s.parts) ctx pat f values proof) fault
Fails s ctx (Tail span f values proof) fault = IsReason (rule_tail (program_of s.parts) s.own ctx f values proof) fault
Fails s ctx (Fork span x ref f values proof next) fault = IsReason (rule_fork (program_of s.parts) ctx x ref f values proof) fault
Fails s ctx (Send1 span c path value proof next) fault = IsReason (rule_send (program_of s.parts) ctx c path value proof) fault
Fails s ctx (Recv1 span pat c path proof next) fault = IsReason (rule_recv (program_of s.parts) ctx pat c path proof) fault
Fails s ctx (Print span term next) fault = IsReason (rule_print ctx term) fault
Fails s ctx (If span left right this other) fault = IsReason (rule_if ctx left right) fault
Fails s ctx (Split span first second x next) fault = IsReason (rule_split ctx first second x) fault
Fails s ctx (Match span x arms) fault = IsReason (rule_match ctx x arms) fault
Fails s ctx (Absurd span proof) fault = IsReason (rule_absurd ctx proof) fault
Fails s ctx (Ret span value proof) fault = IsReason (rule_ret s.own ctx value proof) fault
