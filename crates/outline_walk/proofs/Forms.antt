-- What a form's rule says of its faults, form by form.
use Rattle.std.proofs.Common.{◌≡◌, if◌then◌else◌, ℕ, zero, suc, [], ◌∷◌, ◌++◌, Ok, refl, sym, ap, ◌∙◌, subst, append-nil}
use Rattle.core_language.specs.Terms.{Term}
use Rattle.core_language.specs.Programs.{Span, Body, Let, Mul, Div, Rem, Call, Tail, Fork, Send1, Recv1, Print, If, Split, Match, Absurd, Ret}
use Rattle.core_programs.specs.Bodies.{program_of}
use Rattle.outline_language.specs.LinearForms.{minus, plus_one}
use Rattle.outline_language.specs.Contexts.{Context, nothing, meaning, add_hyp}
use Rattle.outline_language.specs.Rules.{rule_let, rule_mul, rule_div, rule_rem, rule_call, rule_tail, rule_fork, rule_send, rule_recv, rule_print, rule_if, rule_split, rule_match, rule_absurd, rule_ret}
use Rattle.outline_language.specs.Outlined.{Fault, no_fault}
use Rattle.outline_obligations.specs.declared.faults.Why.{Why as Reason}
use Rattle.outline_obligations.specs.declared.faults.ContextFault.TheVariants as fault
use Rattle.outline_obligations.specs.Reasons.{why_of}
use Rattle.outline_walk.specs.Forms.{Setting, Meets, Fails, picked, bodies_after, span_of_form}
use Rattle.outline_walk.specs.Walking.{faults_of, faults_in, faults_from, AreOpen}
use Rattle.outline_walk.proofs.Chains.{first_ok, linked, same_ok, met, stopped}
use Rattle.outline_walk.proofs.Arms.{not_first, match_faults, match_open}

-- ---- both bodies of an `if`

module _ (ctx : Context) (span : Span) (left right : Term) (this other : Body) (both : Context × Context) (is : rule_if ctx left right ≡ Ok both) where
  abbrev the_if : Body
  the_if = If span left right this other

  if_picks : (picked ctx the_if 0 ≡ Ok both.0) × ((n : ℕ) → picked ctx the_if (suc n) ≡ Ok both.1)
  if_picks =
      let (a, of_left, after_left) = first_ok (meaning ctx left) _ both is in
      let (b, of_right, after_right) = first_ok (meaning ctx right) _ both after_left in
      let (first, of_first, after_first) = first_ok (add_hyp ctx (minus a b)) _ both after_right in
      let (second, of_second, all) = first_ok (add_hyp ctx (plus_one (minus b a))) _ both after_first in
      let pair = same_ok (first, second) both all in (
        linked (meaning ctx left) _ a both.0 of_left (linked (meaning ctx right) _ b both.0 of_right (of_first ∙ ap (λ p. Ok p.0) pair)),
        λ n. linked (meaning ctx left) _ a both.1 of_left (linked (meaning ctx right) _ b both.1 of_right (ap (λ t. add_hyp ctx (if t then minus a b else plus_one (minus b a))) (not_first n) ∙ of_second ∙ ap (λ p. Ok p.1) pair)),
      )

  if_faults : (s : Setting) → faults_of s both.0 this ++ faults_of s both.1 other ≡ faults_from s (picked ctx the_if) 0 (this ∷ other ∷ [])
  if_faults s =
      ap (λ fs. faults_of s both.0 this ++ fs) (sym (append-nil (faults_of s both.1 other)))
      ∙ ap (λ r. faults_in s r this ++ (faults_of s both.1 other ++ [])) (sym if_picks.0)
      ∙ ap (λ r. faults_in s (picked ctx the_if 0) this ++ (faults_in s r other ++ [])) (sym (if_picks.1 0))

  if_open : AreOpen ctx the_if
  if_open zero b at = (both.0, if_picks.0)
  if_open (suc n) b at = (both.1, if_picks.1 n)

-- ---- a rule that is met

-- the faults of a form are those of the bodies that follow it
pub meets_faults : (s : Setting) (old new : Context) (b : Body) → Meets s old new b → faults_of s old b ≡ faults_from s (picked new b) 0 (bodies_after b)
meets_faults s old new (Let span x term next) is = met (rule_let old x term) span old _ new is ∙ sym (append-nil _)
meets_faults s old new (Mul span x left right next) is = met (rule_mul old x left right) span old _ new is ∙ sym (append-nil _)
meets_faults s old new (Div span x term divisor next) is = met (rule_div old x term divisor) span old _ new is ∙ sym (append-nil _)
meets_faults s old new (Rem span x term divisor next) is = met (rule_rem old x term divisor) span old _ new is ∙ sym (append-nil _)
meets_faults s old new (Call span pat f values proof next) is = met (rule_call (program_of s.parts) old pat f values proof) span old _ new is ∙ sym (append-nil _)
meets_faults s old new (Tail span f values proof) is = met (rule_tail (program_of s.parts) s.own old f values proof) span old no_fault nothing is
meets_faults s old new (Fork span x ref f values proof next) is = met (rule_fork (program_of s.parts) old x ref f values proof) span old _ new is ∙ sym (append-nil _)
meets_faults s old new (Send1 span c path value proof next) is = met (rule_send (program_of s.parts) old c path value proof) span old _ new is ∙ sym (append-nil _)
meets_faults s old new (Recv1 span pat c path proof next) is = met (rule_recv (program_of s.parts) old pat c path proof) span old _ new is ∙ sym (append-nil _)
meets_faults s old new (Print span term next) is = met (rule_print old term) span old _ new is ∙ sym (append-nil _)
meets_faults s old new (If span left right this other) (same, (both, is)) =
    met (rule_if old left right) span old _ both is
    ∙ if_faults old span left right this other both is s
    ∙ ap (λ ctx. faults_from s (picked ctx (If span left right this other)) 0 (this ∷ other ∷ [])) (sym same)
meets_faults s old new (Split span first second x next) is = met (rule_split old first second x) span old _ new is ∙ sym (append-nil _)
meets_faults s old new (Match span x arms) ((shape, takes), (each, is)) = met (rule_match old x arms) span old _ each is ∙ match_faults s old new span x arms shape each takes is
meets_faults s old new (Absurd span proof) is = met (rule_absurd old proof) span old no_fault nothing is
meets_faults s old new (Ret span value proof) is = met (rule_ret s.own old value proof) span old no_fault nothing is

-- each of these bodies has its context
pub meets_open : (s : Setting) (old new : Context) (b : Body) → Meets s old new b → AreOpen new b
meets_open s old new (Let span x term next) is number b at = (new, refl)
meets_open s old new (Mul span x left right next) is number b at = (new, refl)
meets_open s old new (Div span x term divisor next) is number b at = (new, refl)
meets_open s old new (Rem span x term divisor next) is number b at = (new, refl)
meets_open s old new (Call span pat f values proof next) is number b at = (new, refl)
meets_open s old new (Tail span f values proof) is number b at = (new, refl)
meets_open s old new (Fork span x ref f values proof next) is number b at = (new, refl)
meets_open s old new (Send1 span c path value proof next) is number b at = (new, refl)
meets_open s old new (Recv1 span pat c path proof next) is number b at = (new, refl)
meets_open s old new (Print span term next) is number b at = (new, refl)
meets_open s old new (If span left right this other) (same, (both, is)) number b at =
    subst (λ ctx. (after : Context) × (picked ctx (If span left right this other) number ≡ Ok after)) (sym same) (if_open old span left right this other both is number b at)
meets_open s old new (Split span first second x next) is number b at = (new, refl)
meets_open s old new (Match span x arms) ((shape, takes), (each, is)) number b at = match_open s old new span x arms shape each takes is number b at
meets_open s old new (Absurd span proof) is number b at = (new, refl)
meets_open s old new (Ret span value proof) is number b at = (new, refl)

-- ---- a rule that fails

abbrev fault_here : Context → Body → Reason → Fault
fault_here ctx b why = record { span = span_of_form b; why = why_of why; names = ctx.ints }

pub fails_fault : (s : Setting) (ctx : Context) (b : Body) (why : Reason) → Fails s ctx b (fault.Why why) → faults_of s ctx b ≡ fault_here ctx b why ∷ []
fails_fault s ctx (Let span x term next) why is = stopped (rule_let ctx x term) span ctx _ (why_of why) is
fails_fault s ctx (Mul span x left right next) why is = stopped (rule_mul ctx x left right) span ctx _ (why_of why) is
fails_fault s ctx (Div span x term divisor next) why is = stopped (rule_div ctx x term divisor) span ctx _ (why_of why) is
fails_fault s ctx (Rem span x term divisor next) why is = stopped (rule_rem ctx x term divisor) span ctx _ (why_of why) is
fails_fault s ctx (Call span pat f values proof next) why is = stopped (rule_call (program_of s.parts) ctx pat f values proof) span ctx _ (why_of why) is
fails_fault s ctx (Tail span f values proof) why is = stopped (rule_tail (program_of s.parts) s.own ctx f values proof) span ctx no_fault (why_of why) is
fails_fault s ctx (Fork span x ref f values proof next) why is = stopped (rule_fork (program_of s.parts) ctx x ref f values proof) span ctx _ (why_of why) is
fails_fault s ctx (Send1 span c path value proof next) why is = stopped (rule_send (program_of s.parts) ctx c path value proof) span ctx _ (why_of why) is
fails_fault s ctx (Recv1 span pat c path proof next) why is = stopped (rule_recv (program_of s.parts) ctx pat c path proof) span ctx _ (why_of why) is
fails_fault s ctx (Print span term next) why is = stopped (rule_print ctx term) span ctx _ (why_of why) is
fails_fault s ctx (If span left right this other) why is = stopped (rule_if ctx left right) span ctx _ (why_of why) is
fails_fault s ctx (Split span first second x next) why is = stopped (rule_split ctx first second x) span ctx _ (why_of why) is
fails_fault s ctx (Match span x arms) why is = stopped (rule_match ctx x arms) span ctx _ (why_of why) is
fails_fault s ctx (Absurd span proof) why is = stopped (rule_absurd ctx proof) span ctx no_fault (why_of why) is
fails_fault s ctx (Ret span value proof) why is = stopped (rule_ret s.own ctx value proof) span ctx no_fault (why_of why) is
