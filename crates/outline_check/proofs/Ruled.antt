-- What form rules out, and what it gives of nodes.
use Rattle.std.proofs.Common.{◌≡◌, ℕ, Bool, true, false, All, Some, Result, Ok, Err, OnOk, sym, ap, ◌∙◌, subst, true≢false}
use Rattle.std.specs.List.{slice_get}
use Rattle.chan_syntax.specs.Bounds.{IsBounded}
use Rattle.core_programs.specs.declared.nodes.Node.{Node}
use Rattle.core_programs.specs.declared.nodes.Parts.{Parts}
use Rattle.core_programs.specs.Form.{IsFormed}
use Rattle.nameless_forms.specs.declared.faults.FormFault.{FormFault}
use Rattle.nameless_forms.specs.declared.faults.FormFault.TheVariants as cause
use Rattle.nameless_shapes.specs.Formed.{TellsMisfit}
use Rattle.outline_language.specs.Contexts.{Why}
use Rattle.outline_obligations.specs.declared.faults.Why.{Why as Reason}
use Rattle.outline_obligations.specs.declared.faults.ContextFault.{ContextFault}
use Rattle.outline_obligations.specs.declared.faults.ContextFault.TheVariants as fault
use Rattle.outline_obligations.specs.Reasons.{IsReason}
use Rattle.unfold_laws.specs.Certs.{certs_of_node}
use Rattle.unfold_laws.proofs.Bounded.{nodes_bounded}

-- numbers that fit aren't too large
pub misfits : (fits : Bool) (f : FormFault) → f ≡ cause.TooLarge → TellsMisfit fits f → fits ≡ true → ⊥
misfits fits f is tells fit = true≢false (sym fit ∙ tells is)

abbrev is_answer : {A E : Type 0} → Result A E → Bool
is_answer (Ok a) = true
is_answer (Err e) = false

-- where there is an answer, there is no reason
pub no_reason : {A : Type 0} (r : Result A Why) (a : A) (f : ContextFault) (why : Reason) → f ≡ fault.Why why → IsReason r f → r ≡ Ok a → ⊥
no_reason r a f why is reason answer = true≢false (ap is_answer (sym answer ∙ subst (IsReason r) is reason))

-- the certificates of a node have numbers in bounds
pub bounded : (parts : Parts) → IsFormed parts → (x : Node) → ((n : ℕ) × (slice_get parts.nodes n ≡ Some x)) → All IsBounded (certs_of_node x)
bounded parts formed x (n, is) = nodes_bounded parts n x formed is

-- both facts of an answer, the second for this value
pub both_ok : {A E X : Type 0} (P : Type 0) (Q : X → Type 0) (r : Result A E) (x : X) → OnOk r P → OnOk r ((y : X) → Q y) → OnOk r (P × Q x)
both_ok P Q (Ok a) x p q = (p, q x)
both_ok P Q (Err e) x p q = tt
