-- Reasons of the code as the definitions have them.
use Rattle.std.specs.Prelude.{◌≡◌, ⊤, Result, Err}
use Rattle.nameless_forms.specs.declared.faults.FormFault.{FormFault}
use Rattle.nameless_forms.specs.declared.faults.FormFault.TheVariants as form_fault
use Rattle.outline_language.specs.Contexts as context
use Rattle.outline_obligations.specs.declared.faults.Why.{Why}
use Rattle.outline_obligations.specs.declared.faults.Why.TheVariants as why
use Rattle.outline_obligations.specs.declared.faults.ContextFault.{ContextFault}
use Rattle.outline_obligations.specs.declared.faults.ContextFault.TheVariants as fault

abbrev pub why_of : Why → context.Why
why_of (why.NotHeld x) = context.NotHeld x
why_of why.WrongForm = context.WrongForm
why_of (why.Left x) = context.Left x
why_of why.InstanceCount = context.InstanceCount
why_of why.CertCount = context.CertCount
why_of (why.NotProved number f) = context.NotProved number f
why_of why.TooLarge = context.TooLarge
why_of why.ForkForm = context.ForkForm
why_of (why.BranchNotProved number f) = context.BranchNotProved number f

-- the answer is this reason; memory may fail at any time
abbrev pub IsReason : {A : Type 0} → Result A context.Why → ContextFault → Type 0
IsReason answer (fault.Why w) = answer ≡ Err (why_of w)
IsReason answer fault.Memory = ⊤

-- a form or a row that 64 bits don't hold
abbrev pub fault_of : FormFault → ContextFault
fault_of form_fault.TooLarge = fault.Why why.TooLarge
fault_of form_fault.Memory = fault.Memory
