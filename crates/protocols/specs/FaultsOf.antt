-- Faults of `unfold`.
use Rattle.substitution.specs.declared.faults.SubstFault.{SubstFault}
use Rattle.substitution.specs.declared.faults.SubstFault.TheVariants as cause
use Rattle.protocols.specs.Unfolding.{Fault}
use Rattle.protocols.specs.Unfolding as spec
use Rattle.protocols.specs.declared.faults.UnfoldFault.{UnfoldFault}
use Rattle.protocols.specs.declared.faults.UnfoldFault.TheVariants.{WrongForm, CertCount, BranchNotProved, TooLarge, Memory}

abbrev pub fault_of : SubstFault → UnfoldFault
fault_of cause.TooLarge = TooLarge
fault_of cause.Memory = Memory

-- the fault is one of these; memory may fail at any time
abbrev pub IsFault : (Fault → Type 0) → UnfoldFault → Type 0
IsFault P WrongForm = P spec.WrongForm
IsFault P CertCount = P spec.CertCount
IsFault P (BranchNotProved number fault) = P (spec.BranchNotProved number fault)
IsFault P TooLarge = P spec.TooLarge
IsFault P Memory = Unit {0}
