-- A step of the machine that is no halt is the step without limits.
use Rattle.std.proofs.Common.{◌≡◌, ◌⊎◌, inl, inr, sym, ◌∙◌}
use Rattle.core_language.specs.Names.{Name}
use Rattle.core_language.specs.Programs.{Program}
use Rattle.core_language.specs.Computing.{Halt}
use Rattle.core_language.specs.Configurations.{Config}
use Rattle.core_language.specs.Steps.{IsHalted, machine_step, step}
use Rattle.core_language.proofs.Halting.{halts_or_steps}
use Rattle.chan_machine.specs.declared.events.Stepped.{Stepped}
use Rattle.chan_machine.specs.declared.events.Stepped.TheVariants as stepped
use Rattle.chan_machine.specs.Reading.{step_of}
use Rattle.chan_machine.specs.Fits.{IsHalt}

pub unless_halted : (program : Program) (C D : Config) (name : Name) (s : Stepped) → machine_step program C name ≡ step_of D s → IsHalt s ⊎ (step program C name ≡ step_of D s)
unless_halted program C D name s is = by (halts_or_steps program C name) s is
  where
    by : ((why : Halt) × (machine_step program C name ≡ IsHalted why)) ⊎ (machine_step program C name ≡ step program C name) → (s : Stepped)
        → machine_step program C name ≡ step_of D s → IsHalt s ⊎ (step program C name ≡ step_of D s)
    by (inr same) s is = inr (sym same ∙ is)
    by (inl halt) (stepped.Halts why) is = inl tt
    by (inl halt) (stepped.Moved event) is = let t = sym halt.1 ∙ is in cc
    by (inl halt) (stepped.Waits channel) is = let t = sym halt.1 ∙ is in cc
    by (inl halt) stepped.Ended is = let t = sym halt.1 ∙ is in cc
    by (inl halt) stepped.Absent is = let t = sym halt.1 ∙ is in cc
    by (inl halt) (stepped.Stuck why) is = let t = sym halt.1 ∙ is in cc
