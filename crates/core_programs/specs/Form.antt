-- The form of a program: five passes, and the first fault of the first pass that finds one.
use Rattle.std.specs.Prelude.{◌≡◌, ◌⊎◌, ℕ, List, [], ◌∷◌, Option, Some, None, slice_get}
use Rattle.chan_syntax.specs.declared.resources.Proto.{Proto}
use Rattle.chan_syntax.specs.declared.operands.Letter.{Letter}
use Rattle.form_faults.specs.declared.faults.IllKind.TheVariants as kind
use Rattle.form_faults.specs.declared.faults.Ill.{Ill}
use Rattle.form_faults.specs.Faults.{IsFirst}
use Rattle.protocol_guard.specs.Guards.{IsGuarded, IsFirstCycle, graph_of, names_on}
use Rattle.core_programs.specs.declared.nodes.Parts.{Parts}
use Rattle.core_programs.specs.declared.faults.BuildFault.{BuildFault}
use Rattle.core_programs.specs.declared.faults.BuildFault.TheVariants as fault
use Rattle.core_programs.specs.Formed.{IsNumbered}
use Rattle.core_programs.specs.Passes.{twice_faults, name_faults, count_faults, main_faults}

-- ---- pass 4: Unguarded, at the name of the cycle's first protocol

abbrev pub IsUnguarded : List Proto → Ill → Type 0
IsUnguarded protos ill =
    (i : ℕ) × (way : List Letter) × (p : Proto) × IsFirstCycle (graph_of protos) i way × (slice_get protos i ≡ Some p)
    × (ill ≡ record { kind = kind.Unguarded; names = names_on protos (Some i) way; span = p.name_span })

-- ---- the passes

-- names that are declared twice, what names mean and how many and how large all is, how many there are, cycles of protocols, `main`
pub data Pass : Type 0 where
  Twice : Pass
  Names : Pass
  Counts : Pass
  Guards : Pass
  Mains : Pass

-- the pass finds no fault
abbrev pub IsSilent : Parts → Pass → Type 0
IsSilent parts Twice = twice_faults parts ≡ []
IsSilent parts Names = name_faults parts ≡ []
IsSilent parts Counts = count_faults parts ≡ []
IsSilent parts Guards = IsGuarded parts.protos
IsSilent parts Mains = main_faults parts ≡ []

-- the first fault of the pass
abbrev pub Finds : Parts → Pass → Ill → Type 0
Finds parts Twice ill = IsFirst (twice_faults parts) ill
Finds parts Names ill = IsFirst (name_faults parts) ill
Finds parts Counts ill = IsFirst (count_faults parts) ill
Finds parts Guards ill = IsUnguarded parts.protos ill
Finds parts Mains ill = IsFirst (main_faults parts) ill

-- what a pass and those behind it find: the first fault of the first pass that finds one, or none
abbrev pub FoundFrom : Parts → Pass → List Pass → Option Ill → Type 0
FoundFrom parts pass [] None = IsSilent parts pass
FoundFrom parts pass [] (Some ill) = Finds parts pass ill
FoundFrom parts pass (next ∷ later) None = IsSilent parts pass × FoundFrom parts next later None
FoundFrom parts pass (next ∷ later) (Some ill) = Finds parts pass ill ⊎ (IsSilent parts pass × FoundFrom parts next later (Some ill))

-- what all passes find, in their order
abbrev pub Passes : Parts → Option Ill → Type 0
Passes parts found = FoundFrom parts Twice (Names ∷ Counts ∷ Guards ∷ Mains ∷ []) found

-- no pass finds a fault
abbrev pub HasForm : Parts → Type 0
HasForm parts = Passes parts None

-- the first fault of the form
abbrev pub IsFault : Parts → Ill → Type 0
IsFault parts ill = Passes parts (Some ill)

-- ---- programs

-- numbers that lead one way to each node, and no fault of form
pub record IsFormed (parts : Parts) : Type 0 where
  pub numbered : IsNumbered parts
  pub form : HasForm parts

-- the first fault of the form, unless memory failed
abbrev pub IsBuildFault : Parts → BuildFault → Type 0
IsBuildFault parts (fault.Ill ill) = IsFault parts ill
IsBuildFault parts fault.Memory = Unit {0}
