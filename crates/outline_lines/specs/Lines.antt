-- The line that tells why a program isn't outlined.
use Rattle.std.specs.Prelude.{ℕ, codes, List, [], ◌∷◌, ◌++◌, slice_get, unwrap_or}
use Rattle.std.specs.Fmt.{decimal, signed_decimal}
use Rattle.core_language.specs.Names.{Ident}
use Rattle.farkas_check.specs.declared.cert.CertFault.{CertFault}
use Rattle.farkas_check.specs.declared.cert.CertFault.TheVariants as cert
use Rattle.outline_language.specs.Contexts.{Why}
use Rattle.outline_language.specs.Contexts as why
use Rattle.outline_language.specs.Outlined.{Fault}

-- the name of an integer variable
abbrev pub variable_text : List Ident → ℕ → List ℕ
variable_text names variable = unwrap_or (slice_get names variable) []

-- why a certificate doesn't show its row
abbrev pub cert_text : List Ident → CertFault → List ℕ
cert_text names (cert.BadIndex index) = codes "bad index " ++ decimal index
cert_text names (cert.Negative index) = codes "negative " ++ decimal index
cert_text names (cert.NotEqual variable left right) =
    codes "not equal " ++ variable_text names variable ++ 32 ∷ signed_decimal left ++ 32 ∷ signed_decimal right
cert_text names (cert.Constant constant divisor) = codes "constant " ++ signed_decimal constant ++ 32 ∷ decimal divisor

-- which obligation, and why it isn't shown
abbrev pub obligation_text : List Ident → ℕ → CertFault → List ℕ
obligation_text names number fault = decimal number ++ codes ": " ++ cert_text names fault

abbrev pub why_text : List Ident → Why → List ℕ
why_text names (why.NotHeld x) = codes "not held " ++ x
why_text names why.WrongForm = codes "wrong form"
why_text names (why.Left x) = codes "left " ++ x
why_text names why.InstanceCount = codes "instance count"
why_text names why.CertCount = codes "certificate count"
why_text names (why.NotProved number fault) = codes "not proved " ++ obligation_text names number fault
why_text names why.TooLarge = codes "too large"
why_text names why.ForkForm = codes "fork form"
why_text names (why.BranchNotProved number fault) = codes "branch not proved " ++ obligation_text names number fault

-- where the fault stands, and why
abbrev pub outline_line : Fault → List ℕ
outline_line fault =
    codes "outline " ++ decimal fault.span.line ++ 58 ∷ decimal fault.span.column ++ 32 ∷ why_text fault.names fault.why ++ 10 ∷ []
