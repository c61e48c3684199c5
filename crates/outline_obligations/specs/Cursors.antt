-- What was taken of a proof, and obligations, as the definitions have them.
use Rattle.std.specs.Prelude.{◌≡◌, ℕ, List, map, Result, Ok}
use Rattle.farkas_check.specs.declared.cert.CertFault.{CertFault}
use Rattle.farkas_check.specs.declared.cert.Row.{Row}
use Rattle.farkas_check.specs.Certificates.{faults, verdict}
use Rattle.chan_syntax.specs.declared.operands.Proof.{Proof}
use Rattle.chan_syntax.specs.declared.operands.WrittenCert.{WrittenCert}
use Rattle.chan_syntax.specs.Reading.{proof_of, cert_of}
use Rattle.outline_language.specs.LinearForms.{LinearForm}
use Rattle.outline_language.specs.Contexts.{Why, NotProved, BranchNotProved, Cursor, and_then, mentioned, tried, row_formed, row_shown}
use Rattle.outline_obligations.specs.declared.cursors.Refused.{Refused}
use Rattle.outline_obligations.specs.declared.cursors.Refused.TheVariants.{Here, OnPath}
use Rattle.outline_obligations.specs.declared.cursors.Taken.{Taken}

abbrev pub cursor_at : Proof → Taken → Cursor
cursor_at proof taken = record { proof = proof_of proof; instance = taken.instance; cert = taken.cert }

-- the reason where a certificate isn't valid
abbrev pub refused_as : Refused → (number : ℕ) → CertFault → Why
refused_as Here = NotProved
refused_as OnPath = BranchNotProved

-- what comes of a certificate that is tried on a row
abbrev pub tried_at : Refused → List Row → Row → WrittenCert → Cursor → Result Cursor Why
tried_at refused hyps row cert cursor =
    tried (refused_as refused) cursor (verdict (faults cert.divisor (map mentioned (cert_of cert).mentions) hyps row))

-- the form is at most 0, over so many integer variables and under these hypotheses
abbrev pub obliged : Refused → (variables : ℕ) → List Row → LinearForm → Cursor → Result Cursor Why
obliged refused variables hyps form cursor = and_then (row_formed variables form) (λ row. row_shown (refused_as refused) hyps row cursor)

-- so much of the proof is taken then
abbrev pub Obliges : Refused → (variables : ℕ) → List Row → LinearForm → Proof → (before after : Taken) → Type 0
Obliges refused variables hyps form proof before after = obliged refused variables hyps form (cursor_at proof before) ≡ Ok (cursor_at proof after)
