-- What comes of a certificate that is tried.
use Rattle.std.proofs.Common.{◌≡◌, ℕ, suc, List, [], ◌∷◌, map, refl, sym, ap, ◌∙◌, Ok, Err}
use Rattle.farkas_check.specs.declared.cert.Row.{Row}
use Rattle.farkas_check.specs.declared.cert.Cert.{Cert}
use Rattle.farkas_check.specs.declared.cert.Mention.{Mention}
use Rattle.farkas_check.specs.declared.cert.CertFault.{CertFault}
use Rattle.farkas_check.specs.Certificates.{faults, verdict}
use Rattle.core_language.specs.Operands as operand
use Rattle.chan_syntax.specs.declared.operands.Proof.{Proof}
use Rattle.chan_syntax.specs.declared.operands.WrittenCert.{WrittenCert}
use Rattle.chan_syntax.specs.Reading.{cert_of}
use Rattle.chan_syntax.specs.Bounds.{mention_in, cert_in}
use Rattle.outline_language.specs.Contexts.{mentioned, tried}
use Rattle.outline_obligations.specs.declared.cursors.Refused.{Refused}
use Rattle.outline_obligations.specs.declared.cursors.Taken.{Taken}
use Rattle.outline_obligations.specs.Cursors.{cursor_at, refused_as, tried_at}

mentions_back : (ms : List Mention) → map mentioned (map mention_in ms) ≡ ms
mentions_back [] = refl
mentions_back (m ∷ ms) = ap (λ l. m ∷ l) (mentions_back ms)

verdict_is : (cert : Cert) (written : WrittenCert) (hyps : List Row) (row : Row) → cert_in cert ≡ cert_of written
    → verdict (faults (cert_of written).divisor (map mentioned (cert_of written).mentions) hyps row) ≡ verdict (faults cert.divisor cert.mentions hyps row)
verdict_is cert written hyps row e =
    ap (λ (c : operand.Cert). verdict (faults c.divisor (map mentioned c.mentions) hyps row)) (sym e)
    ∙ ap (λ (ms : List Mention). verdict (faults cert.divisor ms hyps row)) (mentions_back cert.mentions)

module _ (refused : Refused) (proof : Proof) (taken : Taken) (cert : Cert) (written : WrittenCert) (hyps : List Row) (row : Row) (read : cert_in cert ≡ cert_of written) where
  -- a valid one is spent
  pub tried_ok : (x : Unit {0}) → Ok x ≡ verdict (faults cert.divisor cert.mentions hyps row)
      → (more : ℕ) → more ≡ suc taken.cert → tried_at refused hyps row written (cursor_at proof taken) ≡ Ok (cursor_at proof (record { instance = taken.instance; cert = more }))
  tried_ok x v more m =
      ap (tried (refused_as refused) (cursor_at proof taken)) (verdict_is cert written hyps row read ∙ sym v)
      ∙ ap (λ n. Ok (cursor_at proof (record { instance = taken.instance; cert = n }))) (sym m)

  -- another one is refused
  pub tried_err : (fault : CertFault) → Err fault ≡ verdict (faults cert.divisor cert.mentions hyps row)
      → tried_at refused hyps row written (cursor_at proof taken) ≡ Err (refused_as refused taken.cert fault)
  tried_err fault v = ap (tried (refused_as refused) (cursor_at proof taken)) (verdict_is cert written hyps row read ∙ sym v)
