-- Certificates within their bounds have divisors.
use Rattle.std.proofs.Common.{◌≡◌, ℕ, zero, suc, ◌≤◌, List, [], ◌∷◌, All, map, slice_get, Some, subst}
use Rattle.std.proofs.lemmas.List.Elements.{All-head, All-tail}
use Rattle.core_language.specs.Names.{Ident}
use Rattle.core_language.specs.Operands.{Cert}
use Rattle.farkas_check.specs.declared.cert.Row.{Row}
use Rattle.chan_syntax.specs.Bounds.{IsBounded}
use Rattle.chan_syntax.specs.Reading.{proto_of, cert_of}
use Rattle.chan_syntax.specs.declared.resources.Proto.{Proto}
use Rattle.chan_syntax.specs.declared.operands.WrittenCert.{WrittenCert}
use Rattle.protocols.specs.Unfolding.{AreFormed, IsWellFormed}
use Rattle.protocols.specs.Settings.{under}

positive : (certs : List WrittenCert) (k : ℕ) (cert : Cert) → All IsBounded certs → slice_get (map cert_of certs) k ≡ Some cert → 1 ≤ cert.divisor
positive [] k cert h e = absurd cc
positive (c ∷ cs) zero cert h e = let is : cert_of c ≡ cert = cc in subst (λ (x : Cert). 1 ≤ x.divisor) is (All-head IsBounded c cs h).positive
positive (c ∷ cs) (suc k) cert h e = positive cs k cert (All-tail IsBounded c cs h) e

pub well_formed : (protos : List Proto) (ints : List Ident) (hyps : List Row) (certs : List WrittenCert) → AreFormed (map proto_of protos) → All IsBounded certs → IsWellFormed (under protos ints hyps certs)
well_formed protos ints hyps certs formed bounded = record { protos = formed; divisors = λ k cert e. positive certs k cert bounded e }
