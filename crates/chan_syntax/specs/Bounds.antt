-- Written certificates whose numbers a certificate can have.
use Rattle.std.specs.Prelude.{◌<◌, ◌≤◌, ◌^◌, All, length, map}
use Rattle.core_language.specs.Operands as operand
use Rattle.farkas_check.specs.declared.cert.Mention.{Mention}
use Rattle.farkas_check.specs.declared.cert.Cert.{Cert}
use Rattle.chan_syntax.specs.declared.operands.WrittenMention.{WrittenMention}
use Rattle.chan_syntax.specs.declared.operands.WrittenCert.{WrittenCert}

-- each number of the mention is at most 2147483647
pub record IsSmall (mention : WrittenMention) : Type 0 where
  pub factor : mention.factor < 2 ^ 31
  pub index : mention.index < 2 ^ 31

-- the divisor is from 1 to 2147483647, and there are at most 256 mentions, each small
pub record IsBounded (cert : WrittenCert) : Type 0 where
  pub positive : 1 ≤ cert.divisor
  pub divisor : cert.divisor < 2 ^ 31
  pub few : length cert.mentions ≤ 256
  pub small : All IsSmall cert.mentions

-- a certificate as the core language has it
abbrev pub mention_in : Mention → operand.Mention
mention_in mention = record { factor = mention.factor; index = mention.index }

abbrev pub cert_in : Cert → operand.Cert
cert_in cert = record { divisor = cert.divisor; mentions = map mention_in cert.mentions }
