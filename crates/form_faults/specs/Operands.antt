-- The faults of what statements name: values, proofs, patterns and paths.
use Rattle.std.specs.Prelude.{ℕ, ◌||◌, not, nat_eq, nat_le, nat_lt, if◌then◌else◌, length, map, List, [], ◌∷◌, ◌++◌, Option, unwrap_or}
use Rattle.chan_base.specs.declared.spans.Span.{Span}
use Rattle.chan_syntax.specs.declared.operands.Supply.{Supply, Unit, Pair', Arm', Sum, Row_of-Supply, end_of-Supply, more_of-Supply}
use Rattle.chan_syntax.specs.declared.operands.Pat.{Pat}
use Rattle.chan_syntax.specs.declared.operands.Letter.{Letter}
use Rattle.chan_syntax.specs.declared.operands.WrittenMention.{WrittenMention}
use Rattle.chan_syntax.specs.declared.operands.WrittenCert.{WrittenCert}
use Rattle.chan_syntax.specs.declared.operands.Proof.{Proof}
use Rattle.form_faults.specs.declared.faults.IllKind.TheVariants as kind
use Rattle.form_faults.specs.declared.faults.Ill.{Ill}
use Rattle.form_faults.specs.declared.sorts.Sort.TheVariants as sort
use Rattle.form_faults.specs.declared.sorts.Naming.TheVariants as naming
use Rattle.form_faults.specs.declared.sorts.Known.{Known}
use Rattle.form_faults.specs.Faults.{at_span, past, unless}
use Rattle.form_faults.specs.Scopes.{Binder, binders}
use Rattle.form_faults.specs.Terms.{term_faults, terms_faults}

-- ---- values

unfoldable mutual
  pub supply_faults : List Known → Supply → List Ill
  supply_faults scope Unit = []
  supply_faults scope (Pair' _ first _ second) = supply_in_faults scope first ++ supply_in_faults scope second
  supply_faults scope (Arm' number _ value) = supply_in_faults scope value
  supply_faults scope (Sum term) = term_faults naming.Variables scope term

  -- what a box holds: a row of one value
  pub supply_in_faults : {m : _} → List Known → Row_of-Supply m → List Ill
  supply_in_faults scope end_of-Supply = []
  supply_in_faults scope (more_of-Supply value rest) = supply_faults scope value

unfoldable pub supplies_faults : List Known → List Supply → List Ill
supplies_faults scope [] = []
supplies_faults scope (v ∷ vs) = supply_faults scope v ++ supplies_faults scope vs

-- ---- certificates

-- the greatest number of a certificate
abbrev pub greatest : ℕ
greatest = 2147483647

-- BadNumber at a divisor that is 0 or too great, and at a factor or an index that is too great
unfoldable pub divisor_faults : ℕ → Span → List Ill
divisor_faults n span = unless (not (nat_eq n 0 || nat_lt greatest n)) span

unfoldable pub mention_faults : WrittenMention → List Ill
mention_faults mention = unless (nat_le mention.factor greatest) mention.factor_span ++ unless (nat_le mention.index greatest) mention.index_span

unfoldable pub mentions_faults : List WrittenMention → List Ill
mentions_faults [] = []
mentions_faults (m ∷ ms) = mention_faults m ++ mentions_faults ms

unfoldable pub mentions_past : List WrittenMention → List Ill
mentions_past mentions = past 256 (map (λ m. m.span) mentions)

unfoldable pub cert_faults : WrittenCert → List Ill
cert_faults cert = divisor_faults cert.divisor (unwrap_or cert.divisor_span cert.span) ++ (mentions_faults cert.mentions ++ mentions_past cert.mentions)

unfoldable pub certs_faults : List WrittenCert → List Ill
certs_faults [] = []
certs_faults (c ∷ cs) = cert_faults c ++ certs_faults cs

-- the instances may name all variables in scope
unfoldable pub proof_faults : List Known → Proof → List Ill
proof_faults scope proof = terms_faults naming.Either scope proof.instances ++ certs_faults proof.certs

-- ---- paths and patterns

-- TooMany at a path of more than 16 letters
unfoldable pub path_faults : List Letter → Option Span → Span → List Ill
path_faults path span else_at = if nat_le (length path) 16 then [] else at_span kind.TooMany (unwrap_or span else_at)

-- the name of the value, then the names of the integers that its resource binds
abbrev pub pat_binders : Pat → List Binder
pat_binders pat = record { name = pat.name; sort = sort.Variable; span = pat.name_span } ∷ binders sort.Integer pat.names pat.names_spans
