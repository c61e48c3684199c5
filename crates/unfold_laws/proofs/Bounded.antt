-- The certificates of each node of a program of form are within their bounds.
use Rattle.std.proofs.Common.{◌≡◌, ℕ, zero, suc, ◌+◌, ◌<◌, ◌≤◌, ◌^◌, Bool, true, false, not, ◌||◌, nat_eq, nat_le, nat_lt, List, [], ◌∷◌, ◌++◌, All, map, length, Some, slice_get, unwrap_or, refl, arith}
use Rattle.std.proofs.lemmas.Bool.{eqb-false, ltb-false, leb-true, or_parts, not-true}
use Rattle.std.proofs.lemmas.List.Elements.{All-nil, All-cons}
use Rattle.chan_base.specs.declared.spans.Span.{Span}
use Rattle.chan_syntax.specs.declared.operands.WrittenMention.{WrittenMention}
use Rattle.chan_syntax.specs.declared.operands.WrittenCert.{WrittenCert}
use Rattle.chan_syntax.specs.declared.operands.Proof.{Proof}
use Rattle.chan_syntax.specs.Bounds.{IsSmall, IsBounded}
use Rattle.form_faults.specs.declared.sorts.Known.{Known}
use Rattle.form_faults.specs.declared.sorts.Naming.TheVariants as naming
use Rattle.form_faults.specs.declared.signatures.Signature.{Signature}
use Rattle.form_faults.specs.Faults.{past, unless}
use Rattle.form_faults.specs.Scopes.{unscoped}
use Rattle.form_faults.specs.Terms.{terms_faults, use_faults, ref_faults}
use Rattle.form_faults.specs.Operands.{supply_faults, supplies_faults, greatest, divisor_faults, mention_faults, mentions_faults, mentions_past, cert_faults, certs_faults, proof_faults, path_faults}
use Rattle.core_programs.specs.declared.nodes.Node.{Node}
use Rattle.core_programs.specs.declared.nodes.Node.TheVariants as node
use Rattle.core_programs.specs.declared.nodes.Parts.{Parts}
use Rattle.core_programs.specs.Passes.{call_faults, operand_faults, func_signatures, proto_signatures}
use Rattle.core_programs.specs.Form.{IsFormed}
use Rattle.unfold_laws.specs.Certs.{certs_of_node}
use Rattle.unfold_laws.proofs.Clean.{none_left, none_right, none_of_one}
use Rattle.unfold_laws.proofs.Nodes.{nodes_clean}

-- ---- numbers

fits : (b : Bool) (span : Span) → unless b span ≡ [] → b ≡ true
unfolding unless
fits true span none = refl
fits false span none = absurd (none_of_one _ none)

divisor_bounded : (n : ℕ) (span : Span) → divisor_faults n span ≡ [] → (1 ≤ n) × (n < 2 ^ 31)
unfolding divisor_faults
divisor_bounded n span none =
    let (some, low) = or_parts (nat_eq n 0) (nat_lt greatest n) (not-true (nat_eq n 0 || nat_lt greatest n) (fits (not (nat_eq n 0 || nat_lt greatest n)) span none)) in
    let above = eqb-false n 0 some in
    let below = ltb-false greatest n low in
    (omega (arith, above), omega (arith, below))

number_small : (n : ℕ) (span : Span) → unless (nat_le n greatest) span ≡ [] → n < 2 ^ 31
number_small n span none = let below = leb-true n greatest (fits (nat_le n greatest) span none) in omega (arith, below)

at_most : {X : Type 0} (at : X → Span) (xs : List X) (most : ℕ) → past most (map at xs) ≡ [] → length xs ≤ most
unfolding past
at_most at [] most none = omega arith
at_most at (x ∷ xs) zero none = absurd (none_of_one _ none)
at_most at (x ∷ xs) (suc most) none = let more = at_most at xs most none in omega (arith, more)

-- ---- certificates

mention_small : (m : WrittenMention) → mention_faults m ≡ [] → IsSmall m
unfolding mention_faults
mention_small m none =
    let factor = unless (nat_le m.factor greatest) m.factor_span in
    let index = unless (nat_le m.index greatest) m.index_span in
    record { factor = number_small m.factor m.factor_span (none_left factor index none); index = number_small m.index m.index_span (none_right factor index none) }

mentions_small : (ms : List WrittenMention) → mentions_faults ms ≡ [] → All IsSmall ms
unfolding mentions_faults
mentions_small [] none = All-nil IsSmall
mentions_small (m ∷ ms) none =
    All-cons IsSmall m ms (mention_small m (none_left (mention_faults m) (mentions_faults ms) none)) (mentions_small ms (none_right (mention_faults m) (mentions_faults ms) none))

cert_bounded : (cert : WrittenCert) → cert_faults cert ≡ [] → IsBounded cert
unfolding cert_faults mentions_past
cert_bounded cert none =
    let span = unwrap_or cert.divisor_span cert.span in
    let mentions = mentions_faults cert.mentions in
    let most = mentions_past cert.mentions in
    let (positive, divisor) = divisor_bounded cert.divisor span (none_left (divisor_faults cert.divisor span) (mentions ++ most) none) in
    let after = none_right (divisor_faults cert.divisor span) (mentions ++ most) none in
    record {
      positive = positive;
      divisor = divisor;
      few = at_most (λ (m : WrittenMention). m.span) cert.mentions 256 (none_right mentions most after);
      small = mentions_small cert.mentions (none_left mentions most after);
    }

certs_bounded : (certs : List WrittenCert) → certs_faults certs ≡ [] → All IsBounded certs
unfolding certs_faults
certs_bounded [] none = All-nil IsBounded
certs_bounded (c ∷ cs) none =
    All-cons IsBounded c cs (cert_bounded c (none_left (cert_faults c) (certs_faults cs) none)) (certs_bounded cs (none_right (cert_faults c) (certs_faults cs) none))

proof_bounded : (scope : List Known) (proof : Proof) → proof_faults scope proof ≡ [] → All IsBounded proof.certs
unfolding proof_faults
proof_bounded scope proof none = certs_bounded proof.certs (none_right (terms_faults naming.Either scope proof.instances) (certs_faults proof.certs) none)

-- ---- nodes

module _ (protos funcs : List Signature) (scope : List Known) where
  call_bounded : (func : _) (func_at : Span) (count : ℕ) (values : List _) (proof : Proof) → call_faults funcs scope func func_at count values proof ≡ [] → All IsBounded proof.certs
  unfolding call_faults
  call_bounded func func_at count values proof none =
      let uses = use_faults funcs func func_at count in
      let supplies = supplies_faults scope values in
      let proves = proof_faults scope proof in
      proof_bounded scope proof (none_right supplies proves (none_right uses (supplies ++ proves) none))

  node_bounded : (x : Node) → operand_faults protos funcs scope x ≡ [] → All IsBounded (certs_of_node x)
  unfolding operand_faults
  node_bounded (node.Let name name_at term next span) none = All-nil IsBounded
  node_bounded (node.Mul name name_at left right next span) none = All-nil IsBounded
  node_bounded (node.Div name name_at term divisor divisor_at next span) none = All-nil IsBounded
  node_bounded (node.Rem name name_at term divisor divisor_at next span) none = All-nil IsBounded
  node_bounded (node.Call pat func func_at values proof next span) none = call_bounded func func_at (length values) values proof none
  node_bounded (node.Tail func func_at values proof span) none = call_bounded func func_at (length values) values proof none
  node_bounded (node.Fork name name_at proto func func_at values proof next span) none =
      call_bounded func func_at (length values + 1) values proof (none_right (ref_faults protos scope proto) (call_faults funcs scope func func_at (length values + 1) values proof) none)
  node_bounded (node.Send1 channel channel_at path path_at value proof next span) none =
      let names = unscoped naming.Variables scope channel channel_at in
      let paths = path_faults path path_at span in
      let supplies = supply_faults scope value in
      let proves = proof_faults scope proof in
      proof_bounded scope proof (none_right supplies proves (none_right paths (supplies ++ proves) (none_right names (paths ++ (supplies ++ proves)) none)))
  node_bounded (node.Recv1 pat channel channel_at path path_at proof next span) none =
      let names = unscoped naming.Variables scope channel channel_at in
      let paths = path_faults path path_at span in
      let proves = proof_faults scope proof in
      proof_bounded scope proof (none_right paths proves (none_right names (paths ++ proves) none))
  node_bounded (node.Print term next span) none = All-nil IsBounded
  node_bounded (node.If left right this other span) none = All-nil IsBounded
  node_bounded (node.Split first second name name_at next span) none = All-nil IsBounded
  node_bounded (node.Match name name_at arms span) none = All-nil IsBounded
  node_bounded (node.Absurd proof span) none = proof_bounded scope proof none
  node_bounded (node.Ret value proof span) none = proof_bounded scope proof (none_right (supply_faults scope value) (proof_faults scope proof) none)

pub nodes_bounded : (parts : Parts) (n : ℕ) (x : Node) → IsFormed parts → slice_get parts.nodes n ≡ Some x → All IsBounded (certs_of_node x)
nodes_bounded parts n x formed is =
    let (scope, none) = nodes_clean parts n x formed is in
    node_bounded (proto_signatures parts.protos) (func_signatures parts.funcs) scope x none
