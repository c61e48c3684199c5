-- The spans in values, patterns, paths and proofs stand where their tokens do.
use Rattle.std.proofs.Common.{◌≡◌, ℕ, List, ◌++◌, Option, Some, None, sym, ap, subst, arith}
use denote.Hole.Carrier.{hidden}
use Rattle.chan_base.specs.declared.spans.Span.{Span}
use Rattle.chan_syntax.specs.declared.operands.Supply.TheBlock.{hidden-the_row-Supply-0}
use Rattle.chan_syntax.specs.declared.operands.Supply.{Supply}
use Rattle.chan_syntax.specs.declared.operands.Supply.TheVariants as v
use Rattle.chan_syntax.specs.declared.operands.WrittenMention.{WrittenMention}
use Rattle.grammar_laws.specs.Grammar as g
use Rattle.surface_grammar.specs.declared.words.Word.TheVariants as w
use Rattle.surface_grammar.specs.declared.parts.Digits.{Digits}
use Rattle.surface_grammar.specs.declared.parts.Route.{Route}
use Rattle.surface_grammar.specs.declared.parts.CertParts.{CertParts}
use Rattle.surface_grammar.specs.declared.parts.BehindNumber.{BehindNumber}
use Rattle.surface_grammar.specs.declared.parts.BehindNumber.TheVariants as b
use Rattle.surface_grammar.specs.Grammar.{AValue, number, arm_number, letters}
use Rattle.surface_grammar.specs.Operands.{pair, parenthesized, numbered_value, value, values, given_values, bracketed, names_if_any, pat, route, ratio, minus_mention, plain_mention, mention, mentions, more_mentions, mentions_to_brace, behind_number, span_to, numbered, minus_mentions, cert_parts, cert_with, cert, certs, bracketed_terms, bracketed_certs, instances, certificates, proof}
use Rattle.fault_places.specs.Spans.{Every, OfAny, InTerm, InSupply, InPat, InMention, InCert, InProof}
use Rattle.fault_places.proofs.Placed.{From, HoldsFrom, Row, row_back, SpanFact, Placed, begun_one, begun_left, begun_nest, word_begun, placed_pure, placed_one, placed_seq, placed_either, placed_call, placed_spanned, placed_nest, EveryOf, NoSpan, Both, word_placed, placed_map, placed_behind, placed_before, placed_two, placed_commas, placed_listed, placed_closed}
use Rattle.fault_places.proofs.PlacedTerms.{InNames, InDigits, name_placed, number_placed, names_placed, term_placed, terms_placed}

-- ---- values

pub in_pair : (P : Span → Type 0) (a b : Supply) → InSupply P a → InSupply P b → InSupply P (v.Pair a b)
unfolding hidden hidden-the_row-Supply-0
in_pair P a b p q = (p, q)

in_arm : (P : Span → Type 0) (i : ℕ) (a : Supply) → InSupply P a → InSupply P (v.Arm i a)
unfolding hidden hidden-the_row-Supply-0
in_arm P i a p = p

one_value_placed : Placed (g.call AValue (λ x. x)) InSupply
one_value_placed = placed_call (λ P x p. p)

pair_placed : Placed pair InSupply
unfolding pair
pair_placed = placed_seq one_value_placed (placed_behind w.Comma (placed_before w.RightParen one_value_placed)) in_pair

parenthesized_placed : Placed parenthesized InSupply
unfolding parenthesized
parenthesized_placed = placed_either (placed_map (word_placed w.RightParen) (λ P x p. tt)) pair_placed

pub arm_number_placed : Placed arm_number NoSpan
unfolding arm_number
arm_number_placed = placed_one (λ P t p. tt)

numbered_value_placed : Placed numbered_value InSupply
unfolding numbered_value
numbered_value_placed = placed_seq arm_number_placed one_value_placed (λ P i a p q. in_arm P i a q)

pub value_placed : Placed value InSupply
unfolding value
value_placed =
    placed_either (placed_nest parenthesized_placed)
    (placed_either (placed_nest (placed_call (λ P. in_arm P 0)))
    (placed_either (placed_nest (placed_call (λ P. in_arm P 1))) (placed_either (placed_nest numbered_value_placed) (placed_map term_placed (λ P t p. p)))))

values_placed : Placed values (EveryOf InSupply)
unfolding values
values_placed = placed_listed value_placed

pub given_values_placed : Placed given_values (EveryOf InSupply)
unfolding given_values
given_values_placed = placed_nest (placed_closed w.RightParen values_placed)

-- ---- patterns and paths

pub bracketed_placed : Placed bracketed InNames
unfolding bracketed
bracketed_placed = placed_nest (placed_before w.RightBracket names_placed)

names_if_any_placed : Placed names_if_any InNames
unfolding names_if_any
names_if_any_placed = placed_either bracketed_placed (placed_pure (λ P. tt))

pub pat_placed : Placed pat InPat
unfolding pat
pat_placed = placed_seq name_placed names_if_any_placed (λ P n ns p q. (p, q))

abbrev pub InRoute : SpanFact Route
InRoute P r = OfAny P r.span

letters_placed : Placed letters InRoute
unfolding letters
letters_placed = placed_one (λ P t p. p)

pub route_placed : Placed route InRoute
unfolding route
route_placed = placed_either (placed_behind w.Via letters_placed) (placed_pure (λ P. tt))

-- ---- certificates

ratio_placed : Placed ratio (Both InDigits InDigits)
unfolding ratio
ratio_placed = placed_two number_placed (placed_behind w.Hash number_placed)

minus_mention_placed : Placed minus_mention InMention
unfolding minus_mention
minus_mention_placed = placed_spanned (placed_behind w.Minus ratio_placed) (begun_left (word_begun w.Minus)) (λ P ts x p span. (p.0, p.1, span))

plain_mention_placed : Placed plain_mention InMention
unfolding plain_mention ratio number
plain_mention_placed = placed_spanned {EA = Both InDigits InDigits} ratio_placed (begun_left begun_one) (λ P ts x p span. (p.0, p.1, span))

mention_placed : Placed mention InMention
unfolding mention
mention_placed = placed_either minus_mention_placed plain_mention_placed

mentions_placed : Placed mentions (EveryOf InMention)
unfolding mentions
mentions_placed = placed_listed mention_placed

more_mentions_placed : Placed more_mentions (EveryOf InMention)
unfolding more_mentions
more_mentions_placed = placed_commas mention_placed

mentions_to_brace_placed : Placed mentions_to_brace (EveryOf InMention)
unfolding mentions_to_brace
mentions_to_brace_placed = placed_closed w.RightBrace mentions_placed

abbrev InBehind : SpanFact BehindNumber
InBehind P (b.Mentions ms) = Every (InMention P) ms
InBehind P (b.Mention i ms) = P i.span × Every (InMention P) ms

behind_number_placed : Placed behind_number InBehind
unfolding behind_number
behind_number_placed =
    placed_either (placed_behind w.Colon (placed_map mentions_to_brace_placed (λ P ms p. p)))
    (placed_seq (placed_behind w.Hash number_placed) (placed_before w.RightBrace more_mentions_placed) (λ P i ms p q. (p, q)))

abbrev OfDivisor : (Span → Type 0) → Option Digits → Type 0
OfDivisor P None = Unit {0}
OfDivisor P (Some d) = P d.span

abbrev InCertParts : SpanFact CertParts
InCertParts P c = OfDivisor P c.divisor × Every (InMention P) c.mentions

-- a mention spans from its first number to what stands behind that
in_numbered : (text : List ℕ) (P : Span → Type 0) (at : ℕ) (d : Digits) (x : BehindNumber) → HoldsFrom text at P → From text at d.span → InBehind P x → InBehind (From text d.span.stop) x
    → InCertParts P (numbered d x)
in_numbered text P at d (b.Mentions ms) holds p q behind = (holds d.span p, q)
in_numbered text P at d (b.Mention i ms) holds p q behind =
    let here = p.1.0.0 in
    let next = behind.0.0 in
    let more = behind.0.1.0.0 in
    (tt, ((holds d.span p, q.0, holds (span_to d.span i.span) (p.0, ((omega (arith, here, next, more), behind.0.1.0.1), p.1.1, p.1.2))), q.1))

numbered_placed : Placed (g.seq numbered number behind_number) InCertParts
unfolding number
numbered_placed =
    record {
      placed = λ l P at holds y ts row d.
          let both = subst (Row l.text at) d.5 row in
          let t = d.6 in
          let headed = subst (λ u. Row l.text at (u ++ d.3)) t.1 both in
          let span : t.0.span ≡ d.0.span = sym (ap (λ (x : Digits). x.span) t.4) in
          let behind = subst (λ (s : Span). Row l.text s.stop d.3) span headed.1 in
          subst (InCertParts P) (sym d.4)
          (in_numbered l.text P at d.0 d.1 holds (subst (From l.text at) span headed.0)
          (behind_number_placed.placed l P at holds d.1 d.3 (row_back l.text at d.2 d.3 both) d.7)
          (behind_number_placed.placed l (From l.text d.0.span.stop) d.0.span.stop (λ s p. p) d.1 d.3 behind d.7));
    }

minus_mentions_placed : Placed minus_mentions (EveryOf InMention)
unfolding minus_mentions
minus_mentions_placed =
    placed_either (placed_map (word_placed w.RightBrace) (λ P x p. tt)) (placed_seq minus_mention_placed (placed_before w.RightBrace more_mentions_placed) (λ P m ms p q. (p, q)))

cert_parts_placed : Placed cert_parts InCertParts
unfolding cert_parts
cert_parts_placed = placed_either numbered_placed (placed_map minus_mentions_placed (λ P ms p. (tt, p)))

in_cert : (P : Span → Type 0) (d : Option Digits) (ms : List WrittenMention) (span : Span) → OfDivisor P d → Every (InMention P) ms → P span → InCert P (cert_with d ms span)
in_cert P None ms span p q r = (tt, q, r)
in_cert P (Some d) ms span p q r = (p, q, r)

cert_placed : Placed cert InCert
unfolding cert
cert_placed = placed_spanned (placed_nest cert_parts_placed) begun_nest (λ P ts c p span. in_cert P c.divisor c.mentions _ p.0 p.1 span)

certs_placed : Placed certs (EveryOf InCert)
unfolding certs
certs_placed = placed_listed cert_placed

-- ---- proofs

instances_placed : Placed instances (EveryOf InTerm)
unfolding instances bracketed_terms
instances_placed = placed_either (placed_behind w.With (placed_nest (placed_closed w.RightBracket terms_placed))) (placed_pure (λ P. tt))

certificates_placed : Placed certificates (EveryOf InCert)
unfolding certificates bracketed_certs
certificates_placed = placed_either (placed_behind w.By (placed_nest (placed_closed w.RightBracket certs_placed))) (placed_pure (λ P. tt))

pub proof_placed : Placed proof InProof
unfolding proof
proof_placed = placed_seq instances_placed certificates_placed (λ P is cs p q. (p, q))
