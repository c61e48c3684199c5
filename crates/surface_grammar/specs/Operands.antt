-- Values, patterns, paths and proofs.
use Rattle.std.specs.Prelude.{Bool, true, false, List, [], ◌∷◌, Option, Some, None}
use Rattle.chan_base.specs.declared.spans.Span.{Span}
use Rattle.chan_syntax.specs.declared.linear.Term.{Term}
use Rattle.chan_syntax.specs.declared.operands.Supply.{Supply}
use Rattle.chan_syntax.specs.declared.operands.Supply.TheVariants as v
use Rattle.chan_syntax.specs.declared.operands.Pat.{Pat}
use Rattle.chan_syntax.specs.declared.operands.WrittenMention.{WrittenMention}
use Rattle.chan_syntax.specs.declared.operands.WrittenCert.{WrittenCert}
use Rattle.chan_syntax.specs.declared.operands.Proof.{Proof}
use Rattle.grammar_laws.specs.Grammar as g
use Rattle.surface_grammar.specs.declared.words.Word.TheVariants as w
use Rattle.surface_grammar.specs.declared.parts.Named.{Named}
use Rattle.surface_grammar.specs.declared.parts.Names.{Names}
use Rattle.surface_grammar.specs.declared.parts.Digits.{Digits}
use Rattle.surface_grammar.specs.declared.parts.Route.{Route}
use Rattle.surface_grammar.specs.declared.parts.CertParts.{CertParts}
use Rattle.surface_grammar.specs.declared.parts.BehindNumber.{BehindNumber}
use Rattle.surface_grammar.specs.declared.parts.BehindNumber.TheVariants as b
use Rattle.surface_grammar.specs.Words.{number_code}
use Rattle.surface_grammar.specs.Grammar.{G, AValue, cover, word, ◌▷◌, ◌◁◌, ◌⇒◌, yes, repeated, listed, closed, opened, name, number, arm_number, names, letters}
use Rattle.surface_grammar.specs.Terms.{term, terms}

-- ---- value = "(" ")" | "(" value "," value ")" | tag value | term
-- ---- tag = "inl" | "inr" | "#" NUMBER
-- The two that begin with "(" are read as one up to there.

-- value "," value ")"
unfoldable pub pair : G Supply
pair = g.seq v.Pair (g.call AValue (λ x. x)) (word w.Comma ▷ (g.call AValue (λ x. x) ◁ word w.RightParen))

-- ")" | value "," value ")"
unfoldable pub parenthesized : G Supply
parenthesized = g.either (yes (w.RightParen ∷ [])) (word w.RightParen ⇒ (λ _. v.Unit)) pair

-- NUMBER value, behind "#"
unfoldable pub numbered_value : G Supply
numbered_value = g.seq v.Arm arm_number (g.call AValue (λ x. x))

unfoldable pub value : G Supply
value =
    g.either (yes (w.LeftParen ∷ [])) (opened w.LeftParen parenthesized)
    (g.either (yes (w.Inl ∷ [])) (opened w.Inl (g.call AValue (v.Arm 0)))
    (g.either (yes (w.Inr ∷ [])) (opened w.Inr (g.call AValue (v.Arm 1)))
    (g.either (yes (w.Hash ∷ [])) (opened w.Hash numbered_value) (term ⇒ v.Sum))))

-- values = value { "," value }
unfoldable pub values : G (List Supply)
values = listed value

-- "(" [values] ")"
unfoldable pub given_values : G (List Supply)
given_values = opened w.LeftParen (closed w.RightParen values)

-- ---- pat = NAME [ "[" names "]" ]

-- "[" names "]"
unfoldable pub bracketed : G Names
bracketed = opened w.LeftBracket (names ◁ word w.RightBracket)

-- no name
abbrev pub no_names : Names
no_names = record { names = []; spans = [] }

-- [ "[" names "]" ]
unfoldable pub names_if_any : G Names
names_if_any = g.either (yes (w.LeftBracket ∷ [])) bracketed (g.pure no_names)

-- the pattern of a name and names
abbrev pub pat_of : Named → Names → Pat
pat_of n ns = record { name = n.name; name_span = n.span; names = ns.names; names_spans = ns.spans }

unfoldable pub pat : G Pat
pat = g.seq pat_of name names_if_any

-- ---- path = "via" NAME

-- no path
abbrev pub no_route : Route
no_route = record { path = []; span = None }

-- [ path ]
unfoldable pub route : G Route
route = g.either (yes (w.Via ∷ [])) (word w.Via ▷ letters) (g.pure no_route)

-- ---- cert = "{" [ NUMBER ":" ] [ mention { "," mention } ] "}"
-- ---- mention = ["-"] NUMBER "#" NUMBER
-- A NUMBER behind "{" is the divisor where ":" follows, and else begins the first mention.

-- a mention of these numbers
abbrev pub mention_of : Bool → Digits → Digits → Span → WrittenMention
mention_of negative factor index span =
    record { negative = negative; factor = factor.value; factor_span = factor.span; index = index.value; index_span = index.span; span = span }

-- from the first place to the end of the second
abbrev pub span_to : Span → Span → Span
span_to a b = record { start = a.start; stop = b.stop; line = a.line; column = a.column }

-- NUMBER "#" NUMBER
unfoldable pub ratio : G (Digits × Digits)
ratio = g.seq (λ a b. (a, b)) number (word w.Hash ▷ number)

-- "-" NUMBER "#" NUMBER
unfoldable pub minus_mention : G WrittenMention
minus_mention = g.spanned (λ ts (p : Digits × Digits). mention_of true p.0 p.1 (cover ts)) (word w.Minus ▷ ratio)

-- NUMBER "#" NUMBER
unfoldable pub plain_mention : G WrittenMention
plain_mention = g.spanned (λ ts (p : Digits × Digits). mention_of false p.0 p.1 (cover ts)) ratio

unfoldable pub mention : G WrittenMention
mention = g.either (yes (w.Minus ∷ [])) minus_mention plain_mention

-- mention { "," mention }
unfoldable pub mentions : G (List WrittenMention)
mentions = listed mention

-- { "," mention }
unfoldable pub more_mentions : G (List WrittenMention)
more_mentions = repeated (w.Comma ∷ []) (word w.Comma ▷ mention)

-- [ mention { "," mention } ] "}"
unfoldable pub mentions_to_brace : G (List WrittenMention)
mentions_to_brace = closed w.RightBrace mentions

-- what follows a NUMBER behind "{": ":" and mentions, or the rest of the first mention and more
unfoldable pub behind_number : G BehindNumber
behind_number =
    g.either (yes (w.Colon ∷ [])) (word w.Colon ▷ (mentions_to_brace ⇒ b.Mentions))
    (g.seq b.Mention (word w.Hash ▷ number) (more_mentions ◁ word w.RightBrace))

-- the certificate that begins with this number
abbrev pub numbered : Digits → BehindNumber → CertParts
numbered d (b.Mentions ms) = record { divisor = Some d; mentions = ms }
numbered d (b.Mention i ms) = record { divisor = None; mentions = mention_of false d i (span_to d.span i.span) ∷ ms }

-- "}", or mentions of which the first has a "-", and "}"
unfoldable pub minus_mentions : G (List WrittenMention)
minus_mentions =
    g.either (yes (w.RightBrace ∷ [])) (word w.RightBrace ⇒ (λ _. []))
    (g.seq (λ m ms. m ∷ ms) minus_mention (more_mentions ◁ word w.RightBrace))

-- what follows "{"
unfoldable pub cert_parts : G CertParts
cert_parts =
    g.either (number_code ∷ []) (g.seq numbered number behind_number) (minus_mentions ⇒ (λ ms. record { divisor = None; mentions = ms }))

-- a certificate with this divisor, which is 1 where none is written
abbrev pub cert_with : Option Digits → List WrittenMention → Span → WrittenCert
cert_with None ms span = record { divisor = 1; divisor_span = None; mentions = ms; span = span }
cert_with (Some d) ms span = record { divisor = d.value; divisor_span = Some d.span; mentions = ms; span = span }

unfoldable pub cert : G WrittenCert
cert = g.spanned (λ ts (c : CertParts). cert_with c.divisor c.mentions (cover ts)) (opened w.LeftBrace cert_parts)

-- cert { "," cert }
unfoldable pub certs : G (List WrittenCert)
certs = listed cert

-- ---- proof = [ "with" "[" [terms] "]" ] [ "by" "[" [ cert { "," cert } ] "]" ]

-- "[" [terms] "]"
unfoldable pub bracketed_terms : G (List Term)
bracketed_terms = opened w.LeftBracket (closed w.RightBracket terms)

-- "[" [ cert { "," cert } ] "]"
unfoldable pub bracketed_certs : G (List WrittenCert)
bracketed_certs = opened w.LeftBracket (closed w.RightBracket certs)

-- [ "with" "[" [terms] "]" ]
unfoldable pub instances : G (List Term)
instances = g.either (yes (w.With ∷ [])) (word w.With ▷ bracketed_terms) (g.pure [])

-- [ "by" "[" [ cert { "," cert } ] "]" ]
unfoldable pub certificates : G (List WrittenCert)
certificates = g.either (yes (w.By ∷ [])) (word w.By ▷ bracketed_certs) (g.pure [])

unfoldable pub proof : G Proof
proof = g.seq (λ is cs. record { instances = is; certs = cs }) instances certificates
