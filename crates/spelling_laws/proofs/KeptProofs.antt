-- Certificates and proofs are derived by their canonical words again: a divisor 1 and empty lists are not written.
use Rattle.std.proofs.Common.{◌≡◌, ℕ, ◌==◌, inl, inr, Bool, true, false, if◌then◌else◌, List, [], ◌∷◌, ◌++◌, map, codes, Option, Some, None, refl, sym, ◌∙◌, ap, ap₂, subst, append-nil, append_assoc}
use Rattle.std.proofs.lemmas.Bool.{eqb-true, both_ways}
use Rattle.chan_base.specs.declared.spans.Span.{Span}
use Rattle.chan_syntax.specs.declared.operands.WrittenMention.{WrittenMention}
use Rattle.chan_syntax.specs.declared.operands.WrittenCert.{WrittenCert}
use Rattle.text_tokens.specs.Text.{Piece, Token}
use Rattle.surface_spelling.specs.Layout.{mark, number as number_piece, listed as listed_pieces, in_brackets}
use Rattle.surface_spelling.specs.Operands as s
use Rattle.surface_spelling.specs.Erased as e
use Rattle.surface_spelling.proofs.Places.{listed_same}
use Rattle.surface_grammar.specs.declared.words.Word.TheVariants as w
use Rattle.surface_grammar.specs.declared.parts.Digits.{Digits}
use Rattle.surface_grammar.specs.declared.parts.CertParts.{CertParts}
use Rattle.surface_grammar.specs.declared.parts.BehindNumber.{BehindNumber}
use Rattle.surface_grammar.specs.declared.parts.BehindNumber.TheVariants as b
use Rattle.surface_grammar.specs.Words.{spelling, code, code_of}
use Rattle.surface_grammar.specs.Grammar.{cover, word, ◌▷◌, number}
use Rattle.surface_grammar.specs.Operands.{mention_of, ratio, minus_mention, plain_mention, mention, mentions, more_mentions, mentions_to_brace, behind_number, numbered, minus_mentions, cert_parts, cert_with, cert, certs, bracketed_terms, bracketed_certs, instances, certificates, proof}
use Rattle.spelling_cuts.specs.Words.{words, AreTokens}
use Rattle.spelling_laws.proofs.WordTokens.{word_of, word_is_token, code_is_word}
use Rattle.spelling_laws.proofs.Kept.{words-append, tokens_front, tokens_back, split_first, Again, Levels, Has, Kept, kept_seq, kept_spanned_by, kept_nest, kept_listed, kept_brackets, kept_optional}
use Rattle.spelling_laws.proofs.KeptTerms.{number_token, number_kept, terms_kept}
use Rattle.spelling_laws.proofs.KeptOperands.{mentions_to_brace_kept}

-- ---- what follows the brace

-- the divisor, which is 1 where none is written
abbrev divisor_of : Option Digits → ℕ
divisor_of None = 1
divisor_of (Some d) = d.value

-- a certificate with this divisor
abbrev with_divisor : ℕ → List WrittenMention → CertParts
with_divisor k ms = record { divisor = Some (record { value = k; span = e.nowhere }); mentions = ms }

abbrev parts_of : CertParts → CertParts
parts_of p = with_divisor (divisor_of p.divisor) (map e.mention p.mentions)

abbrev list_words : List WrittenMention → List Token
list_words ms = words (listed_pieces s.mention ms) ++ word_of w.RightBrace ∷ []

abbrev body_words : ℕ → List WrittenMention → List Token
body_words k ms =
    words (if k == 1 then listed_pieces s.mention ms else number_piece k ∷ mark (codes ":") ∷ s.mentions_behind ms) ++ word_of w.RightBrace ∷ []

abbrev parts_words : CertParts → List Token
parts_words p = body_words (divisor_of p.divisor) p.mentions

mention_same : (m : WrittenMention) → s.mention (e.mention m) ≡ s.mention m
unfolding s.mention
mention_same m = refl

-- mentions that differ in places alone have the same words
same_list : (ms ns : List WrittenMention) → map e.mention ms ≡ map e.mention ns → list_words ms ≡ list_words ns
same_list ms ns same =
    ap (λ (ps : List Piece). words ps ++ word_of w.RightBrace ∷ [])
    (sym (listed_same s.mention e.mention mention_same ms) ∙ ap (listed_pieces s.mention) same ∙ listed_same s.mention e.mention mention_same ns)

same_behind : (ms : List WrittenMention) → words (s.mentions_behind ms) ≡ words (listed_pieces s.mention ms)
unfolding s.mentions_behind listed_pieces
same_behind [] = refl
same_behind (m ∷ ms) = refl

module _ (l : Levels) where
  -- the parts of a certificate with these mentions and no divisor
  abbrev AsParts : List WrittenMention → List Token → Type 0
  AsParts ms us = (y : CertParts) × (parts_of y ≡ with_divisor 1 (map e.mention ms)) × Has l cert_parts y us

  minus_first : (m : WrittenMention) (more : List WrittenMention) (u v x : List Token) (t : Unit {0}) → Has l minus_mention m u → Has l more_mentions more v → Has l (word w.RightBrace) t x
      → Has l cert_parts (record { divisor = None; mentions = m ∷ more }) ((u ++ v) ++ x)
  unfolding cert_parts minus_mentions
  minus_first m more u v x t first rest last =
      inr (m ∷ more, tt, (u ++ v) ++ x, [], refl, sym (append-nil ((u ++ v) ++ x)), inr (m, more, u, v ++ x, refl, append_assoc u v x, first, (more, t, v, x, refl, refl, rest, last)), (refl, refl))

  plain_first : (a i : Digits) (more : List WrittenMention) (n k v x : List Token) (t : Unit {0}) → Has l number a n → Has l (word w.Hash ▷ number) i k → Has l more_mentions more v → Has l (word w.RightBrace) t x
      → Has l cert_parts (numbered a (b.Mention i more)) (((n ++ k) ++ v) ++ x)
  unfolding cert_parts behind_number
  plain_first a i more n k v x t factor index rest last =
      inl (a, b.Mention i more, n, k ++ (v ++ x), refl, append_assoc (n ++ k) v x ∙ append_assoc n k (v ++ x), factor, inr (i, more, k, v ++ x, refl, refl, index, (more, t, v, x, refl, refl, rest, last)))

  by_first : (ms : List WrittenMention) (m : WrittenMention) (more : List WrittenMention) (us u v x : List Token) (t : Unit {0}) → ms ≡ m ∷ more → us ≡ (u ++ v) ++ x
      → Has l mention m u → Has l more_mentions more v → Has l (word w.RightBrace) t x → AsParts ms us
  unfolding mention plain_mention ratio
  by_first ms m more us u v x t list split (inl d) rest last = (
    record { divisor = None; mentions = m ∷ more },
    ap (λ (ms : List WrittenMention). with_divisor 1 (map e.mention ms)) (sym list),
    subst (Has l cert_parts (record { divisor = None; mentions = m ∷ more })) (sym split) (minus_first m more u v x t d rest last),
  )
  by_first ms m more us u v x t list split (inr d) rest last =
      let r = d.2 in
      let same = d.1 ∙ ap (λ (p : Digits × Digits). mention_of false p.0 p.1 (cover u)) r.4 in
      let all : ms ≡ mention_of false r.0 r.1 (cover u) ∷ more = list ∙ ap (λ (m : WrittenMention). m ∷ more) same in
      let tokens = split ∙ ap (λ (u : List Token). (u ++ v) ++ x) r.5 in (
        numbered r.0 (b.Mention r.1 more),
        sym (ap (λ (ms : List WrittenMention). with_divisor 1 (map e.mention ms)) all),
        subst (Has l cert_parts (numbered r.0 (b.Mention r.1 more))) (sym tokens) (plain_first r.0 r.1 more r.2 r.3 v x t r.6 r.7 rest last),
      )

  -- mentions and a brace, as the parts of a certificate
  as_parts : (ms : List WrittenMention) (us : List Token) → Has l mentions_to_brace ms us → AsParts ms us
  unfolding mentions_to_brace mentions cert_parts minus_mentions more_mentions
  as_parts ms us (inl d) = (record { divisor = None; mentions = ms }, refl, inr (ms, tt, us, [], refl, sym (append-nil us), inl d, (refl, refl)))
  as_parts ms us (inr d) =
      let f = d.6 in
      by_first ms f.0 f.1 us f.2 f.3 d.3 d.1 (d.4 ∙ f.4) (d.5 ∙ ap (λ (u : List Token). u ++ d.3) f.5) f.6 f.7 d.7

  -- the mentions of a certificate without a divisor, and a brace
  record AsList (y : CertParts) : Type 0 where
    ms : List WrittenMention
    vs : List Token
    proper : AreTokens vs
    same : map e.mention ms ≡ map e.mention y.mentions
    has : Has l mentions_to_brace ms vs

  from_minus : (ms : List WrittenMention) (u : List Token) → Has l minus_mentions ms u → Has l mentions_to_brace ms u
  unfolding minus_mentions mentions_to_brace mentions mention more_mentions
  from_minus ms u (inl d) = inl d
  from_minus ms u (inr d) =
      let f = d.7 in inr (
        d.0 ∷ f.0,
        f.1,
        d.2 ++ f.2,
        f.3,
        d.4 ∙ ap (λ (more : List WrittenMention). d.0 ∷ more) f.4,
        d.5 ∙ ap (λ (v : List Token). d.2 ++ v) f.5 ∙ sym (append_assoc d.2 f.2 f.3),
        (d.0, f.0, d.2, f.2, refl, refl, inl d.6, f.6),
        f.7,
      )

  a_mention : (a i : Digits) (n k : List Token) → Has l number a n → Has l (word w.Hash ▷ number) i k → Has l mention (mention_of false a i (cover (n ++ k))) (n ++ k)
  unfolding mention plain_mention ratio
  a_mention a i n k factor index = inr ((a, i), refl, (a, i, n, k, refl, refl, factor, index))

  from_plain : (a i : Digits) (more : List WrittenMention) (n k v x : List Token) (t : Unit {0}) → Has l number a n → Has l (word w.Hash ▷ number) i k → Has l more_mentions more v → Has l (word w.RightBrace) t x
      → Has l mentions_to_brace (mention_of false a i (cover (n ++ k)) ∷ more) (((n ++ k) ++ v) ++ x)
  unfolding mentions_to_brace mentions more_mentions
  from_plain a i more n k v x t factor index rest last =
      inr (mention_of false a i (cover (n ++ k)) ∷ more, t, (n ++ k) ++ v, x, refl, refl, (mention_of false a i (cover (n ++ k)), more, n ++ k, v, refl, refl, a_mention a i n k factor index, rest), last)

  by_number : (y : CertParts) (a : Digits) (bn : BehindNumber) (u v : List Token) → AreTokens (u ++ v) → y ≡ numbered a bn → Has l number a u → Has l behind_number bn v → AsList y
  unfolding behind_number
  by_number y a bn u v proper is factor (inl d) =
      let f = d.7 in record {
        ms = f.0;
        vs = f.2;
        proper = tokens_front f.2 f.3 (subst AreTokens f.5 (tokens_back d.2 d.3 (subst AreTokens d.5 (tokens_back u v proper))));
        same = sym (ap (λ (y : CertParts). map e.mention y.mentions) (is ∙ ap (numbered a) (d.4 ∙ f.4)));
        has = f.6;
      }
  by_number y a bn u v proper is factor (inr d) =
      let f = d.7 in
      let tokens = ap (λ (w : List Token). u ++ w) (d.5 ∙ ap (λ (w : List Token). d.2 ++ w) f.5) ∙ sym (append_assoc (u ++ d.2) f.2 f.3 ∙ append_assoc u d.2 (f.2 ++ f.3)) in
      record {
        ms = mention_of false a d.0 (cover (u ++ d.2)) ∷ f.0;
        vs = ((u ++ d.2) ++ f.2) ++ f.3;
        proper = subst AreTokens tokens proper;
        same = sym (ap (λ (y : CertParts). map e.mention y.mentions) (is ∙ ap (numbered a) (d.4 ∙ ap (b.Mention d.0) f.4)));
        has = from_plain a d.0 f.0 u d.2 f.2 f.3 f.1 factor d.6 f.6 f.7;
      }

  as_list : (y : CertParts) (ts : List Token) → AreTokens ts → Has l cert_parts y ts → AsList y
  unfolding cert_parts
  as_list y ts proper (inl d) = by_number y d.0 d.1 d.2 d.3 (subst AreTokens d.5 proper) d.4 d.6 d.7
  as_list y ts proper (inr d) =
      record {
        ms = d.0;
        vs = d.2;
        proper = tokens_front d.2 d.3 (subst AreTokens d.5 proper);
        same = sym (ap (λ (y : CertParts). map e.mention y.mentions) d.4);
        has = from_minus d.0 d.2 d.6;
      }

  from_list : (y : CertParts) → divisor_of y.divisor ≡ 1 → AsList y → Again (Has l cert_parts) parts_of y (list_words y.mentions)
  from_list y one list =
      let a = mentions_to_brace_kept.again l list.ms list.vs list.proper list.has in
      let same = same_list list.ms y.mentions list.same in (
        subst AreTokens same a.0,
        λ us s.
            let i = a.1 us (s ∙ sym same) in
            let z = as_parts i.0 us i.2 in
            (z.0, z.1 ∙ ap (with_divisor 1) (i.1 ∙ list.same) ∙ sym (ap (λ (k : ℕ). with_divisor k (map e.mention y.mentions)) one), z.2),
      )

  -- a certificate that begins with its divisor
  divided : (a : Digits) (ms : List WrittenMention) (u v us : List Token) (t : Token) → code t ≡ code_of w.Colon → Has l number a u → Has l mentions_to_brace ms v → us ≡ u ++ t ∷ v
      → Has l cert_parts (numbered a (b.Mentions ms)) us
  unfolding cert_parts behind_number
  divided a ms u v us t colon factor list split =
      inl (a, b.Mentions ms, u, t ∷ v, refl, split, factor, inl (tt, b.Mentions ms, t ∷ [], v, refl, refl, (t, refl, colon, refl, refl), (ms, tt, v, [], refl, sym (append-nil v), list, (refl, refl))))

  with_number : (a : Digits) (ms : List WrittenMention) (u v : List Token) → AreTokens u → AreTokens v → Has l number a u → Has l mentions_to_brace ms v
      → Again (Has l cert_parts) parts_of (numbered a (b.Mentions ms)) (number_token a.value ∷ word_of w.Colon ∷ list_words ms)
  with_number a ms u v proper proper' factor list =
      let p = number_kept.again l a u proper factor in
      let q = mentions_to_brace_kept.again l ms v proper' list in (
        (p.0.0, (word_is_token w.Colon, q.0)),
        λ us s.
            let first = split_first us (number_token a.value) (word_of w.Colon ∷ list_words ms) s in
            let second = split_first first.1 (word_of w.Colon) (list_words ms) first.4 in
            let i = p.1 (first.0 ∷ []) (ap (λ (t : Token). t ∷ []) first.3) in
            let j = q.1 second.1 second.4 in
            let colon = code_is_word w.Colon second.0 (ap (λ (t : Token). t.kind) second.3) (ap (λ (t : Token). t.text) second.3) in (
              numbered i.0 (b.Mentions j.0),
              ap₂ (λ (d : Digits) (ms : List WrittenMention). with_divisor d.value ms) i.1 j.1,
              divided i.0 j.0 (first.0 ∷ []) second.1 us second.0 colon i.2 j.2 (first.2 ∙ ap (λ (ts : List Token). first.0 ∷ ts) second.2),
            ),
      )

  not_one : (y : CertParts) → y.divisor ≡ None → (divisor_of y.divisor == 1) ≡ false → ⊥
  not_one y none other = both_ways (divisor_of y.divisor == 1) other (ap (λ (d : Option Digits). divisor_of d == 1) none)

  by_divisor : (y : CertParts) (a : Digits) (bn : BehindNumber) (u v : List Token) → AreTokens (u ++ v) → y ≡ numbered a bn → (divisor_of y.divisor == 1) ≡ false → Has l number a u → Has l behind_number bn v
      → Again (Has l cert_parts) parts_of y (number_token (divisor_of y.divisor) ∷ word_of w.Colon ∷ list_words y.mentions)
  unfolding behind_number
  by_divisor y a bn u v proper is other factor (inl d) =
      let f = d.7 in
      let same = is ∙ ap (numbered a) (d.4 ∙ f.4) in
      let back = tokens_front f.2 f.3 (subst AreTokens f.5 (tokens_back d.2 d.3 (subst AreTokens d.5 (tokens_back u v proper)))) in
      subst (λ (y : CertParts). Again (Has l cert_parts) parts_of y (number_token (divisor_of y.divisor) ∷ word_of w.Colon ∷ list_words y.mentions)) (sym same)
      (with_number a f.0 u f.2 (tokens_front u v proper) back factor f.6)
  by_divisor y a bn u v proper is other factor (inr d) = absurd (not_one y (ap (λ (y : CertParts). y.divisor) (is ∙ ap (numbered a) d.4)) other)

  other_words : (k : ℕ) (ms : List WrittenMention) → number_token k ∷ word_of w.Colon ∷ list_words ms ≡ words (number_piece k ∷ mark (codes ":") ∷ s.mentions_behind ms) ++ word_of w.RightBrace ∷ []
  unfolding spelling
  other_words k ms = ap (λ (ts : List Token). number_token k ∷ word_of w.Colon ∷ ts ++ word_of w.RightBrace ∷ []) (sym (same_behind ms))

  by_test : (y : CertParts) (ts : List Token) → AreTokens ts → Has l cert_parts y ts → (one : Bool) → (divisor_of y.divisor == 1) ≡ one
      → Again (Has l cert_parts) parts_of y (words (if one then listed_pieces s.mention y.mentions else number_piece (divisor_of y.divisor) ∷ mark (codes ":") ∷ s.mentions_behind y.mentions) ++ word_of w.RightBrace ∷ [])
  unfolding cert_parts
  by_test y ts proper d true is = from_list y (eqb-true (divisor_of y.divisor) 1 is) (as_list y ts proper d)
  by_test y ts proper (inl d) false is =
      subst (Again (Has l cert_parts) parts_of y) (other_words (divisor_of y.divisor) y.mentions) (by_divisor y d.0 d.1 d.2 d.3 (subst AreTokens d.5 proper) d.4 is d.6 d.7)
  by_test y ts proper (inr d) false is = absurd (not_one y (ap (λ (y : CertParts). y.divisor) d.4) is)

cert_parts_kept : Kept cert_parts parts_of parts_words
cert_parts_kept = record { again = λ l y ts proper d. by_test l y ts proper d (divisor_of y.divisor == 1) refl }

-- ---- certificates

-- a certificate of its parts
abbrev cert_of : CertParts → WrittenCert
cert_of p = record { divisor = divisor_of p.divisor; divisor_span = None; mentions = p.mentions; span = e.nowhere }

cert_words : (c : WrittenCert) → words (s.cert c) ≡ word_of w.LeftBrace ∷ body_words c.divisor c.mentions
unfolding s.cert spelling
cert_words c =
    ap (λ (ts : List Token). word_of w.LeftBrace ∷ ts)
    (words-append (if c.divisor == 1 then listed_pieces s.mention c.mentions else number_piece c.divisor ∷ mark (codes ":") ∷ s.mentions_behind c.mentions) (mark (codes "}") ∷ []))

cert_kept : Kept cert e.cert (λ c. words (s.cert c))
unfolding cert cover
cert_kept = kept_spanned_by cert_of (kept_nest w.LeftBrace {spell = λ p. word_of w.LeftBrace ∷ parts_words p} cert_parts_kept (λ p. refl)) (λ ts p. same p.divisor p.mentions (cover ts)) (λ ts p. is p.divisor p.mentions (cover ts))
  where
    same : (d : Option Digits) (ms : List WrittenMention) (at : Span) → e.cert (cert_with d ms at) ≡ cert_of (with_divisor (divisor_of d) (map e.mention ms))
    same None ms at = refl
    same (Some d) ms at = refl

    is : (d : Option Digits) (ms : List WrittenMention) (at : Span) → words (s.cert (cert_with d ms at)) ≡ word_of w.LeftBrace ∷ body_words (divisor_of d) ms
    is None ms at = cert_words (cert_with None ms at)
    is (Some d) ms at = cert_words (cert_with (Some d) ms at)

certs_kept : Kept certs (map e.cert) (λ cs. words (listed_pieces s.cert cs))
unfolding certs
certs_kept = kept_listed s.cert cert_kept

-- ---- proofs

bracketed_terms_kept : Kept bracketed_terms (map e.term) (λ ts. words (in_brackets (listed_pieces s.term ts)))
unfolding bracketed_terms
bracketed_terms_kept = kept_brackets s.term terms_kept

bracketed_certs_kept : Kept bracketed_certs (map e.cert) (λ cs. words (in_brackets (listed_pieces s.cert cs)))
unfolding bracketed_certs
bracketed_certs_kept = kept_brackets s.cert certs_kept

instances_kept : Kept instances (map e.term) (λ ts. words (s.instances ts))
unfolding instances s.instances spelling
instances_kept = kept_optional w.With bracketed_terms_kept refl (λ t ts. refl)

certificates_kept : Kept certificates (map e.cert) (λ cs. words (s.certificates cs))
unfolding certificates s.certificates spelling
certificates_kept = kept_optional w.By bracketed_certs_kept refl (λ c cs. refl)

pub proof_kept : Kept proof e.proof (λ q. words (s.proof q))
unfolding proof s.proof
proof_kept = kept_seq instances_kept certificates_kept (λ is cs. refl) (λ is cs. words-append (s.instances is) (s.certificates cs))
