-- Each token of a text stands at its span, and the spans are in order.
use Rattle.std.proofs.Common.{◌≡◌, ℕ, ◌+◌, ◌<◌, ◌≤◌, List, [], ◌∷◌, ◌++◌, length, length-append, append-nil, append_assoc, refl, sym, ◌∙◌, ap, subst, arith}
use Rattle.std.specs.List.{All}
use Rattle.std.proofs.lemmas.List.Elements.{All-cons, All-nil}
use Rattle.std.proofs.Math.Nat.{add-sub_cancel_left}
use Rattle.std.proofs.Math.Seq.{drop-append_seam, take-append_seam}
use Rattle.chan_base.specs.declared.spans.Span.{Span}
use Rattle.text_tokens.specs.declared.TokenKind.{TokenKind}
use Rattle.text_tokens.specs.declared.TokenKind.TheVariants.{Number}
use Rattle.text_tokens.specs.Word.{HasForm, IsLongest}
use Rattle.text_tokens.specs.Text.{Piece, separator, comment, token, bytes_of, text_of, IsCutBefore, span_behind, Token, tokens_behind, HasTokens, text_at, StandsIn, AreInOrder, Fault, bad_byte, bad_token, number_too_large, StandsBetween, IsFirstFault, span_of, IsWithin}
use Rattle.text_tokens.proofs.Forms.{no_form-nil}

-- the pieces behind this front are all that is left of the text
further : (text front : List ℕ) (p : Piece) (ps : List Piece) → text ≡ front ++ (bytes_of p ++ text_of ps) → text ≡ (front ++ bytes_of p) ++ text_of ps
further text front p ps e = e ∙ sym (append_assoc front (bytes_of p) (text_of ps))

each_behind : (text front : List ℕ) (ps : List Piece) → text ≡ front ++ text_of ps → IsCutBefore ps [] → All (StandsIn text) (tokens_behind front ps)
each_behind text front [] e cut = All-nil (StandsIn text)
each_behind text front (separator b ∷ ps) e cut =
    each_behind text (front ++ b ∷ []) ps (further text front (separator b) ps e) cut.1
each_behind text front (comment bytes ∷ ps) e cut =
    each_behind text (front ++ 47 ∷ 47 ∷ bytes) ps (further text front (comment bytes) ps e) cut.1
each_behind text front (token kind word ∷ ps) e cut =
    let rest = further text front (token kind word) ps e in
    let longest = subst (IsLongest word) (append-nil (text_of ps)) cut.0.1 in
    All-cons (StandsIn text) (record { kind = kind; text = word; span = span_behind front word }) (tokens_behind (front ++ word) ps)
    (front, text_of ps, rest, cut.0.0, longest, refl)
    (each_behind text (front ++ word) ps rest cut.1)

pub each_stands : (text : List ℕ) (ts : List Token) → HasTokens text ts → All (StandsIn text) ts
each_stands text ts has = subst (All (StandsIn text)) (sym has.3) (each_behind text [] has.0 has.1 has.2)

longer : (k : TokenKind) (w : List ℕ) → HasForm k w → 0 < length w
longer k [] form = absurd (no_form-nil k form)
longer k (b ∷ w) form = omega arith

order_behind : (at : ℕ) (front : List ℕ) (ps : List Piece) → at ≤ length front → IsCutBefore ps [] → AreInOrder at (tokens_behind front ps)
order_behind at front [] below cut = tt
order_behind at front (separator b ∷ ps) below cut =
    order_behind at (front ++ b ∷ []) ps (omega (arith, length-append front (b ∷ []))) cut.1
order_behind at front (comment bytes ∷ ps) below cut =
    order_behind at (front ++ 47 ∷ 47 ∷ bytes) ps (omega (arith, length-append front (47 ∷ 47 ∷ bytes))) cut.1
order_behind at front (token kind word ∷ ps) below cut = (
  below,
  omega (arith, longer kind word cut.0.0.0),
  order_behind (length front + length word) (front ++ word) ps (omega (arith, length-append front word)) cut.1,
)

pub in_order : (text : List ℕ) (ts : List Token) → HasTokens text ts → AreInOrder 0 ts
in_order text ts has = subst (AreInOrder 0) (sym has.3) (order_behind 0 [] has.0 (omega arith) has.2)

pub text_behind : (front word back : List ℕ) → text_at (front ++ word ++ back) (span_behind front word) ≡ word
text_behind front word back =
    rw (append_assoc front word back, drop-append_seam front (word ++ back), add-sub_cancel_left (length front) (length word)) (take-append_seam word back)

-- a token's bytes are those of the text at its span
pub text_of_token : (text : List ℕ) (t : Token) → StandsIn text t → text_at text t.span ≡ t.text
text_of_token text t stands = rw (stands.5, stands.2) (text_behind stands.0 t.text stands.1)

pub span_within : (text : List ℕ) (t : Token) → StandsIn text t → t.span.stop ≤ length text
span_within text t stands =
    let stop = ap (λ (s : Span). s.stop) stands.5 in
    let whole = ap length stands.2 in
    omega (arith, stop, whole, length-append (stands.0 ++ t.text) stands.1, length-append stands.0 t.text)

behind_within : (front word back : List ℕ) (s : Span) → s ≡ span_behind front word → 0 < length word → IsWithin (front ++ (word ++ back)) s
behind_within front word back s e some =
    let start = ap (λ (s : Span). s.start) e in
    let stop = ap (λ (s : Span). s.stop) e in
    (omega arith, omega (arith, length-append front (word ++ back), length-append word back))

fault_between : (front rest : List ℕ) (f : Fault) → StandsBetween front rest f → IsWithin (front ++ rest) (span_of f)
fault_between front rest (bad_byte span) stands =
    rw stands.2 (behind_within front (stands.0 ∷ []) stands.1 span stands.5 (omega arith))
fault_between front rest (bad_token span) stands =
    rw stands.2 (behind_within front (stands.0 ∷ []) stands.1 span stands.6 (omega arith))
fault_between front rest (number_too_large span) stands =
    rw stands.3 (behind_within front stands.1 stands.2 span stands.7 (longer (Number stands.0) stands.1 stands.4))

pub fault_within : (text : List ℕ) (f : Fault) → IsFirstFault text f → IsWithin text (span_of f)
fault_within text f first = rw first.2 (fault_between (text_of first.0) first.1 f first.4)
