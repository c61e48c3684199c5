-- The bytes of words and separators, one after another.
use Rattle.std.proofs.Common.{◌≡◌, codes, ℕ, zero, suc, List, [], ◌∷◌, ◌++◌, refl, ap, sym, ◌∙◌, append_assoc}
use Rattle.std.specs.List.{repeat}
use Rattle.text_tokens.specs.declared.TokenKind.{TokenKind}
use Rattle.text_tokens.specs.Text.{Piece, separator, token, bytes_of}
use Rattle.surface_spelling.specs.Layout.{mark, space, line, in_parens, in_brackets, pair, closing, in_braces, bytes}

pub bytes-nil : bytes [] ≡ []
unfolding bytes
bytes-nil = refl

pub bytes-token : (k : TokenKind) (word : List ℕ) (ps : List Piece) → bytes (token k word ∷ ps) ≡ word ++ bytes ps
unfolding bytes
bytes-token k word ps = refl

pub bytes-separator : (b : ℕ) (ps : List Piece) → bytes (separator b ∷ ps) ≡ b ∷ bytes ps
unfolding bytes
bytes-separator b ps = refl

pub bytes-append : (ps qs : List Piece) → bytes (ps ++ qs) ≡ bytes ps ++ bytes qs
unfolding bytes
bytes-append [] qs = refl
bytes-append (p ∷ ps) qs = ap (λ v. bytes_of p ++ v) (bytes-append ps qs) ∙ sym (append_assoc (bytes_of p) (bytes ps) (bytes qs))

spaces : (d : ℕ) → bytes (repeat d (space ∷ [])) ≡ repeat d (32 ∷ [])
unfolding bytes
spaces zero = refl
spaces (suc d) = ap (λ v. 32 ∷ v) (spaces d)

pub bytes-line : (d : ℕ) → bytes (line d) ≡ 10 ∷ repeat d (32 ∷ [])
unfolding line bytes
bytes-line d = ap (λ v. 10 ∷ v) (spaces d)

pub bytes-in_parens : (ps : List Piece) → bytes (in_parens ps) ≡ 40 ∷ (bytes ps ++ 41 ∷ [])
unfolding in_parens bytes
bytes-in_parens ps = ap (λ v. 40 ∷ v) (bytes-append ps (mark (codes ")") ∷ []))

pub bytes-in_brackets : (ps : List Piece) → bytes (in_brackets ps) ≡ 91 ∷ (bytes ps ++ 93 ∷ [])
unfolding in_brackets bytes
bytes-in_brackets ps = ap (λ v. 91 ∷ v) (bytes-append ps (mark (codes "]") ∷ []))

pub bytes-pair : (ps qs : List Piece) → bytes (pair ps qs) ≡ 40 ∷ (bytes ps ++ 44 ∷ 32 ∷ (bytes qs ++ 41 ∷ []))
unfolding pair bytes
bytes-pair ps qs =
    bytes-in_parens (ps ++ mark (codes ",") ∷ space ∷ qs)
    ∙ ap (λ v. 40 ∷ (v ++ 41 ∷ [])) (bytes-append ps (mark (codes ",") ∷ space ∷ qs))
    ∙ ap (λ v. 40 ∷ v) (append_assoc (bytes ps) (44 ∷ 32 ∷ bytes qs) (41 ∷ []))

pub bytes-closing : (d : ℕ) → bytes (closing d) ≡ bytes (line d) ++ 125 ∷ []
unfolding closing bytes
bytes-closing d = bytes-append (line d) (mark (codes "}") ∷ [])

pub bytes-in_braces : (d : ℕ) (ps : List Piece) → bytes (in_braces d ps) ≡ 123 ∷ (bytes ps ++ bytes (closing d))
unfolding in_braces bytes
bytes-in_braces d ps = ap (λ v. 123 ∷ v) (bytes-append ps (closing d))

pub ruleset byte_rules = (bytes-nil, bytes-token, bytes-separator, bytes-append, bytes-line, bytes-in_parens, bytes-in_brackets, bytes-pair, bytes-closing, bytes-in_braces)
