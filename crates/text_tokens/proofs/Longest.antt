-- The longest word with a form is one, and what follows it shows that it is the longest.
use Rattle.std.proofs.Common.{◌≡◌, ℕ, ◌⊎◌, inl, inr, Bool, true, false, List, [], ◌∷◌, ◌++◌, append-nil, refl, sym, ◌∙◌, ap, subst, arith}
use Rattle.std.proofs.lemmas.Bool.{and_parts, both_ways}
use Rattle.std.proofs.lemmas.Grind.{common_steps}
use Rattle.std.proofs.lemmas.List.Folds.{list_all-append}
use Rattle.std.specs.Char.{is_ascii_digit}
use Rattle.std.specs.List.{list_all}
use Rattle.text_tokens.specs.declared.TokenKind.{TokenKind}
use Rattle.text_tokens.specs.Word.{begins_name, continues_name, is_spelled_as_name, is_digits, is_mark, HasForm, IsLongest}
use Rattle.text_tokens.proofs.Forms.{spelled_kind, digits_kind, mark_kind, mark-short}

-- no byte of the class follows
abbrev pub Stops : (ℕ → Bool) → List ℕ → Type 0
Stops p [] = Unit {0}
Stops p (b ∷ rest) = p b ≡ false

all_further : (p : ℕ → Bool) (front : List ℕ) (b : ℕ) (more : List ℕ) → list_all p (front ++ b ∷ more) ≡ true → p b ≡ true
all_further p front b more all =
    let parts = and_parts (list_all p front) (list_all p (b ∷ more)) (sym (list_all-append p front (b ∷ more)) ∙ all) in
    (and_parts (p b) (list_all p more) parts.1).0

stops_at : (p : ℕ → Bool) (rest : List ℕ) (b : ℕ) (more : List ℕ) → rest ≡ b ∷ more → Stops p rest → p b ≡ false
stops_at p [] b more e stops = cc
stops_at p (c ∷ rest) b more e stops = let same : c ≡ b = cc in ap p (sym same) ∙ stops

pub longest_name : (w rest : List ℕ) → is_spelled_as_name w ≡ true → Stops continues_name rest → IsLongest w rest
longest_name [] rest spelled stops kind b more back e form = cc
longest_name (c ∷ cs) rest spelled stops kind b more back e form =
    let begins = (and_parts (begins_name c) (list_all continues_name cs) spelled).0 in
    let all = (and_parts (begins_name c) (list_all continues_name (cs ++ b ∷ more)) (spelled_kind kind c (cs ++ b ∷ more) begins form)).1 in
    both_ways (continues_name b) (stops_at continues_name rest b (more ++ back) e stops) (all_further continues_name cs b more all)

pub longest_digits : (w rest : List ℕ) → is_digits w ≡ true → Stops is_ascii_digit rest → IsLongest w rest
longest_digits [] rest digits stops kind b more back e form = cc
longest_digits (c ∷ cs) rest digits stops kind b more back e form =
    let begins = (and_parts (is_ascii_digit c) (list_all is_ascii_digit cs) digits).0 in
    let all = (and_parts (is_ascii_digit c) (list_all is_ascii_digit (cs ++ b ∷ more)) (digits_kind kind c (cs ++ b ∷ more) begins form)).1 in
    both_ways (is_ascii_digit b) (stops_at is_ascii_digit rest b (more ++ back) e stops) (all_further is_ascii_digit cs b more all)

not_three : (b c d : ℕ) (more : List ℕ) → is_mark (b ∷ c ∷ d ∷ more) ≡ true → ⊥
not_three b c d more e = let short = mark-short (b ∷ c ∷ d ∷ more) e in grind (arith, common_steps)

pub longest_pair : (b c : ℕ) (rest : List ℕ) → begins_name b ≡ false → is_ascii_digit b ≡ false → IsLongest (b ∷ c ∷ []) rest
longest_pair b c rest no_name no_digit kind d more back e form =
    not_three b c d more (mark_kind kind b (c ∷ d ∷ more) no_name no_digit form)

-- no mark of two bytes begins with b and goes on with the rest
abbrev pub NoPair : ℕ → List ℕ → Type 0
NoPair b [] = Unit {0}
NoPair b (c ∷ rest) = is_mark (b ∷ c ∷ []) ≡ false

no_pair_at : (b : ℕ) (rest : List ℕ) (c : ℕ) (more : List ℕ) → rest ≡ c ∷ more → NoPair b rest → is_mark (b ∷ c ∷ []) ≡ false
no_pair_at b [] c more e none = cc
no_pair_at b (d ∷ rest) c more e none = let same : d ≡ c = cc in ap (λ x. is_mark (b ∷ x ∷ [])) (sym same) ∙ none

not_pair : (b c : ℕ) (more : List ℕ) → is_mark (b ∷ c ∷ []) ≡ false → is_mark (b ∷ c ∷ more) ≡ true → ⊥
not_pair b c [] none e = both_ways (is_mark (b ∷ c ∷ [])) none e
not_pair b c (d ∷ more) none e = not_three b c d more e

pub longest_single : (b : ℕ) (rest : List ℕ) → begins_name b ≡ false → is_ascii_digit b ≡ false → NoPair b rest → IsLongest (b ∷ []) rest
longest_single b rest no_name no_digit none kind c more back e form =
    not_pair b c more (no_pair_at b rest c (more ++ back) e none) (mark_kind kind b (c ∷ more) no_name no_digit form)

-- ---- uniqueness

-- one of two fronts of a list is a front of the other
fronts : (w v r s : List ℕ) → w ++ r ≡ v ++ s → ((more : List ℕ) × (v ≡ w ++ more) × (r ≡ more ++ s)) ⊎ ((more : List ℕ) × (w ≡ v ++ more) × (s ≡ more ++ r))
fronts [] v r s e = inl (v, refl, e)
fronts (b ∷ w) [] r s e = inr (b ∷ w, refl, sym e)
fronts (b ∷ w) (c ∷ v) r s e =
    let head : b ≡ c = cc in
    let rest : w ++ r ≡ v ++ s = cc in
    elim (fronts w v r s rest) [
      | inl f ↦ inl (f.0, (let longer = f.1 in cc), f.2)
      | inr f ↦ inr (f.0, (let longer = f.1 in cc), f.2)
    ]

not_longer : (k : TokenKind) (w v r s more : List ℕ) → IsLongest w r → HasForm k v → v ≡ w ++ more → r ≡ more ++ s → (w ≡ v) × (r ≡ s)
not_longer k w v r s [] longest form e f = (sym (e ∙ append-nil w), f)
not_longer k w v r s (b ∷ more) longest form e f =
    absurd (longest k b more s f (subst (HasForm k) e form))

pub one_word : (j k : TokenKind) (w v r s : List ℕ) → HasForm j w → IsLongest w r → HasForm k v → IsLongest v s → w ++ r ≡ v ++ s → (w ≡ v) × (r ≡ s)
one_word j k w v r s form longest form' longest' e =
    elim (fronts w v r s e) [
      | inl f ↦ not_longer k w v r s f.0 longest form' f.1 f.2
      | inr f ↦ (let same = not_longer j v w s r f.0 longest' form f.1 f.2 in (sym same.0, sym same.1))
    ]
