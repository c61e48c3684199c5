-- Words are told apart by their codes just as by their spelling.
use Rattle.std.proofs.Common.{◌≡◌, ℕ, Bool, true, false, not, ◌&&◌, cond, ◌==◌, List, [], ◌∷◌, refl, sym, ◌∙◌, ap}
use Rattle.std.specs.Str.{bytes_eq}
use Rattle.std.proofs.lemmas.Slice.Eq.{bytes_eq-Decides}
use Rattle.std.proofs.lemmas.Bool.{eq-eqb, eqb-true, false_from_ne_true}
use Rattle.grammar_laws.proofs.Steps.{both}
use Rattle.surface_grammar.specs.declared.words.Word.{Word}
use Rattle.surface_grammar.specs.declared.words.Word.TheVariants as w
use Rattle.surface_grammar.specs.Words.{spelling, code_of, code_in, has_code, words, name_code, number_code}

abbrev same : Bool → Bool → Bool
same true b = b
same false b = not b

same_is : (a b : Bool) → same a b ≡ true → a ≡ b
same_is true b e = sym e
same_is false true e = cc
same_is false false e = refl

-- the word and each of these have one code just where they have one spelling
abbrev agrees : Word → List Word → Bool
agrees v [] = true
agrees v (u ∷ us) = same (code_of u == code_of v) (bytes_eq (spelling u) (spelling v)) && agrees v us

eq_sym : (xs ys : List ℕ) → bytes_eq xs ys ≡ true → xs ≡ ys
eq_sym xs ys e = (bytes_eq-Decides xs ys).0 e

and_false : (b : Bool) → false ≡ b && false
and_false true = refl
and_false false = refl

module _ (v : Word) (text : List ℕ) where
  -- the text is that of the first of the words
  at_first : (u : Word) (h : Bool) → text ≡ spelling u → (code_of u == code_of v) ≡ bytes_eq (spelling u) (spelling v)
      → (code_of u == code_of v) ≡ bytes_eq text (spelling v) && cond (code_of u == code_of v) true h
  at_first u h e a = by_test (code_of u == code_of v) a
    where
      by_test : (b : Bool) → b ≡ bytes_eq (spelling u) (spelling v) → b ≡ bytes_eq text (spelling v) && cond b true h
      by_test true a = a ∙ ap (λ t. bytes_eq t (spelling v)) (sym e) ∙ sym (and_true (bytes_eq text (spelling v)))
        where
          and_true : (b : Bool) → b && true ≡ b
          and_true true = refl
          and_true false = refl
      by_test false a = ap (λ b. b && h) (a ∙ ap (λ t. bytes_eq t (spelling v)) (sym e))

  -- it is not
  behind_first : (u : Word) (h : Bool) → bytes_eq (spelling u) text ≡ false → (code_of u == code_of v) ≡ bytes_eq (spelling u) (spelling v)
      → bytes_eq text (spelling v) && h ≡ bytes_eq text (spelling v) && cond (code_of u == code_of v) true h
  behind_first u h e a = by_test (code_of u == code_of v) a
    where
      differs : true ≡ bytes_eq (spelling u) (spelling v) → bytes_eq text (spelling v) ≡ true → ⊥
      differs a f =
          let x : spelling u ≡ text = (bytes_eq-Decides (spelling u) (spelling v)).0 (sym a) ∙ sym ((bytes_eq-Decides text (spelling v)).0 f) in
          no_both (bytes_eq (spelling u) text) ((bytes_eq-Decides (spelling u) text).1 x) e
        where
          no_both : (b : Bool) → b ≡ true → b ≡ false → ⊥
          no_both b e f = cc

      by_test : (b : Bool) → b ≡ bytes_eq (spelling u) (spelling v) → bytes_eq text (spelling v) && h ≡ bytes_eq text (spelling v) && cond b true h
      by_test true a = let n = false_from_ne_true (bytes_eq text (spelling v)) (differs a) in ap (λ b. b && h) n ∙ sym (ap (λ b. b && true) n)
      by_test false a = refl

  found : (us : List Word) → agrees v us ≡ true → (60 == code_of v) ≡ false → (code_in us text == code_of v) ≡ bytes_eq text (spelling v) && has_code (code_of v) us
  found [] a n = n ∙ and_false (bytes_eq text (spelling v))
  found (u ∷ us) a n = by_test (found us k.1 n) (bytes_eq (spelling u) text) refl
    where
      k : (same (code_of u == code_of v) (bytes_eq (spelling u) (spelling v)) ≡ true) × (agrees v us ≡ true)
      k = both (same (code_of u == code_of v) (bytes_eq (spelling u) (spelling v))) (agrees v us) a

      by_test : (code_in us text == code_of v) ≡ bytes_eq text (spelling v) && has_code (code_of v) us → (b : Bool) → bytes_eq (spelling u) text ≡ b → (cond b (code_of u) (code_in us text) == code_of v) ≡ bytes_eq text (spelling v) && cond (code_of u == code_of v) true (has_code (code_of v) us)
      by_test ih true e = at_first u (has_code (code_of v) us) (sym ((bytes_eq-Decides (spelling u) text).0 e)) (same_is (code_of u == code_of v) (bytes_eq (spelling u) (spelling v)) k.0)
      by_test ih false e = ih ∙ behind_first u (has_code (code_of v) us) e (same_is (code_of u == code_of v) (bytes_eq (spelling u) (spelling v)) k.0)

abbrev known : Word → Bool
known v = agrees v words && (has_code (code_of v) words && (not (60 == code_of v) && (not (0 == code_of v) && not (1 == code_of v))))

all_known : (v : Word) → known v ≡ true
unfolding spelling
all_known w.Proto = refl
all_known w.Fn = refl
all_known w.Let = refl
all_known w.Fork = refl
all_known w.Do = refl
all_known w.Send1 = refl
all_known w.Recv1 = refl
all_known w.Send = refl
all_known w.Recv = refl
all_known w.Close = refl
all_known w.Wait = refl
all_known w.Left = refl
all_known w.Right = refl
all_known w.Branch = refl
all_known w.Print = refl
all_known w.If = refl
all_known w.Else = refl
all_known w.Match = refl
all_known w.Absurd = refl
all_known w.Ret = refl
all_known w.Loop = refl
all_known w.Again = refl
all_known w.With = refl
all_known w.By = refl
all_known w.Via = refl
all_known w.Then = refl
all_known w.Choice = refl
all_known w.Offer = refl
all_known w.Of = refl
all_known w.As = refl
all_known w.Int = refl
all_known w.Unit = refl
all_known w.End = refl
all_known w.Sum = refl
all_known w.Inl = refl
all_known w.Inr = refl
all_known w.Mul = refl
all_known w.Div = refl
all_known w.Rem = refl
all_known w.LeftParen = refl
all_known w.RightParen = refl
all_known w.LeftBracket = refl
all_known w.RightBracket = refl
all_known w.LeftBrace = refl
all_known w.RightBrace = refl
all_known w.Comma = refl
all_known w.Semicolon = refl
all_known w.Colon = refl
all_known w.Equals = refl
all_known w.Tilde = refl
all_known w.Hash = refl
all_known w.Bar = refl
all_known w.Plus = refl
all_known w.Minus = refl
all_known w.Star = refl
all_known w.Less = refl
all_known w.AtMost = refl
all_known w.Arrow = refl

not_true : (b : Bool) → not b ≡ true → b ≡ false
not_true true e = cc
not_true false e = refl

-- no word has a code but those of the table
differs : (v : Word) → (has_code (code_of v) words ≡ true) × ((60 == code_of v) ≡ false) × ((0 == code_of v) ≡ false) × ((1 == code_of v) ≡ false)
differs v =
    let a = both (agrees v words) (has_code (code_of v) words && (not (60 == code_of v) && (not (0 == code_of v) && not (1 == code_of v)))) (all_known v) in
    let b = both (has_code (code_of v) words) (not (60 == code_of v) && (not (0 == code_of v) && not (1 == code_of v))) a.1 in
    let c = both (not (60 == code_of v)) (not (0 == code_of v) && not (1 == code_of v)) b.1 in
    let d = both (not (0 == code_of v)) (not (1 == code_of v)) c.1 in
    (b.0, not_true (60 == code_of v) c.0, not_true (0 == code_of v) d.0, not_true (1 == code_of v) d.1)

-- a text has the code of a word just where it is its spelling
pub word_code : (v : Word) (text : List ℕ) → (code_in words text == code_of v) ≡ bytes_eq text (spelling v)
word_code v text =
    let a = both (agrees v words) _ (all_known v) in
    let d = differs v in
    found v text words a.0 d.1 ∙ ap (λ h. bytes_eq text (spelling v) && h) d.0 ∙ and_true (bytes_eq text (spelling v))
  where
    and_true : (b : Bool) → b && true ≡ b
    and_true true = refl
    and_true false = refl

-- no word has the code of a NAME
pub not_name : (v : Word) → (name_code == code_of v) ≡ false
not_name v = (differs v).2

-- no word has the code of a NUMBER
pub not_number : (v : Word) → (number_code == code_of v) ≡ false
not_number v = (differs v).3

-- nor has a text the code of a NAME
pub other_not_name : (text : List ℕ) → (code_in words text == name_code) ≡ false
other_not_name text = in_words words
  where
    by_test : (b : Bool) (c d : ℕ) → (c == name_code) ≡ false → (d == name_code) ≡ false → (cond b c d == name_code) ≡ false
    by_test true c d e f = e
    by_test false c d e f = f

    turned : (v : Word) → (code_of v == name_code) ≡ false
    turned v = false_from_ne_true (code_of v == name_code) (λ e. no (name_code == code_of v) (eq-eqb name_code (code_of v) (sym (eqb-true (code_of v) name_code e))) (not_name v))
      where
        no : (b : Bool) → b ≡ true → b ≡ false → ⊥
        no b e f = cc

    in_words : (us : List Word) → (code_in us text == name_code) ≡ false
    in_words [] = refl
    in_words (u ∷ us) = by_test (bytes_eq (spelling u) text) (code_of u) (code_in us text) (turned u) (in_words us)

-- nor that of a NUMBER
pub other_not_number : (text : List ℕ) → (code_in words text == number_code) ≡ false
other_not_number text = in_words words
  where
    by_test : (b : Bool) (c d : ℕ) → (c == number_code) ≡ false → (d == number_code) ≡ false → (cond b c d == number_code) ≡ false
    by_test true c d e f = e
    by_test false c d e f = f

    turned : (v : Word) → (code_of v == number_code) ≡ false
    turned v = false_from_ne_true (code_of v == number_code) (λ e. no (number_code == code_of v) (eq-eqb number_code (code_of v) (sym (eqb-true (code_of v) number_code e))) (not_number v))
      where
        no : (b : Bool) → b ≡ true → b ≡ false → ⊥
        no b e f = cc

    in_words : (us : List Word) → (code_in us text == number_code) ≡ false
    in_words [] = refl
    in_words (u ∷ us) = by_test (bytes_eq (spelling u) text) (code_of u) (code_in us text) (turned u) (in_words us)
