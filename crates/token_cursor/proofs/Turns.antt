-- A recursion on a count of turns, beside a loop that counts up.
use Rattle.std.proofs.Common.{◌≡◌, ℕ, zero, suc, ◌+◌, ◌-◌, ◌<◌, ◌≤◌, Bool, true, false, cond, ◌||◌, ◌==◌, List, [], ◌∷◌, ◌++◌, length, refl, ap, sym, ◌∙◌, arith}
use Rattle.std.specs.List.{list_any}
use Rattle.text_tokens.specs.Text.{Token}
use Rattle.grammar_laws.specs.Grammar.{Outcome, Got, Bad, Deep, Parser, and_then, has, gather, next_in}
use Rattle.surface_grammar.specs.declared.words.Word.{Word}
use Rattle.surface_grammar.specs.declared.words.Word.TheVariants as w
use Rattle.surface_grammar.specs.Words.{code, code_of}
use Rattle.surface_grammar.specs.Grammar.{G, word, ◌▷◌, yes, listed}
use Rattle.surface_grammar.specs.Language.{At}
use Rattle.token_cursor.specs.Syntax.{turns, skip}

pub one_more : {X : Type 0} {x : X} (f : ℕ → X) (n at : ℕ) → at < n → x ≡ f (n - at) → x ≡ f (suc (n - (at + 1)))
one_more f n at below e = let turn : n - at ≡ suc (n - (at + 1)) = omega arith in e ∙ ap f turn

pub no_more : {X : Type 0} {x : X} (f : ℕ → X) (n at : ℕ) → n ≤ at → x ≡ f (n - at) → x ≡ f 0
no_more f n at done e = let none : n - at ≡ 0 = omega arith in e ∙ ap f none

-- one turn of a loop over items
pub turn_on : {A : Type 0} {o : Outcome Token (List A)} (n : ℕ) (fs : List ℕ) (item : G A) (end at : ℕ) (found longer : List A) (ts rest : List Token) (x : A)
    → at < end → o ≡ turns n fs item (end - at) found ts → next_in code fs ts ≡ true → At n item ts ≡ Got x rest → longer ≡ found ++ x ∷ []
    → o ≡ turns n fs item (end - (at + 1)) longer rest
turn_on {A = A} n fs item end at found longer ts rest x below e next read push =
    let gather_on : ℕ → List A → List Token → Outcome Token (List A) = λ left all us. gather code fs (λ vs. At n item vs) left all us in
    one_more (λ left. turns n fs item left found ts) end at below e
    ∙ ap (λ b. and_then (cond b (and_then (At n item ts) (λ y r. gather_on (end - (at + 1)) (found ++ y ∷ []) r)) (Got found ts)) (λ xs r. Got xs r)) next
    ∙ ap (λ p. and_then (and_then p (λ y r. gather_on (end - (at + 1)) (found ++ y ∷ []) r)) (λ xs r. Got xs r)) read
    ∙ ap (λ all. and_then (gather_on (end - (at + 1)) all rest) (λ xs r. Got xs r)) (sym push)

-- a comma and an item
pub comma_item : {A : Type 0} (n : ℕ) (item : G A) (ts mid rest : List Token) (x : A) → skip w.Comma ts ≡ Got (tt {0}) mid → At n item mid ≡ Got x rest
    → At n (word w.Comma ▷ item) ts ≡ Got x rest
unfolding skip
comma_item n item ts mid rest x e h =
    ap (λ o. and_then o (λ _ r. and_then (At n item r) (λ y s. Got y s))) e ∙ ap (λ o. and_then o (λ y s. Got y s)) h

pub begun : (r b : Bool) {v : Bool} → r ≡ b → r ≡ v → b ≡ v
begun r b e t = sym e ∙ t

-- what is found before the turns stands in front
then_then : {A B C : Type 0} (o : Outcome Token A) (f : A → Parser Token B) (h : B → Parser Token C) → and_then (and_then o f) h ≡ and_then o (λ x r. and_then (f x r) h)
then_then (Got x r) f h = refl
then_then (Bad r) f h = refl
then_then (Deep r) f h = refl

then_same : {A B : Type 0} (o : Outcome Token A) (f h : A → Parser Token B) → ((x : A) (r : List Token) → f x r ≡ h x r) → and_then o f ≡ and_then o h
then_same (Got x r) f h e = e x r
then_same (Bad r) f h e = refl
then_same (Deep r) f h e = refl

choice : {A B : Type 0} (b : Bool) (o r : Outcome Token A) (f : A → Parser Token B) → and_then (cond b o r) f ≡ cond b (and_then o f) (and_then r f)
choice true o r f = refl
choice false o r f = refl

gather_front : {A : Type 0} (fs : List ℕ) (p : Parser Token A) (n : ℕ) (x : A) (found : List A) (ts : List Token)
    → gather code fs p n (x ∷ found) ts ≡ and_then (gather code fs p n found ts) (λ xs r. Got (x ∷ xs) r)
gather_front fs p zero x found ts = refl
gather_front fs p (suc n) x found ts =
    ap (λ o. cond (next_in code fs ts) o (Got (x ∷ found) ts))
    (then_same (p ts) (λ y r. gather code fs p n (x ∷ (found ++ y ∷ [])) r) (λ y r. and_then (gather code fs p n (found ++ y ∷ []) r) (λ xs s. Got (x ∷ xs) s))
    (λ y r. gather_front fs p n x (found ++ y ∷ []) r)
    ∙ sym (then_then (p ts) (λ y r. gather code fs p n (found ++ y ∷ []) r) (λ xs s. Got (x ∷ xs) s)))
    ∙ sym (choice (next_in code fs ts) (and_then (p ts) (λ y r. gather code fs p n (found ++ y ∷ []) r)) (Got found ts) (λ xs s. Got (x ∷ xs) s))

-- items between commas, of which the first is read
pub list_on : {A : Type 0} (n : ℕ) (item : G A) (ts rest : List Token) (x : A) (found : List A) (left : ℕ) → At n item ts ≡ Got x rest → left ≡ length rest → found ≡ x ∷ []
    → At n (listed item) ts ≡ turns n (yes (w.Comma ∷ [])) (word w.Comma ▷ item) (left - 0) found rest
list_on {A = A} n item ts rest x found left e l k =
    let go : Parser Token A = λ us. At n (word w.Comma ▷ item) us in
    ap (λ o. and_then o (λ y r. and_then (and_then (gather code (yes (w.Comma ∷ [])) go (length r) [] r) (λ xs s. Got xs s)) (λ ys s. Got (y ∷ ys) s))) e
    ∙ ap (λ m. and_then (and_then (gather code (yes (w.Comma ∷ [])) go m [] rest) (λ xs s. Got xs s)) (λ ys s. Got (x ∷ ys) s)) (sym l)
    ∙ then_then (gather code (yes (w.Comma ∷ [])) go left [] rest) (λ xs s. Got xs s) (λ ys s. Got (x ∷ ys) s)
    ∙ sym (plain (gather code (yes (w.Comma ∷ [])) go left (x ∷ []) rest) ∙ gather_front (yes (w.Comma ∷ [])) go left x [] rest)
    ∙ ap (λ f. turns n (yes (w.Comma ∷ [])) (word w.Comma ▷ item) left f rest) (sym k)
    ∙ ap (λ m. turns n (yes (w.Comma ∷ [])) (word w.Comma ▷ item) m found rest) (no_less left)
  where
    no_less : (m : ℕ) → m ≡ m - 0
    no_less m = omega arith

    plain : (o : Outcome Token (List A)) → and_then o (λ xs r. Got xs r) ≡ o
    plain (Got xs r) = refl
    plain (Bad r) = refl
    plain (Deep r) = refl

-- one of the words has the code
pub any_is : (c : ℕ) (vs : List Word) → list_any (λ v. c == code_of v) vs ≡ has c (yes vs)
any_is c [] = refl
any_is c (v ∷ vs) = ap (λ b. (c == code_of v) || b) (any_is c vs)

-- no item comes next
pub turns_stop : {A : Type 0} (n : ℕ) (fs : List ℕ) (item : G A) (end at : ℕ) (found : List A) (ts : List Token) → at < end → next_in code fs ts ≡ false
    → turns n fs item (end - at) found ts ≡ Got found ts
turns_stop {A = A} n fs item end at found ts below next =
    one_more (λ left. turns n fs item left found ts) end at below refl
    ∙ ap (λ b. and_then (cond b (and_then (At n item ts) (λ y r. gather code fs (λ vs. At n item vs) (end - (at + 1)) (found ++ y ∷ []) r)) (Got found ts)) (λ xs r. Got xs r)) next

-- no turn is left
pub turns_end : {A : Type 0} (n : ℕ) (fs : List ℕ) (item : G A) (end at : ℕ) (found : List A) (ts : List Token) → end ≤ at → turns n fs item (end - at) found ts ≡ Got found ts
turns_end n fs item end at found ts done = no_more (λ left. turns n fs item left found ts) end at done refl
